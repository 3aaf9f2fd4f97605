use Rattle.std.proofs.Common.{◌≡◌, suc, List, Some, arith, sym, ◌∙◌, ap, slice_get, ◌-◌, ◌<◌, ◌≤◌, length, subst, map, All}
use Rattle.std.proofs.lemmas.Option.{slice_get_within}
use Rattle.life_quad.specs.Store.{Nodes, Knows, squares, square_of, small_of, id_of}
use Rattle.life_quad.specs.declared.id.Id.{Id}
use Rattle.life_quad.specs.StoreLaws.{small_node}
use Rattle.life_quad.proofs.StoreLemmas.{square_of-small}
use Rattle.life_base.specs.Tree.{quarters, quad, blank}
use Rattle.life_quad.proofs.CallLemmas.{state_content, blank_content, node_content, small_content, parts_are, knows_quarter}
use Rattle.life_quad.proofs.id.Id.parts.Goals.{else-self-gt-CELLS-via-then-self-gt-CELLS+else-self-lt-FIRST_SMALL, else-self-gt-CELLS-via-else-self-gt-CELLS}
use Rattle.life_quad.proofs.id.Id.parts.Goals as goal

-- these are known, and the quarters of the square
abbrev AreParts : Nodes → Id → List Id → Type 0
AreParts s id ids = All (Knows s) ids × (map (square_of (squares s.nodes)) ids ≡ quarters (square_of (squares s.nodes) id))

pub returns-then-self-lt-CELLS : goal.returns-then-self-lt-CELLS
returns-then-self-lt-CELLS c = λ s e k. ap quarters (state_content s _ k c.if-self-lt-CELLS.true)

pub returns-then-self-lt-FIRST_SMALL : goal.returns-then-self-lt-FIRST_SMALL
returns-then-self-lt-FIRST_SMALL c = λ s e k.
    let q = c.of_blank-quarter.ensures in
    let known = q.known s k.sound in
    let square = sym (q.square s) in
    parts_are s (Knows s) _ _ _ _ _ known known known known
    (blank_content s _ k c.if-self-lt-CELLS.false c.if-self-lt-FIRST_SMALL.true ∙ (λ j. quad (square j) (square j) (square j) (square j)))

-- the number of a small square, or that of the blank one of level 1
of_small : (c : goal.After-small_parts) → 512 ≤ c.args.self.0 → (s : Nodes) → Knows s c.args.self → AreParts s c.args.self c.small_parts.result
of_small c l s k =
    let u = c.if-self-lt-FIRST_NODE.true in
    let same : c.max.result ≡ c.args.self.0 = let m = c.max.ensures in omega (arith, m) in
    let small = small_content s c.args.self k l u in
    let q = small.quarters in
    let there = c.small_parts.ensures q.nw q.ne q.sw q.se (small.number ∙ ap Some (sym same)) in
    subst (λ ids. All (Knows s) ids × (map (square_of (squares s.nodes)) ids ≡ quarters (square_of (squares s.nodes) c.args.self))) (sym there)
    (parts_are s (Knows s) _ (id_of q.nw) (id_of q.ne) (id_of q.sw) (id_of q.se)
    (knows_quarter s 0 _ k.sound (omega arith) small.is.nw) (knows_quarter s 0 _ k.sound (omega arith) small.is.ne)
    (knows_quarter s 0 _ k.sound (omega arith) small.is.sw) (knows_quarter s 0 _ k.sound (omega arith) small.is.se)
    (square_of-small (squares s.nodes) c.args.self l u ∙ small_node (squares s.nodes) q c.args.self.0 small.number))

of_blank-one : (c : goal.After-small_parts) → c.args.self.0 ≡ 256 → (s : Nodes) → Knows s c.args.self → AreParts s c.args.self c.small_parts.result
unfolding small_of
of_blank-one c e s k =
    let same : c.max.result ≡ 512 = let m = c.max.ensures in omega (arith, m) in
    let there = c.small_parts.ensures 0 0 0 0 (ap Some (sym same)) in
    let known : Knows s (id_of 0) = record {
      sound = k.sound;
      named = record { below = omega arith; blank = λ l. omega arith };
      joined = λ l u. absurd (omega arith);
    } in
    let square = state_content s (id_of 0) known (omega arith) in
    let level : suc (c.args.self.0 - 256) ≡ 1 = omega arith in
    subst (λ ids. All (Knows s) ids × (map (square_of (squares s.nodes)) ids ≡ quarters (square_of (squares s.nodes) c.args.self))) (sym there)
    (parts_are s (Knows s) _ (id_of 0) (id_of 0) (id_of 0) (id_of 0) known known known known
    (blank_content s _ k (omega arith) (omega arith) ∙ ap blank level ∙ (λ j. quad (sym square j) (sym square j) (sym square j) (sym square j))))

pub returns-then-self-lt-FIRST_NODE : goal.returns-then-self-lt-FIRST_NODE
returns-then-self-lt-FIRST_NODE c = λ s e k.
    elim c.else-self-gt-CELLS.branch [
      | else-self-gt-CELLS-via-then-self-gt-CELLS+else-self-lt-FIRST_SMALL w ↦ of_small c w.if-self-lt-FIRST_SMALL.false s k
      | else-self-gt-CELLS-via-else-self-gt-CELLS w ↦ of_blank-one c (let a = w.if-self-gt-CELLS.false in let b = c.if-self-lt-CELLS.false in
          omega (arith, a, b)) s k
    ]

pub returns : goal.returns
returns c = λ s e k.
    let at = ap (λ l. slice_get l (c.args.self.0 - 66064)) e ∙ sym c.in_ok-node.ensures in
    let sound = k.sound in
    let node = sound.entries _ _ at in
    let lt : c.args.self.0 - 66064 < length s.nodes = slice_get_within s.nodes _ _ at in
    parts_are s (Knows s) _ _ _ _ _
    (knows_quarter s _ _ sound (omega arith) node.nw) (knows_quarter s _ _ sound (omega arith) node.ne) (knows_quarter s _ _ sound (omega arith) node.sw)
    (knows_quarter s _ _ sound (omega arith) node.se)
    (node_content _ _ _ sound c.if-self-lt-FIRST_NODE.false at)
