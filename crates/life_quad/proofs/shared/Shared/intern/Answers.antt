use Rattle.std.proofs.Common.{◌≡◌, ◌+◌, ◌∷◌, [], ◌++◌, length, Contains, arith, true, false, refl, sym, ◌∙◌, ap, subst, Ok, Err, length-append, if◌then◌else◌, is_some, is_ok, not}
use Rattle.std.proofs.lemmas.List.{same_from_push}
use Rattle.life_base.specs.declared.kind.Kind.TheVariants.{Memory}
use Rattle.life_quad.specs.IdMap.{value_of_id}
use Rattle.life_quad.proofs.StoreLemmas.{levels-push}
use Rattle.life_base.specs.Tree.{depth}
use Rattle.life_quad.specs.Store.{Nodes, squares, levels_of, node_square, id_of, IsNode, IsSoundStore, IsShared, AnswersJoin}
use Rattle.life_quad.specs.contracts.shared.Shared.{the_view}
use Rattle.life_quad.proofs.GrowLemmas.{with_both}
use Rattle.life_quad.proofs.CallLemmas.{HasSpace, absent_node, node_there, node_added, sound_added, answers_refused, answers_memory, HasSeen-node, position_node, not_there, inserted, found}
use Rattle.life_quad.proofs.shared.Shared.intern.Goals as goal

pub returns-in_default-get_index_of : goal.returns-in_default-get_index_of
returns-in_default-get_index_of c =
    let s = the_view c.self.inside in
    let inv = c.self.invariant in
    let node = subst (λ v. IsNode v.log (squares v.nodes) (length v.nodes) c.args.node) (sym c.self.view_is) c.requires.sound in
    let missing : ¬ Contains s.nodes c.args.node = not_there s.nodes c.args.node (sym c.get_index_of.ensures.found ∙ ap is_some c.in_default-get_index_of.is) in
    let same : c.len-nodes.result + c.self.inside.small ≡ length s.log = ap (λ n. n + c.self.inside.small) c.len-nodes.ensures.len ∙ sym inv.3 in
    subst (λ v. AnswersJoin v v (node_square (squares v.nodes) c.args.node) (Err c.in-Some.kind)) c.self.view_is
    (answers_refused s s (node_square (squares s.nodes) c.args.node) c.in-Some.kind _ refl inv.1
    (absent_node s c.args.node inv.0 inv.1 node c.requires.large missing) c.in-Some.ensures.space same c.in-Some.ensures.full)

pub returns-in-Some : goal.returns-in-Some
returns-in-Some c =
    let s = the_view c.self.inside in
    let inv = c.self.invariant in
    let i = c.in-Some-get_index_of.i in
    let at = position_node s.nodes c.args.node i (sym c.get_index_of.ensures.index ∙ c.in-Some-get_index_of.is) in
    subst (λ v. AnswersJoin v v (node_square (squares v.nodes) c.args.node) (Ok (id_of (66064 + i)))) c.self.view_is (node_there s c.args.node i inv.0 inv.1 at)

pub returns-in_err-i : goal.returns-in_err-i
returns-in_err-i c =
    let s = the_view c.self.inside in
    let inv = c.self.invariant in
    let new : Nodes = record { nodes = c.insert_full.new.self.keys; log = s.log; limit = s.limit } in
    let node = subst (λ v. IsNode v.log (squares v.nodes) (length v.nodes) c.args.node) (sym c.self.view_is) c.requires.sound in
    let missing : ¬ Contains s.nodes c.args.node = not_there s.nodes c.args.node c.in_err-i.ensures.absent in
    let kept = c.in_err-i.ensures.err in
    let reported = c.from_residual.ensures in
    let len = c.len-nodes.ensures.len in
    let more = inv.3 in
    let space = c.in_default.ensures.space.0 in
    subst (λ v. AnswersJoin v new (node_square (squares v.nodes) c.args.node) c.from_residual.result) c.self.view_is
    (answers_memory s new (node_square (squares s.nodes) c.args.node) c.from_residual.result (λ i. record { nodes = kept i; log = s.log; limit = s.limit })
    inv.1
    (absent_node s c.args.node inv.0 inv.1 node c.requires.large missing) (omega (arith, len, more, space)) _ (λ k e. e) reported.0 reported.1)

-- the node that was added last, which is taken back where memory for its level is refused
dropped : (c : goal.After-drop_last) → (¬ Contains c.self.inside.nodes.keys c.args.node) × (c.drop_last.new.nodes.keys ≡ c.self.inside.nodes.keys)
dropped c =
    let old = c.self.inside.nodes.keys in
    let one : length c.insert_full.new.self.keys ≡ length old + 1 =
    c.in_ok-i.ensures.len ∙ ap (λ b. length old + (if b then 1 else 0)) c.if-is_new.true in
    let is = inserted old c.insert_full.new.self.keys c.args.node c.in_ok-i.i c.in_ok-i.ensures.keys one c.in_ok-i.ensures.stored in
    (is.0, (same_from_push _ _ _ _ (sym c.drop_last.ensures.1 ∙ is.1)).0)

pub invariant_of-self-then-is_err : goal.invariant_of-self-then-is_err
invariant_of-self-then-is_err c =
    let inv = c.self.invariant in
    let back = sym (dropped c).1 in
    let refused : is_ok c.push.result ≡ false = c.is_err.ensures.negation ∙ ap not c.if-is_err.true in (
      subst (λ ns. IsSoundStore (record { nodes = ns; log = c.self.inside.log.ids; limit = c.self.inside.limit })) back inv.0,
      subst (λ ns. IsShared (record { nodes = ns; log = c.self.inside.log.ids; limit = c.self.inside.limit })) back inv.1,
      inv.2,
      inv.3 ∙ ap (λ ns. length ns + c.self.inside.small) back,
      c.push.ensures.items ∙ ap (λ b. if b then c.self.inside.levels.items ++ c.args.level ∷ [] else c.self.inside.levels.items) refused ∙ inv.4
          ∙ ap levels_of back,
    )

pub returns-then-is_err : goal.returns-then-is_err
returns-then-is_err c =
    let s = the_view c.self.inside in
    let inv = c.self.invariant in
    let d = dropped c in
    let new : Nodes = record { nodes = c.drop_last.new.nodes.keys; log = s.log; limit = s.limit } in
    let node = subst (λ v. IsNode v.log (squares v.nodes) (length v.nodes) c.args.node) (sym c.self.view_is) c.requires.sound in
    let len = c.len-nodes.ensures.len in
    let more = inv.3 in
    let space = c.in_default.ensures.space.0 in
    subst (λ v. AnswersJoin v new (node_square (squares v.nodes) c.args.node) (Err Memory)) c.self.view_is
    (answers_memory s new (node_square (squares s.nodes) c.args.node) (Err Memory) (λ i. record { nodes = d.1 i; log = s.log; limit = s.limit }) inv.1
    (absent_node s c.args.node inv.0 inv.1 node c.requires.large d.0) (omega (arith, len, more, space)) (λ k. k ≡ Memory) (λ k e. e) refl refl)

abbrev old : goal.After-self-1 → Nodes
old c = the_view c.self.inside

abbrev new : goal.After-self-1 → Nodes
new c = record { nodes = c.insert_full.new.self.keys; log = c.then-self-inside.result.ids; limit = c.self.inside.limit }

-- the node is new and the last one, and there was space for it
added : (c : goal.After-self-1)
    → IsNode (old c).log (squares (old c).nodes) (length (old c).nodes) c.args.node × (¬ Contains (old c).nodes c.args.node) × HasSpace (old c)
    × (new c ≡ with_both (old c) c.args.node) × (c.in_ok-i.i ≡ length (old c).nodes)
added c =
    let s = old c in
    let i = c.in_ok-i.i in
    let one : length (new c).nodes ≡ length s.nodes + 1 = c.in_ok-i.ensures.len ∙ ap (λ b. length s.nodes + (if b then 1 else 0)) c.if-is_new.true in
    let is = inserted s.nodes (new c).nodes c.args.node i c.in_ok-i.ensures.keys one c.in_ok-i.ensures.stored in
    let grown : (new c).log ≡ s.log ++ (66064 + i) ∷ [] = c.then-self-inside.ensures in
    let last : (new c).log ≡ s.log ++ (66064 + length s.nodes) ∷ [] = grown ∙ ap (λ j. s.log ++ (66064 + j) ∷ []) is.2 in
    let node = subst (λ v. IsNode v.log (squares v.nodes) (length v.nodes) c.args.node) (sym c.self.view_is) c.requires.sound in
    let len = c.len-nodes.ensures.len in
    let more = c.self.invariant.3 in
    let limit = c.in_default.ensures.space.0 in
    let few = c.in_default.ensures.space.1 in
    let space : HasSpace s = record { limit = omega (arith, len, more, limit); few = omega (arith, len, few) } in
    (node, is.0, space, (λ j. record { nodes = is.1 j; log = last j; limit = s.limit }), is.2)

pub invariant_of-self-then-is_new : goal.invariant_of-self-then-is_new
invariant_of-self-then-is_new c =
    let s = old c in
    let inv = c.self.invariant in
    let a = added c in
    let sound = sound_added s (new c) c.args.node inv.0 inv.1 a.0 c.requires.large a.1 a.2 a.3 in
    let last : (new c).log ≡ s.log ++ (66064 + length s.nodes) ∷ [] = ap (λ v. v.log) a.3 in
    let longer = ap length last ∙ length-append s.log ((66064 + length s.nodes) ∷ []) in
    let nodes : (new c).nodes ≡ s.nodes ++ c.args.node ∷ [] = ap (λ v. v.nodes) a.3 in
    let one = ap length nodes ∙ length-append s.nodes (c.args.node ∷ []) in
    let more = inv.3 in
    let level : c.args.level ≡ depth (node_square (squares s.nodes) c.args.node) = subst (λ v. c.args.level ≡ depth (node_square (squares v.nodes) c.args.node))
    (sym c.self.view_is) c.requires.level in
    let pushed : is_ok c.push.result ≡ true = c.is_err.ensures.negation ∙ ap not c.if-is_err.false in
    let levels = c.push.ensures.items ∙ ap (λ b. if b then c.self.inside.levels.items ++ c.args.level ∷ [] else c.self.inside.levels.items) pushed
    ∙ ap (λ l. l ++ c.args.level ∷ []) inv.4
    ∙ ap (λ v. levels_of s.nodes ++ v ∷ []) level
    ∙ sym (ap levels_of nodes ∙ levels-push s.nodes c.args.node) in (
      sound.0,
      sound.1,
      HasSeen-node (value_of_id c.self.inside.seen) s.log (new c).log (66064 + length s.nodes) inv.2 (omega arith) last,
      omega
          (arith, longer, more, one),
      levels,
    )

pub returns-else-is_err : goal.returns-else-is_err
returns-else-is_err c =
    let s = old c in
    let inv = c.self.invariant in
    let a = added c in
    let i = c.in_ok-i.i in
    subst (λ v. AnswersJoin v (new c) (node_square (squares v.nodes) c.args.node) (Ok (id_of (66064 + i)))) c.self.view_is
    (node_added s (new c) c.args.node i inv.0 inv.1 a.0 c.requires.large a.1 a.2 a.3 a.4)

pub returns-else-is_new : goal.returns-else-is_new
returns-else-is_new c =
    let s = the_view c.self.inside in
    let inv = c.self.invariant in
    let new : Nodes = record { nodes = c.insert_full.new.self.keys; log = s.log; limit = s.limit } in
    let i = c.in_ok-i.i in
    let len : length new.nodes ≡ length s.nodes + 0 = c.in_ok-i.ensures.len ∙ ap (λ b. length s.nodes + (if b then 1 else 0)) c.if-is_new.false in
    let none : length new.nodes ≡ length s.nodes = omega (arith, len) in
    let is = found s.nodes new.nodes c.args.node i c.in_ok-i.ensures.keys none c.in_ok-i.ensures.stored in
    let same : s ≡ new = λ i. record { nodes = sym is.0 i; log = s.log; limit = s.limit } in
    subst (λ v. AnswersJoin v new (node_square (squares v.nodes) c.args.node) (Ok (id_of (66064 + i)))) c.self.view_is
    (subst (λ v. AnswersJoin s v (node_square (squares s.nodes) c.args.node) (Ok (id_of (66064 + i)))) same (node_there s c.args.node i inv.0 inv.1 is.1))
