use Rattle.std.proofs.Common.{◌≡◌, inl, inr, suc, ◌+◌, ◌-◌, sym, ◌∙◌, ap, arith, add-one}
use Rattle.std.proofs.lemmas.Result.{IfOk-weaker}
use Rattle.life_pieces.proofs.NeedLemmas.{adds-more, AreParts, depth-square, is-piece, joined-is, parts-of_pieces, own-part, still-needs}
use Rattle.life_base.proofs.Results.{on_err_any, on_err_both, if_ok_two}
use Rattle.life_base.specs.Rules.{has_digit}
use Rattle.life_base.specs.Sets.{OuterTotalistic}
use Rattle.life_base.specs.Tree.{depth, tree_cell}
use Rattle.life_quad.proofs.KeepingLemmas.{keeps-then, adds-as}
use Rattle.life_next.specs.Generation.{next_life}
use Rattle.life_pieces.specs.Pieces.{square_from}
use Rattle.life_block.proofs.RememberedLemmas.{Remembers-none}
use Rattle.life_block.proofs.RootLemmas.{IsDivided, IsDivided-kept, quarters-at, outer, root-next, known-north_west, known-north_east, known-south_west, known-south_east, around-north_west, around-north_east, around-south_west, around-south_east, corner-part}
use Rattle.life_block.proofs.blocks.next_life_square.Given.{Over}
use Rattle.life_block.proofs.blocks.next_life_square.Goals.{After-empty-blank, After-join}
use Rattle.life_block.proofs.blocks.next_life_square.Goals as goal

pub returns-then-level-le3-clause-level : goal.returns-then-level-le3-clause-level
returns-then-level-le3-clause-level g c =
    let t = g.S.Squares.content c.args.squares.now c.args.id in
    let f = next_life c.args.rule.now (tree_cell t) in
    IfOk-weaker c.next_of_small.result _ _ (λ r e. ap depth e ∙ depth-square f (suc (depth t)) (outer t) (outer t) ∙ sym (add-one (depth t)))
    c.next_of_small.ensures.square

pub returns-then-level-le3-clause-next : goal.returns-then-level-le3-clause-next
returns-then-level-le3-clause-next g c =
    let t = g.S.Squares.content c.args.squares.now c.args.id in
    let f = next_life c.args.rule.now (tree_cell t) in
    let quiet = ap (λ (d : OuterTotalistic). has_digit d.sets.births 0) (sym c.rule.view_is) ∙ c.rule.invariant.no_birth_on_zero in
    if_ok_two c.next_of_small.result
    (λ r known e.
    let u = g.S.Squares.content c.next_of_small.new.squares r in
    root-next c.args.rule.now t u quiet (omega (arith, c.requires.high)) (g.met.S.Squares.full _ _ known)
    (ap depth e ∙ depth-square f (suc (depth t)) (outer t) (outer t) ∙ sym (add-one (depth t)))
    (is-piece f (suc (depth t)) (outer t) (outer t) u e))
    c.next_of_small.ensures.known c.next_of_small.ensures.square

-- the square's quarters, and a blank one of their level
divided : (g : Over) (c : After-empty-blank g)
    → IsDivided (g.S.Squares.knows c.args.squares.now) (g.S.Squares.content c.args.squares.now) (g.S.Squares.content c.args.squares.now c.args.id)
    (c.level-level.result - 1) c.divide-root.result
    c.empty-blank.result
divided g c =
    let s = c.args.squares.now in
    let t = g.S.Squares.content s c.args.id in
    let k = c.level-level.result - 1 in
    let d = c.divide-root.ensures in
    let e = c.empty-blank.ensures in
    let level : depth t ≡ k + 1 = omega (arith, c.level-level.ensures.level, c.requires.high) in
    record {
      level = level;
      quarters = quarters-at (g.S.Squares.knows s) (g.S.Squares.content s) t c.divide-root.result c.empty-blank.result k
          (g.met.S.Squares.full _ _ c.requires.known) level
          d.square d.quarters.nw d.quarters.ne d.quarters.sw d.quarters.se e.known e.square e.level;
    }

pub next_of_middle-requires-clause-remembers : goal.next_of_middle-requires-clause-remembers
next_of_middle-requires-clause-remembers g c = Remembers-none c.new-memory.ensures

pub next_of_middle-requires-clause-known : goal.next_of_middle-requires-clause-known
next_of_middle-requires-clause-known g c =
    let d = divided g (goal.at.next_of_middle-requires-clause-known g c).After-empty-blank in
    known-south_east d.quarters c.with-around.ensures

pub next_of_middle-requires-2-clause-known : goal.next_of_middle-requires-2-clause-known
next_of_middle-requires-2-clause-known g c =
    let d = divided g (goal.at.next_of_middle-requires-2-clause-known g c).After-empty-blank in
    known-south_west (IsDivided-kept c.in_ok-north_west.ensures.keeps d).quarters c.with-around-2.ensures

pub next_of_middle-requires-3-clause-known : goal.next_of_middle-requires-3-clause-known
next_of_middle-requires-3-clause-known g c =
    let d = divided g (goal.at.next_of_middle-requires-3-clause-known g c).After-empty-blank in
    known-north_east (IsDivided-kept (keeps-then c.in_ok-north_west.ensures.keeps c.in_ok-north_east.ensures.keeps) d).quarters c.with-around-3.ensures

pub next_of_middle-requires-4-clause-known : goal.next_of_middle-requires-4-clause-known
next_of_middle-requires-4-clause-known g c =
    let d = divided g (goal.at.next_of_middle-requires-4-clause-known g c).After-empty-blank in
    known-north_west (IsDivided-kept
    (keeps-then (keeps-then c.in_ok-north_west.ensures.keeps c.in_ok-north_east.ensures.keeps) c.in_ok-south_west.ensures.keeps) d).quarters
    c.with-around-4.ensures

pub returns-in_err-south_west-clause-keeps : goal.returns-in_err-south_west-clause-keeps
returns-in_err-south_west-clause-keeps g c =
    keeps-then (keeps-then c.in_ok-north_west.ensures.keeps c.in_ok-north_east.ensures.keeps) c.in_err-south_west.ensures.keeps

pub returns-in_err-south_east-clause-keeps : goal.returns-in_err-south_east-clause-keeps
returns-in_err-south_east-clause-keeps g c =
    keeps-then (keeps-then (keeps-then c.in_ok-north_west.ensures.keeps c.in_ok-north_east.ensures.keeps) c.in_ok-south_west.ensures.keeps)
    c.in_err-south_east.ensures.keeps

pub returns-clause-keeps : goal.returns-clause-keeps
returns-clause-keeps g c =
    keeps-then (keeps-then (keeps-then (keeps-then c.in_ok-north_west.ensures.keeps c.in_ok-north_east.ensures.keeps) c.in_ok-south_west.ensures.keeps)
    c.in_ok-south_east.ensures.keeps) c.join.ensures.keeps

-- the four answers are the quarters of the next square
parts : (g : Over) (c : After-join g) → let t = g.S.Squares.content c.args.squares.now c.args.id in
    let now = g.S.Squares.content c.next_of_middle-4.new.squares in
    IsDivided (g.S.Squares.knows c.args.squares.now) (g.S.Squares.content c.args.squares.now) t (c.level-level.result - 1) c.divide-root.result
    c.empty-blank.result
    → AreParts (next_life c.args.rule.now (tree_cell t)) (depth t) (outer t) (outer t) (now c.in_ok-north_west.north_west) (now c.in_ok-north_east.north_east)
    (now c.in_ok-south_west.south_west)
    (now c.in_ok-south_east.south_east)
parts g c d =
    let states = c.requires.states in
    let nw = c.in_ok-north_west.ensures in
    let ne = c.in_ok-north_east.ensures in
    let sw = c.in_ok-south_west.ensures in
    let se = c.in_ok-south_east.ensures in
    let north = keeps-then nw.keeps ne.keeps in
    parts-of_pieces _ _ g.met.S.Squares.full (sym d.level) _ _ ne.keeps sw.keeps se.keeps nw.at ne.at sw.at se.at
    (nw.next _ _ _ states (around-north_west d c.with-around.ensures))
    (ne.next _ _ _ states (around-north_east (IsDivided-kept nw.keeps d) c.with-around-2.ensures))
    (sw.next _ _ _ states (around-south_west (IsDivided-kept north d) c.with-around-3.ensures))
    (se.next _ _ _ states (around-south_east (IsDivided-kept (keeps-then north sw.keeps) d) c.with-around-4.ensures))

pub returns-clause-next : goal.returns-clause-next
returns-clause-next g c =
    let t = g.S.Squares.content c.args.squares.now c.args.id in
    let f = next_life c.args.rule.now (tree_cell t) in
    let k = depth t in
    let quiet = ap (λ (d : OuterTotalistic). has_digit d.sets.births 0) (sym c.rule.view_is) ∙ c.rule.invariant.no_birth_on_zero in
    let joined = joined-is (parts g (goal.at.returns-clause-next g c).After-join (divided g (goal.at.returns-clause-next g c).After-empty-blank)) in
    if_ok_two c.join.result
    (λ r known e.
    let u = g.S.Squares.content c.join.new.self r in
    let is : u ≡ square_from f (suc k) (outer t) (outer t) = e ∙ joined in
    root-next c.args.rule.now t u quiet (omega (arith, c.requires.high)) (g.met.S.Squares.full _ _ known)
    (ap depth is ∙ depth-square f (suc k) (outer t) (outer t) ∙ sym (add-one k))
    (is-piece f (suc k) (outer t) (outer t) u is))
    c.join.ensures.known c.join.ensures.square

pub returns-in_err-north_west-clause-needed : goal.returns-in_err-north_west-clause-needed
returns-in_err-north_west-clause-needed g c =
    let d = divided g (goal.at.returns-in_err-north_west-clause-needed g c).After-empty-blank in
    on_err_any c.from_residual.result
    (corner-part d (g.S.Squares.needs_node c.next_of_middle.new.squares) _ (inl
    (c.in_err-north_west.ensures.needed _ _ _ c.requires.states (around-north_west d c.with-around.ensures))))

pub returns-in_err-north_east-clause-needed : goal.returns-in_err-north_east-clause-needed
returns-in_err-north_east-clause-needed g c =
    let d = IsDivided-kept c.in_ok-north_west.ensures.keeps (divided g (goal.at.returns-in_err-north_east-clause-needed g c).After-empty-blank) in
    on_err_any c.from_residual-in_err-north_east.result
    (corner-part d (g.S.Squares.needs_node c.next_of_middle-2.new.squares) _ (inr (inl
    (c.in_err-north_east.ensures.needed _ _ _ c.requires.states (around-north_east d c.with-around-2.ensures)))))

pub returns-in_err-south_west-clause-needed : goal.returns-in_err-south_west-clause-needed
returns-in_err-south_west-clause-needed g c =
    let d = IsDivided-kept (keeps-then c.in_ok-north_west.ensures.keeps c.in_ok-north_east.ensures.keeps)
    (divided g (goal.at.returns-in_err-south_west-clause-needed g c).After-empty-blank) in
    on_err_any c.from_residual-in_err-south_west.result
    (corner-part d (g.S.Squares.needs_node c.next_of_middle-3.new.squares) _ (inr (inr (inl
    (c.in_err-south_west.ensures.needed _ _ _ c.requires.states (around-south_west d c.with-around-3.ensures))))))

pub returns-in_err-south_east-clause-needed : goal.returns-in_err-south_east-clause-needed
returns-in_err-south_east-clause-needed g c =
    let d = IsDivided-kept (keeps-then (keeps-then c.in_ok-north_west.ensures.keeps c.in_ok-north_east.ensures.keeps) c.in_ok-south_west.ensures.keeps)
    (divided g (goal.at.returns-in_err-south_east-clause-needed g c).After-empty-blank) in
    on_err_any c.from_residual-in_err-south_east.result
    (corner-part d (g.S.Squares.needs_node c.next_of_middle-4.new.squares) _ (inr (inr (inr
    (c.in_err-south_east.ensures.needed _ _ _ c.requires.states (around-south_east d c.with-around-4.ensures))))))

pub returns-clause-needed : goal.returns-clause-needed
returns-clause-needed g c =
    let N = g.S.Squares.needs_node in
    let joined = joined-is (parts g (goal.at.returns-clause-needed g c).After-join (divided g (goal.at.returns-clause-needed g c).After-empty-blank)) in
    on_err_both c.join.result (λ needs same. own-part (N c.join.new.self) _ _ _ _ _ joined (still-needs N _ _ _ same needs))
    c.join.ensures.needed c.join.ensures.unchanged

pub returns-in_err-north_west-clause-adds : goal.returns-in_err-north_west-clause-adds
returns-in_err-north_west-clause-adds g c =
    let d = divided g (goal.at.returns-in_err-north_west-clause-adds g c).After-empty-blank in
    adds-as _ c.in_err-north_west.ensures.adds
    (λ P s. corner-part d P _ (inl (s _ _ _ c.requires.states (around-north_west d c.with-around.ensures))))

pub returns-in_err-north_east-clause-adds : goal.returns-in_err-north_east-clause-adds
returns-in_err-north_east-clause-adds g c =
    let states = c.requires.states in
    let nw = c.in_ok-north_west.ensures in
    let d = divided g (goal.at.returns-in_err-north_east-clause-adds g c).After-empty-blank in
    let e = IsDivided-kept nw.keeps d in
    adds-more
    (adds-as _ nw.adds (λ P s. corner-part d P _ (inl (s _ _ _ states (around-north_west d c.with-around.ensures)))))
    c.in_err-north_east.ensures.adds (λ P s. corner-part e P _ (inr (inl (s _ _ _ states (around-north_east e c.with-around-2.ensures)))))

pub returns-in_err-south_west-clause-adds : goal.returns-in_err-south_west-clause-adds
returns-in_err-south_west-clause-adds g c =
    let states = c.requires.states in
    let nw = c.in_ok-north_west.ensures in
    let ne = c.in_ok-north_east.ensures in
    let d = divided g (goal.at.returns-in_err-south_west-clause-adds g c).After-empty-blank in
    let e = IsDivided-kept nw.keeps d in
    let f = IsDivided-kept (keeps-then nw.keeps ne.keeps) d in
    adds-more
    (adds-more
    (adds-as _ nw.adds (λ P s. corner-part d P _ (inl (s _ _ _ states (around-north_west d c.with-around.ensures)))))
    ne.adds (λ P s. corner-part e P _ (inr (inl (s _ _ _ states (around-north_east e c.with-around-2.ensures))))))
    c.in_err-south_west.ensures.adds (λ P s. corner-part f P _ (inr (inr (inl (s _ _ _ states (around-south_west f c.with-around-3.ensures))))))

pub returns-in_err-south_east-clause-adds : goal.returns-in_err-south_east-clause-adds
returns-in_err-south_east-clause-adds g c =
    let states = c.requires.states in
    let nw = c.in_ok-north_west.ensures in
    let ne = c.in_ok-north_east.ensures in
    let sw = c.in_ok-south_west.ensures in
    let d = divided g (goal.at.returns-in_err-south_east-clause-adds g c).After-empty-blank in
    let e = IsDivided-kept nw.keeps d in
    let f = IsDivided-kept (keeps-then nw.keeps ne.keeps) d in
    let h = IsDivided-kept (keeps-then (keeps-then nw.keeps ne.keeps) sw.keeps) d in
    adds-more
    (adds-more
    (adds-more
    (adds-as _ nw.adds (λ P s. corner-part d P _ (inl (s _ _ _ states (around-north_west d c.with-around.ensures)))))
    ne.adds (λ P s. corner-part e P _ (inr (inl (s _ _ _ states (around-north_east e c.with-around-2.ensures))))))
    sw.adds (λ P s. corner-part f P _ (inr (inr (inl (s _ _ _ states (around-south_west f c.with-around-3.ensures)))))))
    c.in_err-south_east.ensures.adds (λ P s. corner-part h P _ (inr (inr (inr (s _ _ _ states (around-south_east h c.with-around-4.ensures))))))

pub returns-clause-adds : goal.returns-clause-adds
returns-clause-adds g c =
    let states = c.requires.states in
    let nw = c.in_ok-north_west.ensures in
    let ne = c.in_ok-north_east.ensures in
    let sw = c.in_ok-south_west.ensures in
    let d = divided g (goal.at.returns-clause-adds g c).After-empty-blank in
    let e = IsDivided-kept nw.keeps d in
    let f = IsDivided-kept (keeps-then nw.keeps ne.keeps) d in
    let h = IsDivided-kept (keeps-then (keeps-then nw.keeps ne.keeps) sw.keeps) d in
    let joined = joined-is (parts g (goal.at.returns-clause-adds g c).After-join d) in
    adds-more
    (adds-more
    (adds-more
    (adds-more
    (adds-as _ nw.adds (λ P s. corner-part d P _ (inl (s _ _ _ states (around-north_west d c.with-around.ensures)))))
    ne.adds (λ P s. corner-part e P _ (inr (inl (s _ _ _ states (around-north_east e c.with-around-2.ensures))))))
    sw.adds (λ P s. corner-part f P _ (inr (inr (inl (s _ _ _ states (around-south_west f c.with-around-3.ensures)))))))
    c.in_ok-south_east.ensures.adds (λ P s. corner-part h P _ (inr (inr (inr (s _ _ _ states (around-south_east h c.with-around-4.ensures)))))))
    c.join.ensures.adds (λ P p. own-part P _ _ _ _ _ joined p)
