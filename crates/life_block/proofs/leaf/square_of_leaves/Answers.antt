use Rattle.std.proofs.Common.{◌≡◌, inl, inr, ◌∙◌, subst}
use Rattle.std.proofs.lemmas.Result.{IfOk-weaker}
use Rattle.life_base.specs.Tree.{quad}
use Rattle.life_base.proofs.Results.{on_err_any, on_err_both}
use Rattle.life_quad.proofs.KeepingLemmas.{keeps-then, adds-then}
use Rattle.life_block.specs.Bits.{leaf_of_cells, square_of_leaves}
use Rattle.life_block.proofs.MadeLemmas.{quarters-made, adds_one, adds_two, adds_three, adds_four}
use Rattle.life_pieces.proofs.NeedLemmas.{still-needs}
use Rattle.life_block.proofs.leaf.square_of_leaves.Given.{Over}
use Rattle.life_block.proofs.leaf.square_of_leaves.Goals as goal

pub returns-in_err-sw-clause-keeps : goal.returns-in_err-sw-clause-keeps
returns-in_err-sw-clause-keeps g c = keeps-then (keeps-then c.in_ok-nw.ensures.keeps c.in_ok-ne.ensures.keeps) c.in_err-sw.ensures.keeps

pub returns-in_err-se-clause-keeps : goal.returns-in_err-se-clause-keeps
returns-in_err-se-clause-keeps g c =
    keeps-then (keeps-then (keeps-then c.in_ok-nw.ensures.keeps c.in_ok-ne.ensures.keeps) c.in_ok-sw.ensures.keeps) c.in_err-se.ensures.keeps

pub returns-clause-keeps : goal.returns-clause-keeps
returns-clause-keeps g c =
    keeps-then (keeps-then (keeps-then (keeps-then c.in_ok-nw.ensures.keeps c.in_ok-ne.ensures.keeps) c.in_ok-sw.ensures.keeps) c.in_ok-se.ensures.keeps)
    c.join.ensures.keeps

-- the four answers are its quarters
parts : (g : Over) (c : goal.After-join g) → let now = g.S.Squares.content c.leaf_of_cells-4.new.squares in
    quad (now c.in_ok-nw.nw) (now c.in_ok-ne.ne) (now c.in_ok-sw.sw) (now c.in_ok-se.se) ≡ square_of_leaves c.args.leaves.now
parts g c =
    let nw = c.in_ok-nw.ensures in
    let ne = c.in_ok-ne.ensures in
    let sw = c.in_ok-sw.ensures in
    let se = c.in_ok-se.ensures in
    quarters-made ne.keeps sw.keeps se.keeps nw.at.known ne.at.known sw.at.known nw.square ne.square sw.square se.square

pub returns-clause-square : goal.returns-clause-square
returns-clause-square g c = IfOk-weaker c.join.result _ _ (λ r e. e ∙ parts g c) c.join.ensures.square

pub returns-in_err-nw-clause-needed : goal.returns-in_err-nw-clause-needed
returns-in_err-nw-clause-needed g c = on_err_any c.from_residual.result (inr (inl c.in_err-nw.ensures.needed))

pub returns-in_err-ne-clause-needed : goal.returns-in_err-ne-clause-needed
returns-in_err-ne-clause-needed g c = on_err_any c.from_residual-in_err-ne.result (inr (inr (inl c.in_err-ne.ensures.needed)))

pub returns-in_err-sw-clause-needed : goal.returns-in_err-sw-clause-needed
returns-in_err-sw-clause-needed g c = on_err_any c.from_residual-in_err-sw.result (inr (inr (inr (inl c.in_err-sw.ensures.needed))))

pub returns-in_err-se-clause-needed : goal.returns-in_err-se-clause-needed
returns-in_err-se-clause-needed g c = on_err_any c.from_residual-in_err-se.result (inr (inr (inr (inr c.in_err-se.ensures.needed))))

pub returns-clause-needed : goal.returns-clause-needed
returns-clause-needed g c =
    let N = g.S.Squares.needs_node in
    on_err_both c.join.result (λ needs same. inl (subst (N c.join.new.self) (parts g c) (still-needs N _ _ _ same needs))) c.join.ensures.needed
    c.join.ensures.unchanged

pub returns-in_err-nw-clause-adds : goal.returns-in_err-nw-clause-adds
returns-in_err-nw-clause-adds g c =
    adds_one (leaf_of_cells c.args.leaves.now.first) (leaf_of_cells c.args.leaves.now.second) (leaf_of_cells c.args.leaves.now.third)
    (leaf_of_cells c.args.leaves.now.fourth)
    c.in_err-nw.ensures.adds

pub returns-in_err-ne-clause-adds : goal.returns-in_err-ne-clause-adds
returns-in_err-ne-clause-adds g c =
    adds_two (leaf_of_cells c.args.leaves.now.first) (leaf_of_cells c.args.leaves.now.second) (leaf_of_cells c.args.leaves.now.third)
    (leaf_of_cells c.args.leaves.now.fourth)
    c.in_ok-nw.ensures.adds c.in_err-ne.ensures.adds

pub returns-in_err-sw-clause-adds : goal.returns-in_err-sw-clause-adds
returns-in_err-sw-clause-adds g c =
    adds_three (leaf_of_cells c.args.leaves.now.first) (leaf_of_cells c.args.leaves.now.second) (leaf_of_cells c.args.leaves.now.third)
    (leaf_of_cells c.args.leaves.now.fourth)
    c.in_ok-nw.ensures.adds c.in_ok-ne.ensures.adds c.in_err-sw.ensures.adds

pub returns-in_err-se-clause-adds : goal.returns-in_err-se-clause-adds
returns-in_err-se-clause-adds g c =
    adds_four (leaf_of_cells c.args.leaves.now.first) (leaf_of_cells c.args.leaves.now.second) (leaf_of_cells c.args.leaves.now.third)
    (leaf_of_cells c.args.leaves.now.fourth)
    c.in_ok-nw.ensures.adds c.in_ok-ne.ensures.adds c.in_ok-sw.ensures.adds c.in_err-se.ensures.adds

pub returns-clause-adds : goal.returns-clause-adds
returns-clause-adds g c =
    adds-then _ (adds_four (leaf_of_cells c.args.leaves.now.first) (leaf_of_cells c.args.leaves.now.second) (leaf_of_cells c.args.leaves.now.third)
    (leaf_of_cells c.args.leaves.now.fourth)
    c.in_ok-nw.ensures.adds c.in_ok-ne.ensures.adds c.in_ok-sw.ensures.adds c.in_ok-se.ensures.adds) c.join.ensures.adds (λ P p. p)
    (λ P p. inl (subst P (parts g c) p))
