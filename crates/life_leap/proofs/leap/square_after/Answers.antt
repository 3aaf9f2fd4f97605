use Rattle.std.proofs.Common.{◌≡◌, ◌+◌, ◌-◌, ◌^◌, ◌≤◌, min, sym, ◌∙◌, ap, subst, arith}
use Rattle.std.proofs.lemmas.Int.{ints}
use Rattle.life_base.specs.Rules.{has_digit}
use Rattle.life_base.specs.Sets.{OuterTotalistic}
use Rattle.life_base.specs.Tree.{depth, tree_cell}
use Rattle.life_base.proofs.Results.{if_ok_two}
use Rattle.life_pieces.specs.Pieces.{IsPiece, step_ahead, step_back}
use Rattle.life_pieces.proofs.PieceLemmas.{IsPiece-moved}
use Rattle.life_pieces.proofs.RootLemmas.{corner, piece-of_root}
use Rattle.life_leap.specs.After.{after, leap_length}
use Rattle.life_leap.specs.Grid.{AreNineSquares}
use Rattle.life_leap.specs.Leaps.{IsBlankSquareBeyond}
use Rattle.life_leap.proofs.LeapLemmas.{leaps-kept, no-leaps}
use Rattle.life_leap.proofs.RootSteps.{beyond-root, root-later}
use Rattle.life_leap.proofs.leap.square_after.Goals as goal

pub middle_of_nine_at_pace-requires-clause-fast : goal.middle_of_nine_at_pace-requires-clause-fast
middle_of_nine_at_pace-requires-clause-fast g c = leaps-kept c.in_ok-nine.ensures.keeps c.requires.remembers

pub middle_of_nine_at_pace-requires-clause-slow : goal.middle_of_nine_at_pace-requires-clause-slow
middle_of_nine_at_pace-requires-clause-slow g c = no-leaps _ c.new-slow.ensures

pub returns-clause-later : goal.returns-clause-later
returns-clause-later g c =
    let rule = c.args.rule.now in
    let pace = c.args.pace in
    let l = c.level-level.result in
    let t = g.S.Squares.content c.args.squares.now c.args.id in
    let cells = tree_cell t in
    let start = corner t in
    let C1 = g.S.Squares.content c.nine_around.new.squares in
    let C2 = g.S.Squares.content c.middle_of_nine_at_pace.new.squares in
    let level : l ≡ depth t = c.level-level.ensures.level in
    let low = c.requires.low in
    let slow = c.requires.slow in
    let high : 1 ≤ depth t = omega (arith, low) in
    let quiet = ap (λ (d : OuterTotalistic). has_digit d.sets.births 0) (sym c.rule.view_is) ∙ c.rule.invariant.no_birth_on_zero in
    let whole : depth t ≡ l - 2 + 2 = omega (arith, level, low) in
    let one : l - 2 + 1 ≡ l - 1 = omega (arith, level, low) in
    let two : l - 1 - 1 ≡ l - 2 = omega (arith, level, low) in
    let full = g.met.S.Squares.full _ _ c.requires.known in
    let beyond = subst (λ k. IsBlankSquareBeyond cells start (2 ^ k)) whole (beyond-root t high) in
    let back = step_back start (2 ^ (l - 2)) in
    let nine = subst (λ k. AreNineSquares C1 cells (2 ^ k) back back c.in_ok-nine.nine) one
    (c.in_ok-nine.ensures.pieces cells start (piece-of_root t full high) beyond) in
    let s : 2 ^ (l - 1 - 1) ≡ 2 ^ (l - 2) = ap (λ k. 2 ^ k) two in
    let to : step_ahead back (2 ^ (l - 1 - 1)) ≡ start = omega (arith, ints, s) in
    let few : min pace (l - 1 + 1 - 2) ≡ pace = omega (arith, level, slow) in
    if_ok_two c.middle_of_nine_at_pace.result
    (λ r at h.
    let piece = h.later cells back back c.requires.states nine in
    let moved = IsPiece-moved (after rule (leap_length pace (l - 1 + 1)) cells) (step_ahead back (2 ^ (l - 1 - 1))) start (step_ahead back (2 ^ (l - 1 - 1)))
    start (C2 r) to to piece in
    let so : depth (C2 r) ≡ depth t = (let a = at.level in omega (arith, a, level, low)) in
    root-later rule (2 ^ pace) t (C2 r) quiet high (g.met.S.Squares.full _ _ at.known) so c.requires.margin
    (subst (λ k. IsPiece (after rule (2 ^ k) cells) start start (C2 r)) few moved))
    c.middle_of_nine_at_pace.ensures.at c.middle_of_nine_at_pace.ensures.later
