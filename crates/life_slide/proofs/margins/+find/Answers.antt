use Rattle.std.proofs.Common.{ℕ, ◌-◌, sym, ◌∙◌, subst, arith}
use Rattle.life_base.proofs.Squares.{blank_is}
use Rattle.life_slide.specs.Margins.{AreMarginsOf, AreMarginsOfFour}
use Rattle.life_slide.proofs.MarginLemmas.{margins-blank, margins-joined, margins-none}
use Rattle.life_slide.proofs.margins.+find.Given.{Over}
use Rattle.life_slide.proofs.margins.+find.Goals as goal
use Rattle.life_slide.proofs.margins.+find.Goals.{After-margins_of_four-margins}

pub returns-then-is_blank_at-clause-margins : goal.returns-then-is_blank_at-clause-margins
returns-then-is_blank_at-clause-margins g t c =
    margins-blank _ _ (blank_is _ (g.met.S.Squares.full _ _ c.requires.at.known) (sym c.is_blank_at.ensures ∙ c.if-is_blank_at.true))

pub returns-then-level-lt-LEAST_LEVEL-clause-margins : goal.returns-then-level-lt-LEAST_LEVEL-clause-margins
returns-then-level-lt-LEAST_LEVEL-clause-margins g t c = margins-none _

-- those of a square that was visited
pub returns-in-Some-clause-margins : goal.returns-in-Some-clause-margins
returns-in-Some-clause-margins g t c = c.in-Some.ensures _ c.requires.right

pub returns-then-not-has-clause-margins : goal.returns-then-not-has-clause-margins
returns-then-not-has-clause-margins g t c = margins-none _

-- those of the four quarters
margins-are : (g : Over) (t : ℕ) (c : After-margins_of_four-margins g t)
    → AreMarginsOf (g.S.Squares.content c.args.squares.now c.args.id) c.margins_of_four-margins.result
margins-are g t c =
    let q = c.divide-quarters.ensures.quarters in
    let at = c.requires.at.level in
    margins-joined _ _ _ _ _ (c.args.level - 1) _ _ _ _ _ c.divide-quarters.ensures.square
    (omega (arith, at, q.nw_level)) (omega (arith, at, q.ne_level)) (omega (arith, at, q.sw_level)) (omega (arith, at, q.se_level))
    c.in_ok-nw.ensures.margins c.in_ok-ne.ensures.margins c.in_ok-sw.ensures.margins c.in_ok-se.ensures.margins
    (subst (λ n. AreMarginsOfFour n c.in_ok-nw.nw c.in_ok-ne.ne c.in_ok-sw.sw c.in_ok-se.se c.margins_of_four-margins.result) c.half_side.ensures.half
    c.margins_of_four-margins.ensures)

pub returns-clause-margins : goal.returns-clause-margins
returns-clause-margins g t c = margins-are g t (goal.at.returns-clause-margins g t c).After-margins_of_four-margins

pub returns-clause-right : goal.returns-clause-right
returns-clause-right g t c =
    c.put.ensures _ c.in_ok-se.ensures.right (margins-are g t (goal.at.returns-clause-right g t c).After-margins_of_four-margins)

pub returns-in_err-put-clause-right : goal.returns-in_err-put-clause-right
returns-in_err-put-clause-right g t c =
    c.put.ensures _ c.in_ok-se.ensures.right (margins-are g t (goal.at.returns-in_err-put-clause-right g t c).After-margins_of_four-margins)
