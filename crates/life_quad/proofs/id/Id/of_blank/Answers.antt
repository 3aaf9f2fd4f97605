use Rattle.std.proofs.Common.{arith, sym, ◌∙◌, ap}
use Rattle.life_base.proofs.Squares.{depth-blank}
use Rattle.life_base.specs.Tree.{depth, blank}
use Rattle.life_quad.proofs.CallLemmas.{square_of-state, square_of-blank, alone_zero, alone_blank}
use Rattle.life_quad.proofs.id.Id.of_blank.Goals as goal

pub returns-then-level-eq0-clause-square : goal.returns-then-level-eq0-clause-square
returns-then-level-eq0-clause-square c = λ s. square_of-state _ 0 (omega arith) ∙ ap blank (sym c.if-level-eq0.true)

pub returns-then-level-eq0-clause-level : goal.returns-then-level-eq0-clause-level
returns-then-level-eq0-clause-level c = λ s. ap depth (square_of-state _ 0 (omega arith)) ∙ sym c.if-level-eq0.true

pub returns-then-level-eq0-clause-alone : goal.returns-then-level-eq0-clause-alone
returns-then-level-eq0-clause-alone c = λ s id k e. alone_zero s _ c.if-level-eq0.true id k e

pub returns-else-level-eq0-clause-square : goal.returns-else-level-eq0-clause-square
returns-else-level-eq0-clause-square c = λ s. square_of-blank _ _ (let n = c.if-level-eq0.false in omega arith) c.requires

pub returns-else-level-eq0-clause-level : goal.returns-else-level-eq0-clause-level
returns-else-level-eq0-clause-level c = λ s. ap depth (square_of-blank _ _ (let n = c.if-level-eq0.false in omega arith) c.requires) ∙ depth-blank _

pub returns-else-level-eq0-clause-alone : goal.returns-else-level-eq0-clause-alone
returns-else-level-eq0-clause-alone c = λ s id k e. alone_blank s _ (let n = c.if-level-eq0.false in omega arith) id k e
