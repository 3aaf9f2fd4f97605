use Rattle.life_quad.proofs.CallLemmas.{state_content, deep_content}
use Rattle.life_quad.proofs.id.Id.state.Goals as goal

pub returns-then-self-lt-CELLS : goal.returns-then-self-lt-CELLS
returns-then-self-lt-CELLS c = λ s k. state_content s _ k c.if-self-lt-CELLS.true

pub returns-else-self-lt-CELLS : goal.returns-else-self-lt-CELLS
returns-else-self-lt-CELLS c = λ s k. deep_content s _ k c.if-self-lt-CELLS.false
