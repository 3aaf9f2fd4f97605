use Rattle.life_pattern.specs.Store.{content}
use Rattle.life_forms.proofs.PatternFacts.{cell-up-to}
use Rattle.life_forms.proofs.patterns.brought.Goals as goal

pub moved_pattern-requires-clause-states : goal.moved_pattern-requires-clause-states
moved_pattern-requires-clause-states c = cell-up-to _ (content c.args.from.now c.args.form.root) c.requires.states
