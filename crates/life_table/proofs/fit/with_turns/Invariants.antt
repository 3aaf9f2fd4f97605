use Rattle.life_table.specs.Found.{Adds, SomeGives}
use Rattle.life_table.proofs.Turning.{first_turns}
use Rattle.life_table.proofs.fit.with_turns.Given as goal

-- what the turns so far give was added
abbrev pub invariant-loop-k : goal.invariant-loop-k
invariant-loop-k l = Adds (SomeGives l.site.vars.now l.line (first_turns l.reflect l.site.cells.now l.site.ways.step l.k)) l.fn.found l.found
