use Rattle.std.proofs.Common.{◌≡◌, length}
use Rattle.file_keys.specs.Duplicates.{CanGather, Gathers}
use Rattle.file_keys.specs.KeyRuns.{names_left}
use Rattle.file_keys.proofs.duplicates.runs.Gathering.take_all.Given as goal

abbrev pub invariant-loop-name : goal.invariant-loop-name
invariant-loop-name g l = record {
  can : CanGather (goal.F-IsAlwaysCallable g) l.self (g.E.Sink.failures l.err);
  form : l.self.files.form ≡ l.initial.self.files.form;
  gathers : Gathers (goal.F-step g) g.R.Source.remaining g.R.Source.failures g.E.Sink.contents g.E.Sink.failures g.E.Sink.stalled
      l.initial.self.files.form (names_left l.initial.names) (names_left l.names) l.initial.self.files.opener l.self.files.opener l.initial.err l.err
      l.initial.self.gathered l.self.gathered;
}

abbrev pub decreases-loop-name : goal.decreases-loop-name
decreases-loop-name g l = length (names_left l.names)
