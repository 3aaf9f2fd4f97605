use Rattle.std.proofs.Common.{◌≡◌, length, Ok}
use Rattle.file_keys.specs.KeyRuns.{CanTake, names_left, TakesFiles}
use Rattle.file_keys.proofs.keys.runs.KeyRun.take_all.Given as goal

abbrev pub invariant-loop-name : goal.invariant-loop-name
invariant-loop-name g l = record {
  can : CanTake (goal.F-IsAlwaysCallable g) l.self (g.W.Sink.failures l.out) (g.E.Sink.failures l.err);
  stalled : g.W.Sink.stalled l.out ≡ g.W.Sink.stalled l.initial.out;
  style : l.self.outputs.style ≡ l.initial.self.outputs.style;
  form : l.self.files.form ≡ l.initial.self.files.form;
  took : TakesFiles (goal.F-step g) g.R.Source.remaining g.R.Source.failures g.W.Sink.contents g.E.Sink.contents g.E.Sink.failures g.E.Sink.stalled
      l.initial.self.files.form (names_left l.initial.names) (names_left l.names) l.initial.self.files.opener l.self.files.opener
      l.initial.out l.out l.initial.err l.err l.initial.self.outputs l.self.outputs (Ok tt);
}

abbrev pub decreases-loop-name : goal.decreases-loop-name
decreases-loop-name g l = length (names_left l.names)
