use Rattle.std.proofs.Common.{inl, refl}
use Rattle.file_keys.proofs.KeyRunLemmas.{tells_none}
use Rattle.file_keys.proofs.keys.outputs.Outputs.put.Goals as goal

pub returns-in-Json-clause-processed : goal.returns-in-Json-clause-processed
returns-in-Json-clause-processed g c = rw c.in-Json.is (
  c.args.outcome,
  inl refl,
  record {
    written = c.put_object.ensures.text;
    reported = rw c.put_object.ensures.tells (tells_none _ _ _ c.args.self.now.tells c.args.err.now c.requires.hears);
    status = c.put_object.ensures.status;
  },
)
