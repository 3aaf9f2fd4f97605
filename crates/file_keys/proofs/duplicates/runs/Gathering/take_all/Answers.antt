use Rattle.std.proofs.Common.{◌∙◌, refl}
use Rattle.file_keys.proofs.GatherLemmas.{gathers_next, gathers_none}
use Rattle.file_keys.proofs.KeyRunLemmas.{hears_on}
use Rattle.file_keys.proofs.duplicates.runs.Gathering.take_all.Goals as goal

pub loop-name-init : goal.loop-name-init
loop-name-init g c = record { can = c.requires; form = refl; gathers = gathers_none _ _ _ _ _ _ _ _ _ _ _ c.requires.hears }

pub loop-name-preserved : goal.loop-name-preserved
loop-name-preserved g c = record {
  can = record { callable = c.take-outcome.ensures.callable; hears = hears_on _ _ _ _ _ _ _ _ c.put.ensures.2.reported };
  form = c.take-outcome.ensures.form ∙ c.loop-name.invariant.form;
  gathers = gathers_next _ _ _ _ _ _ _ _ _ _ _ _ _ _ _ _ _ _ _ _ _ _ _ c.loop-name.invariant.form c.in-Some.ensures c.bytes.ensures
      c.loop-name.invariant.gathers c.take-outcome.ensures.takes c.put.ensures;
}
