use Rattle.std.proofs.Common.{◌≡◌, ℕ, List, subst, sym, ◌∙◌}
use Rattle.std.proofs.lemmas.Result.{err_from_is_err_and}
use Rattle.life_base.specs.DeviceRuns.{SourceRun, source_run}
use Rattle.life_step.specs.Stepped.{IsStepped}
use Rattle.life_cli.specs.Jobs.{RefusesLifeStep}
use Rattle.life_cli.proofs.WholeFileLemmas.{unread}
use Rattle.life_cli.proofs.whole_files.next_of_whole.Goals as goal

pub returns-in_err-bytes : goal.returns-in_err-bytes
returns-in_err-bytes g c =
    let p = err_from_is_err_and c.from_residual.result c.from_residual.ensures.1 in
    rw (p.1, p.2) (unread _ IsStepped RefusesLifeStep _ _ c.in_err-bytes.ensures.err c.in_err-bytes.ensures.reported)

pub returns-in-Some : goal.returns-in-Some
returns-in-Some g c =
    let works = c.in_ok-bytes.ensures.works in
    record {
      ok = record {
        bytes = c.in_ok-bytes.bytes.items;
        read = c.in_ok-bytes.ensures.ok;
        is = subst (λ (bytes : List ℕ). IsStepped bytes c.in-Some.text.items) c.deref.ensures.value c.in-Some.ensures;
      };
      err = tt;
      reported = λ failed. let bad : 0 ≡ 1 = sym works ∙ failed in absurd cc;
    }

pub returns-in-None : goal.returns-in-None
returns-in-None g c =
    let source : SourceRun = source_run g.A.Source.remaining g.A.Source.failures c.args.first.now c.read_whole.new.reader in
    c.next_in_squares.ensures source c.in_ok-bytes.ensures.ok c.in_ok-bytes.ensures.works
