use Rattle.std.proofs.Common.{◌∙◌, [], List, ℕ, Bor, ap, map}
use Rattle.std.proofs.lemmas.List.{drop_all}
use Rattle.std.proofs.lemmas.Result.{err_from_is_err_and}
use Rattle.file_keys.proofs.DuplicateLemmas.{name_broken, name_further, printed_all}
use Rattle.file_keys.proofs.duplicates.texts.write_names.Goals as goal

pub returns-in_err-write_name-clause-text : goal.returns-in_err-write_name-clause-text
returns-in_err-write_name-clause-text g c =
    let p = err_from_is_err_and c.from_residual.result c.from_residual.ensures.1 in
    let none : Bor (List ℕ) = record { ref_ptr = (0, 0); now = [] } in
    rw p.1 (name_broken _ _ _ c.args.zero c.args.names.now c.loop-name.name-index none c.loop-name.invariant.printed c.loop-name-test.true
    c.in_err-write_name.ensures.text)

pub loop-name-preserved : goal.loop-name-preserved
loop-name-preserved g c =
    let none : Bor (List ℕ) = record { ref_ptr = (0, 0); now = [] } in
    record {
      works = c.in_ok-write_name.ensures.sink.works;
      stalled = c.in_ok-write_name.ensures.sink.stalled ∙ c.loop-name.invariant.stalled;
      printed = name_further _ _ _ c.args.zero c.args.names.now c.loop-name.name-index none c.loop-name.invariant.printed c.loop-name-test.true
          c.in_ok-write_name.ensures.text;
    }

pub returns-clause-text : goal.returns-clause-text
returns-clause-text g c =
    printed_all _ _ c.args.zero _ _ (ap (map (λ name. name.now)) (drop_all c.loop-name.name-index c.args.names.now c.loop-name-test.false))
    c.loop-name.invariant.printed
