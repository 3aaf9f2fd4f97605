use Rattle.std.proofs.Common.{List, ℕ, ◌++◌, ap, ◌∙◌, Some}
use Rattle.theorems.proofs.FileLaw.{map_ok}
use Rattle.theorems.proofs.StreamLaw.{has_run, one_text}
use Rattle.theorems.proofs.streaming.stream_writes_the_text.Goals as goal

pub returns : goal.returns
returns g c =
    λ held e f. let h = has_run _ _ _ c.args.file.now held c.in_ok-run_canon.ensures.runs.ok e f in
    map_ok c.canon.result
    (λ text k. h.written ∙ ap (λ (t : List ℕ). Some (held ++ t)) (one_text c.files_are_unique.ensures c.args.file.now h.text text.items h.canonical k))
    c.canon.ensures.text
