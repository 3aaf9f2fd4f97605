use Rattle.theorems.proofs.FileLaw.{text_is_file}
use Rattle.theorems.proofs.RefusalLaw.{map_err}
use Rattle.theorems.proofs.StreamLaw.{has_ended, has_run, stream_fault}
use Rattle.theorems.proofs.TextLaw.{text_of_file}
use Rattle.theorems.proofs.streaming.stream_to_stream.Goals as goal
use Rattle.std.proofs.lemmas.Result.{on_ok_weaker}

pub returns-clause-done : goal.returns-clause-done
returns-clause-done g c =
    λ bytes held e f. on_ok_weaker c.run_canon.result
    (λ ran. let h = has_run _ _ _ bytes held ran e f in (
      h.text,
      h.written,
      text_is_file c.texts_keep_patterns.ensures bytes h.text h.canonical,
      text_of_file c.files_are_on_plane.ensures bytes h.text h.canonical,
    ))
    c.run_canon.ensures.runs.ok

pub returns-clause-refused : goal.returns-clause-refused
returns-clause-refused g c = λ bytes e. map_err c.run_canon.result (λ fault h. stream_fault _ _ _ bytes fault h e) c.run_canon.ensures.runs.err

pub returns-clause-whole : goal.returns-clause-whole
returns-clause-whole g c = λ bytes e. on_ok_weaker c.run_canon.result (λ ran. has_ended _ _ _ bytes ran e) c.run_canon.ensures.runs.ok
