use Rattle.std.proofs.Common.{List, ℕ, ◌++◌, ◌∙◌, ap, ap₂, sym, subst, append-nil}
use Rattle.std.specs.Io.KnownBytes.{Appends}
use Rattle.std.proofs.lemmas.Result.{err_from_is_err_and}
use Rattle.std.proofs.lemmas.Str.{utf8_lossy_empty}
use Rattle.life_base.specs.Writing.{WritesPrefix}
use Rattle.file_keys.specs.Json.{json_text}
use Rattle.file_keys.specs.Pieces.{replacement_of}
use Rattle.file_keys.proofs.JsonLemmas.{written_broken, written_further}
use Rattle.file_keys.proofs.json.write_name.Goals as goal

pub loop-chunk-preserved : goal.loop-chunk-preserved
loop-chunk-preserved g c =
    let steps = c.in-Some.ensures.steps in
    let written = c.loop-chunk.invariant.written in
    let same = ap₂ (λ (x y : List ℕ). x ++ y) (c.as_bytes.ensures.value ∙ c.valid.ensures)
    (c.replacement-second.ensures ∙ ap replacement_of c.invalid.ensures) in
    record {
      works = c.in_ok-write_both.ensures.sink.works;
      stalled = c.in_ok-write_both.ensures.sink.stalled ∙ c.loop-chunk.invariant.stalled;
      written = written_further c.args.name.now _ c.in-Some.chunk.valid.now c.in-Some.chunk.invalid.now _ written.0 written.1 steps.0 steps.3.0 steps.3.1
          steps.2 _ _ _ written.2 (subst (λ (t : List ℕ). Appends (g.W.Sink.contents c.loop-chunk.out) (g.W.Sink.contents c.write_both.new.out) (json_text t))
          same c.in_ok-write_both.ensures.text);
    }

pub returns-in_err-write_both-clause-text : goal.returns-in_err-write_both-clause-text
returns-in_err-write_both-clause-text g c =
    let steps = c.in-Some.ensures.steps in
    let written = c.loop-chunk.invariant.written in
    let same = ap₂ (λ (x y : List ℕ). x ++ y) (c.as_bytes.ensures.value ∙ c.valid.ensures)
    (c.replacement-second.ensures ∙ ap replacement_of c.invalid.ensures) in
    let p = err_from_is_err_and c.from_residual.result c.from_residual.ensures.1 in
    rw p.1 (written_broken c.args.name.now _ c.in-Some.chunk.valid.now c.in-Some.chunk.invalid.now _ written.0 written.1 steps.0 steps.3.0 steps.3.1
    steps.2 _ _ _ written.2 (subst (λ (t : List ℕ). WritesPrefix (g.W.Sink.contents c.loop-chunk.out) (g.W.Sink.contents c.write_both.new.out)
    (json_text t)) same c.in_err-write_both.ensures.text))

pub returns-clause-text : goal.returns-clause-text
returns-clause-text g c =
    let written = c.loop-chunk.invariant.written in
    subst (Appends _ _) (sym (written.1 ∙ ap (λ (t : List ℕ). written.0 ++ json_text t) (utf8_lossy_empty _ c.in-None.ensures.steps.0)
    ∙ append-nil written.0)) written.2
