use Rattle.std.proofs.Common.{◌∷◌, ◌∙◌, [], refl, sym}
use Rattle.std.proofs.lemmas.Bool.{false≢true}
use Rattle.file_keys.proofs.StreamRunLemmas.{last_piece}
use Rattle.file_keys.proofs.stream.runs.StreamRun.end_stream.Goals as goal

pub returns-in-Some-clause-reported : goal.returns-in-Some-clause-reported
returns-in-Some-clause-reported g c = λ begun holds. rw c.in-Some.is (_, refl, c.put_fault.ensures.written)

pub returns-in-None-2-clause-reported : goal.returns-in-None-2-clause-reported
returns-in-None-2-clause-reported g c = λ begun holds.
    let own = holds c.in-None-2.is in
    let one = c.end_piece.ensures.entry begun own in
    rw c.in-None-2.is (
      one.0 ∷ [],
      last_piece c.args.self.now.form _ begun one.0 own.no_end
          (λ is. false≢true (sym c.if-is_empty.false ∙ (c.is_empty.ensures begun own).1 is)) one.1,
      one.2,
    )
