use Rattle.library_calls.specs.Outputs.{IsOutputText, RefusesTextOf}
use Rattle.library_calls.proofs.Answering.{answered, where-reported}
use Rattle.library_calls.proofs.texts.answer.Goals as goal

pub returns-clause-answers : goal.returns-clause-answers
returns-clause-answers c =
    answered (λ text. text.items) (IsOutputText c.args.output c.args.options.limit c.args.bytes.now)
    (RefusesTextOf c.args.output c.args.options.limit c.args.bytes.now) _ _ _
    c.text_of_file.result c.text_of_file.ensures.text c.text_of_file.ensures.fault c.tell.ensures.gives c.tell.ensures.no_line c.tell.ensures.tells

pub returns-clause-fits : goal.returns-clause-fits
returns-clause-fits c = where-reported c.tell.result c.text_of_file.result c.text_of_file.ensures.fits c.tell.ensures.text
