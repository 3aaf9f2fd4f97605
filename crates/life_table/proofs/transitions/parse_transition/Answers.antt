use Rattle.std.proofs.Common.{◌∙◌, List, true, false, sym, ap}
use Rattle.life_table.specs.Reading.{is_bound}
use Rattle.life_table.specs.declared.table.Entry.{Entry}
use Rattle.life_table.proofs.Quietness.{directive_more}
use Rattle.life_table.proofs.transitions.parse_transition.Goals as goal

pub returns-then-stays_quiet : goal.returns-then-stays_quiet
returns-then-stays_quiet c = λ earlier f q.
    directive_more c.args.vars.now earlier c.args.line c.args.fits true true f q
    (sym c.if-not-is_bound.false ∙ c.is_bound.ensures ∙ ap (λ (es : List Entry). is_bound es c.args.line.output) c.as_slice.ensures)
    (sym c.if-stays_quiet.true ∙ c.stays_quiet.ensures)

pub returns : goal.returns
returns c = λ earlier f q.
    directive_more c.args.vars.now earlier c.args.line c.args.fits true false f q
    (sym c.if-not-is_bound.false ∙ c.is_bound.ensures ∙ ap (λ (es : List Entry). is_bound es c.args.line.output) c.as_slice.ensures)
    (sym c.if-stays_quiet.false ∙ c.stays_quiet.ensures)
