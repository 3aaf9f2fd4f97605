use Rattle.std.proofs.Common.{sym, subst}
use Rattle.life_writer.specs.Lesser.{IsLesserText}
use Rattle.life_writer.proofs.LesserFacts.{ended-old, ended-new, ended-both}
use Rattle.life_writer.proofs.lesser.finish.Goals as goal

pub returns-in_ok-walked-in-Undecided-clause-lesser : goal.returns-in_ok-walked-in-Undecided-clause-lesser
returns-in_ok-walked-in-Undecided-clause-lesser c = λ old new consumed broken.
    subst (IsLesserText old new) (sym c.truncate.ensures.items)
    (ended-both old new c.args.text.bytes.items c.args.text.lesser c.in-Undecided.count c.in-Undecided.is c.args.walked _ c.in_ok-walked-in-Undecided.was
    consumed)

pub returns-in_ok-walked-in-New-clause-lesser : goal.returns-in_ok-walked-in-New-clause-lesser
returns-in_ok-walked-in-New-clause-lesser c = λ old new consumed broken.
    ended-new old new c.args.text.bytes.items c.args.text.lesser c.in-New.is c.args.walked _ c.in_ok-walked-in-New.was consumed

pub returns-in-Old-clause-lesser : goal.returns-in-Old-clause-lesser
returns-in-Old-clause-lesser c = λ old new consumed broken.
    ended-old old new c.args.text.bytes.items c.args.text.lesser c.in-Old.is c.args.walked consumed broken
