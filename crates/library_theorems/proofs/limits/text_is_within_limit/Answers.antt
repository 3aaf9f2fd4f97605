use Rattle.library_theorems.proofs.LimitFacts.{text_full, text_within}
use Rattle.library_theorems.proofs.limits.text_is_within_limit.Goals as goal

pub returns-clause-within : goal.returns-clause-within
returns-clause-within c = λ status ok.
    text_within c.args.file.now c.args.options.limit _ _ c.read-found.new.store c.read-found.result ok c.new-store.ensures.stored c.read-found.ensures.reads
    (record { distinct = c.len.ensures.distinct; live = λ t there. (c.len.ensures.only t there).0 }) c.len.ensures.len (c.canon-reported.ensures.fits status)

pub returns-clause-full : goal.returns-clause-full
returns-clause-full c = λ status ok.
    text_full c.args.file.now c.args.options.limit _ _ c.read-found.new.store c.read-found.result ok c.new-store.ensures.stored c.read-found.ensures.reads
    (record { distinct = c.len.ensures.distinct; live = λ t there. (c.len.ensures.only t there).0 }) c.len.ensures.len _ _ _ c.read-found.ensures.pattern
    c.canon-reported.ensures.answers status
