use Rattle.library_theorems.proofs.LimitFacts.{both_full, both_within}
use Rattle.library_theorems.proofs.limits.comparison_is_within_limit.Goals as goal

pub returns-clause-within : goal.returns-clause-within
returns-clause-within c = λ status ok also.
    both_within c.args.first.now c.args.second.now c.args.options.limit _ _ c.read-one.new.store c.read-other.new.store c.read-one.result c.read-other.result
    ok also c.new-store.ensures.stored c.read-one.ensures.reads c.read-other.ensures.reads
    (record { distinct = c.len.ensures.distinct; live = λ t there. (c.len.ensures.only t there).0 }) c.len.ensures.len (c.same-compared.ensures.fits status)

pub returns-clause-full : goal.returns-clause-full
returns-clause-full c = λ status ok also.
    both_full c.args.first.now c.args.second.now c.args.options.limit _ _ c.read-one.new.store c.read-other.new.store c.read-one.result c.read-other.result
    ok also c.new-store.ensures.stored c.read-one.ensures.reads c.read-other.ensures.reads
    (record { distinct = c.len.ensures.distinct; live = λ t there. (c.len.ensures.only t there).0 }) c.len.ensures.len _ c.read-one.ensures.pattern
    c.read-other.ensures.pattern c.same-compared.ensures.compares status
