use Rattle.std.proofs.Common.{◌≡◌, ◌∙◌, Err, ap, inl, inr}
use Rattle.std.proofs.lemmas.Result.{err_from_is_err_and}
use Rattle.life_base.specs.declared.cell.TheConstants.{MAX_LEVEL}
use Rattle.life_base.specs.Refusal.{fault_of}
use Rattle.life_base.specs.declared.fault.Fault.{Fault}
use Rattle.life_base.specs.declared.kind.Kind.TheVariants.{Full}
use Rattle.life_pattern.specs.Store.{IsRead, RefusesIn}
use Rattle.library_calls.proofs.FormFacts.{accepted-it, both-fit, first-low, first-read, read-both, second-low}
use Rattle.library_calls.proofs.NeedFacts.{if-err, if-ok, on-ok}
use Rattle.library_calls.proofs.comparison.read_both.Goals as goal

pub returns-in_err-a-clause-fault : goal.returns-in_err-a-clause-fault
returns-in_err-a-clause-fault c =
    let p = err_from_is_err_and c.from_residual.result c.from_residual.ensures.1 in
    let why = if-err (RefusesIn MAX_LEVEL c.args.first.now c.read-found.new.store) c.read-found.result _ c.in_err-a.was c.read-found.ensures.fault in
    rw (p.1, p.2) (elim why [ inl refuses ↦ inl refuses | inr want ↦ inr (inr want) ])

pub returns-in_err-a-clause-needed : goal.returns-in_err-a-clause-needed
returns-in_err-a-clause-needed c =
    let p = err_from_is_err_and c.from_residual.result c.from_residual.ensures.1 in
    let store = c.read-found.new.store in
    let fault = c.in_err-a.field-0.0 in
    rw (p.1, p.2) (λ e empty.
    let full : fault ≡ fault_of Full = cc in
    let is = c.in_err-a.was ∙ ap (λ (f : Fault). Err f) full in
    first-low c.refusals_have_kinds.ensures c.args.first.now c.args.second.now c.args.store.now store fault empty
    (record { distinct = c.len.ensures.distinct; live = λ t there. (c.len.ensures.only t there).0 }) c.read-found.ensures.reads.adds
    c.read-found.ensures.reads.keeps.limit (c.read-found.ensures.reads.needed is) (c.read-found.ensures.reads.space is)
    (if-err (RefusesIn MAX_LEVEL c.args.first.now store) c.read-found.result fault c.in_err-a.was c.read-found.ensures.fault) full)

pub returns-in_err-a-clause-adds : goal.returns-in_err-a-clause-adds
returns-in_err-a-clause-adds c = first-read c.args.first.now c.args.second.now c.args.store.now c.read-found.new.store c.read-found.ensures.reads.adds

pub returns-in_err-b-clause-fault : goal.returns-in_err-b-clause-fault
returns-in_err-b-clause-fault c =
    let p = err_from_is_err_and c.from_residual-in_err-b.result c.from_residual-in_err-b.ensures.1 in
    let one = if-ok (IsRead MAX_LEVEL c.args.first.now c.read-found.new.store) c.read-found.result _ c.in_ok-a.was c.read-found.ensures.pattern in
    let why = if-err (RefusesIn MAX_LEVEL c.args.second.now c.read-found-2.new.store) c.read-found-2.result _ c.in_err-b.was c.read-found-2.ensures.fault in
    rw (p.1, p.2) (elim why [
      | inl refuses ↦ inr (inl (accepted-it _ _ _ one, refuses))
      | inr want ↦ inr (inr want)
    ])

pub returns-in_err-b-clause-needed : goal.returns-in_err-b-clause-needed
returns-in_err-b-clause-needed c =
    let p = err_from_is_err_and c.from_residual-in_err-b.result c.from_residual-in_err-b.ensures.1 in
    let store = c.read-found-2.new.store in
    let fault = c.in_err-b.field-0.0 in
    let one = if-ok (IsRead MAX_LEVEL c.args.first.now c.read-found.new.store) c.read-found.result _ c.in_ok-a.was c.read-found.ensures.pattern in
    rw (p.1, p.2) (λ e empty.
    let full : fault ≡ fault_of Full = cc in
    let is = c.in_err-b.was ∙ ap (λ (f : Fault). Err f) full in
    second-low c.refusals_have_kinds.ensures c.few_squares.ensures c.limit_suffices.ensures c.args.first.now c.args.second.now c.args.store.now
    c.read-found.new.store store fault empty
    (record { distinct = c.len-2.ensures.distinct; live = λ t there. (c.len-2.ensures.only t there).0 }) (accepted-it _ _ _ one)
    c.read-found.ensures.reads.adds c.read-found-2.ensures.reads.adds (c.read-found-2.ensures.reads.needed is)
    (if-err (RefusesIn MAX_LEVEL c.args.second.now store) c.read-found-2.result fault c.in_err-b.was c.read-found-2.ensures.fault) full)

pub returns-in_err-b-clause-adds : goal.returns-in_err-b-clause-adds
returns-in_err-b-clause-adds c =
    read-both c.args.first.now c.args.second.now c.args.store.now c.read-found.new.store c.read-found-2.new.store c.read-found.ensures.reads.adds
    c.read-found-2.ensures.reads.adds

pub returns-clause-one : goal.returns-clause-one
returns-clause-one c =
    c.patterns_stay.ensures _ _ _ _ c.read-found-2.ensures.reads.keeps
    (if-ok (IsRead MAX_LEVEL c.args.first.now c.read-found.new.store) c.read-found.result _ c.in_ok-a.was c.read-found.ensures.pattern)

pub returns-clause-other : goal.returns-clause-other
returns-clause-other c =
    if-ok (IsRead MAX_LEVEL c.args.second.now c.read-found-2.new.store) c.read-found-2.result _ c.in_ok-b.was c.read-found-2.ensures.pattern

pub returns-clause-fits : goal.returns-clause-fits
returns-clause-fits c =
    both-fit c.args.first.now c.args.second.now c.read-found.new.store c.read-found-2.new.store _
    (if-ok (IsRead MAX_LEVEL c.args.second.now c.read-found-2.new.store) c.read-found-2.result _ c.in_ok-b.was c.read-found-2.ensures.pattern)
    (on-ok c.read-found.result _ c.in_ok-a.was c.read-found.ensures.reads.all) c.read-found-2.ensures.reads.keeps.stored
    (on-ok c.read-found-2.result _ c.in_ok-b.was c.read-found-2.ensures.reads.all)

pub returns-clause-adds : goal.returns-clause-adds
returns-clause-adds c =
    read-both c.args.first.now c.args.second.now c.args.store.now c.read-found.new.store c.read-found-2.new.store c.read-found.ensures.reads.adds
    c.read-found-2.ensures.reads.adds
