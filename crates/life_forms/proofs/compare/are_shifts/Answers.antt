use Rattle.std.proofs.Common.{inl, inr, ap}
use Rattle.std.proofs.lemmas.Result.{err_from_is_err_and}
use Rattle.life_base.specs.Refusal.{fault_of}
use Rattle.life_quad.proofs.LawLemmas.{known_squares_are_full}
use Rattle.life_pattern.specs.Store.{universe_in}
use Rattle.life_forms.proofs.ComparingFacts.{moved-again, shifts-reported}
use Rattle.life_forms.proofs.PlaneFacts.{outside-blank}
use Rattle.life_forms.proofs.compare.are_shifts.Goals as goal

pub returns-in_err-other-clause-fault : goal.returns-in_err-other-clause-fault
returns-in_err-other-clause-fault c =
    let p = err_from_is_err_and c.from_residual-in_err-other.result c.from_residual-in_err-other.ensures.1 in
    rw (p.1, p.2) (elim c.in_err-other.ensures.fault [ inl memory ↦ inl memory | inr large ↦ inr (large.0, inr large.1) ])

pub returns-in_err-first-clause-fault : goal.returns-in_err-first-clause-fault
returns-in_err-first-clause-fault c =
    let p = err_from_is_err_and c.from_residual-in_err-first.result c.from_residual-in_err-first.ensures.1 in
    rw (p.1, p.2) (inl (ap fault_of c.in_err-first.ensures.memory))

pub returns-in_err-second-clause-fault : goal.returns-in_err-second-clause-fault
returns-in_err-second-clause-fault c =
    let p = err_from_is_err_and c.from_residual-in_err-second.result c.from_residual-in_err-second.ensures.1 in
    rw (p.1, p.2) (inl (ap fault_of c.in_err-second.ensures.memory))

pub returns-clause-answer : goal.returns-clause-answer
returns-clause-answer c =
    let store = c.args.store.now in
    let u = universe_in store c.args.a.now in
    let v = universe_in store c.args.b.now in
    shifts-reported u v c.brought.new.to c.brought-2.new.to c.in_ok-first.first c.in_ok-second.second c.are_same.result
    (outside-blank _ (known_squares_are_full store c.args.a.now.root c.requires.a.known.0).1) c.in_ok-second.ensures.keeps c.in_ok-first.ensures.trimmed
    (moved-again u _ _ c.in_ok-one.ensures.moved c.in_ok-first.ensures.moved) c.in_ok-second.ensures.trimmed
    (moved-again v _ _ c.in_ok-other.ensures.moved c.in_ok-second.ensures.moved) c.are_same.ensures
