use Rattle.std.proofs.Common.{ℕ, ◌∙◌, inl, inr, subst}
use Rattle.std.proofs.lemmas.Result.{IfOk-weaker, IfErr-weaker, err_from_is_err_and}
use Rattle.library_calls.specs.Comparing.{SomeToReadBoth}
use Rattle.library_calls.specs.Texts.{NeedsMore}
use Rattle.library_calls.proofs.Answering.{of-any}
use Rattle.library_calls.proofs.FormFacts.{accepted-it, both-small, either-unformed, either-unread}
use Rattle.library_calls.proofs.NeedFacts.{where-ok}
use Rattle.library_calls.proofs.comparison.are_one.Goals as goal

pub same_in-requires-clause-a : goal.same_in-requires-clause-a
same_in-requires-clause-a c = (c.args.first.now, c.in_ok-a.ensures.one)

pub same_in-requires-clause-b : goal.same_in-requires-clause-b
same_in-requires-clause-b c = (c.args.second.now, c.in_ok-a.ensures.other)

pub returns-in_err-a-clause-fault : goal.returns-in_err-a-clause-fault
returns-in_err-a-clause-fault c =
    let p = err_from_is_err_and c.from_residual.result c.from_residual.ensures.1 in
    rw (p.1, p.2) (λ limit fresh. either-unread c.args.form limit c.args.first.now c.args.second.now c.read_both.new.store c.in_err-a.field-0.0
    (c.read_both.ensures.limit ∙ fresh.most) c.in_err-a.ensures.fault (λ e. c.in_err-a.ensures.needed (cc) fresh.empty))

pub returns-clause-accepted : goal.returns-clause-accepted
returns-clause-accepted c =
    of-any _ c.same_in.result (accepted-it _ _ _ c.in_ok-a.ensures.one, accepted-it _ _ _ c.in_ok-a.ensures.other)

pub returns-clause-answer : goal.returns-clause-answer
returns-clause-answer c =
    IfOk-weaker c.same_in.result _ _ (λ answer is. is c.args.first.now c.args.second.now c.in_ok-a.ensures.one c.in_ok-a.ensures.other)
    c.same_in.ensures.answer

pub returns-clause-small : goal.returns-clause-small
returns-clause-small c =
    IfOk-weaker c.same_in.result _ _ (λ answer small limit fresh. both-small c.args.form limit c.args.first.now c.args.second.now c.read_both.new.store
    (c.read_both.ensures.limit ∙ fresh.most) (small c.args.first.now c.args.second.now c.in_ok-a.ensures.one c.in_ok-a.ensures.other))
    c.same_in.ensures.have

pub returns-clause-fits : goal.returns-clause-fits
returns-clause-fits c =
    where-ok c.same_in.result (λ limit fresh. subst (λ (most : ℕ). ¬ NeedsMore (SomeToReadBoth c.args.first.now c.args.second.now) most)
    (c.read_both.ensures.limit ∙ fresh.most) c.in_ok-a.ensures.fits)

pub returns-clause-fault : goal.returns-clause-fault
returns-clause-fault c =
    IfErr-weaker c.same_in.result _ _ (λ fault why limit fresh. either-unformed c.args.form limit c.args.first.now c.args.second.now c.read_both.new.store fault
    (c.read_both.ensures.limit ∙ fresh.most) (elim why [
      | inl memory ↦ inl memory
      | inr large ↦ inr (large c.args.first.now c.args.second.now c.in_ok-a.ensures.one c.in_ok-a.ensures.other)
    ])) c.same_in.ensures.fault
