use Rattle.std.proofs.Common.{inl, inr, sym, ◌∙◌}
use Rattle.std.proofs.lemmas.Result.{err_from_is_err_and}
use Rattle.life_phase_forms.proofs.TellLemmas.{of-first, of-second, stays-of}
use Rattle.life_phase_forms.proofs.compare.are_phases.Goals as goal

pub returns-clause-answer : goal.returns-clause-answer
returns-clause-answer c = λ first r second s.
    let tell = c.phases_texts_tell_files.ensures c.args.most first second c.in_ok-first.first.items c.in_ok-second.second.items
    (c.in_ok-first.ensures.text first r) (c.in_ok-second.ensures.text second s) in
    let test = c.are_equal.ensures in
    let one = c.deref.ensures.value in
    let two = c.deref-2.ensures.value in
    (λ t. tell.0 (sym one ∙ test.0 t ∙ two), λ h. test.1 (one ∙ tell.1 h ∙ sym two))

pub returns-clause-stay : goal.returns-clause-stay
returns-clause-stay c = λ first r second s leave.
    elim leave [
      | inl one ↦ stays-of c.files_are_unique.ensures c.args.most first c.in_ok-first.first.items (c.in_ok-first.ensures.text first r) one
      | inr two ↦ stays-of c.files_are_unique.ensures c.args.most second c.in_ok-second.second.items (c.in_ok-second.ensures.text second s) two
    ]

pub returns-in_err-first-clause-refused : goal.returns-in_err-first-clause-refused
returns-in_err-first-clause-refused c =
    let p = err_from_is_err_and c.from_residual.result c.from_residual.ensures.1 in
    rw (p.1, p.2) (of-first c.args.most _ _ _ _ _ c.in_err-first.ensures.whose c.in_err-first.ensures.refused)

pub returns-in_err-second-clause-refused : goal.returns-in_err-second-clause-refused
returns-in_err-second-clause-refused c =
    let p = err_from_is_err_and c.from_residual-in_err-second.result c.from_residual-in_err-second.ensures.1 in
    rw (p.1, p.2) (of-second c.args.most _ _ _ _ _ c.in_err-second.ensures.whose (λ first r.
    stays-of c.files_are_unique.ensures c.args.most first c.in_ok-first.first.items (c.in_ok-first.ensures.text first r)) c.in_err-second.ensures.refused)
