use Rattle.std.proofs.Common.{List, ℕ, sym, subst, ◌∙◌}
use Rattle.life_writer.specs.Texts.{IsCanonical}
use Rattle.theorems.specs.Joined.{all_bytes}
use Rattle.theorems.proofs.StreamLaw.{one_text}
use Rattle.std.proofs.lemmas.Result.{err_from_is_err_and}
use Rattle.theorems.proofs.RefusalLaw.{refused_as}
use Rattle.theorems.proofs.PieceLaw.{refused_there}
use Rattle.theorems.proofs.feeding.pieces_make_the_text.Goals as goal

pub returns-clause-equal : goal.returns-clause-equal
returns-clause-equal c =
    let text = c.in_ok-text.text.items in
    let other = c.in_ok-other.other.items in
    let whole : IsCanonical 62 (all_bytes c.args.pieces.now) other =
    subst (λ (b : List ℕ). IsCanonical 62 b other) c.requires.cut c.in_ok-other.ensures.text in
    c.are_equal.ensures.1
    (c.deref.ensures.value ∙ one_text c.files_are_unique.ensures (all_bytes c.args.pieces.now) text other c.in_ok-text.ensures.text whole
    ∙ sym c.deref-2.ensures.value)

pub returns-in_err-text-clause-refused : goal.returns-in_err-text-clause-refused
returns-in_err-text-clause-refused c =
    let p = err_from_is_err_and c.from_residual.result c.from_residual.ensures.1 in
    rw (p.1, p.2) (refused_there _ _ _ (sym c.requires.cut) c.in_err-text.ensures.refused)

pub returns-in_err-other-clause-refused : goal.returns-in_err-other-clause-refused
returns-in_err-other-clause-refused c =
    let p = err_from_is_err_and c.from_residual-in_err-other.result c.from_residual-in_err-other.ensures.1 in
    rw (p.1, p.2) (refused_as c.args.whole.now _ _ c.in_err-other.ensures.fault)
