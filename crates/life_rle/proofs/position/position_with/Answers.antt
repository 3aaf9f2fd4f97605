use Rattle.std.proofs.Common.{◌≡◌, ◌∷◌, List, ℕ, Err, sym, ap, ◌∙◌, rules}
use Rattle.life_base.specs.declared.kind.Kind.{Kind}
use Rattle.life_base.specs.declared.cell.TheConstants.{MAX_LEVEL}
use Rattle.life_base.specs.Text.{words_of}
use Rattle.life_rle.specs.Position.{position_with}
use Rattle.life_rle.proofs.Fields.{position-stop, word-first}
use Rattle.life_rle.proofs.position.position_with.Goals as goal

pub returns-in_err-position : goal.returns-in_err-position
returns-in_err-position c =
    let word : List ℕ = c.split_word.result.0.now in
    let others : List (List ℕ) = words_of c.split_word.result.1.now in
    let kind : Kind = c.in_err-position.field-0.0 in
    let all : words_of c.loop-field.rest.now ≡ word ∷ others = word-first word others (words_of c.loop-field.rest.now) c.split_word.ensures.words
    (sym c.is_empty.ensures ∙ c.if-is_empty.false) in
    let refused : c.with_field.result ≡ Err kind = search rules in
    let reported : c.from_residual.result ≡ Err kind = search rules in
    reported ∙ sym (position-stop MAX_LEVEL c.loop-field.position kind word others (sym refused ∙ c.with_field.ensures))
    ∙ sym (ap (position_with MAX_LEVEL c.loop-field.position) all) ∙ c.loop-field.invariant
