use Rattle.std.proofs.Common.{◌≡◌, ◌∙◌, ap, sym, List, ℕ, length, arith, position, Some, None}
use Rattle.life_base.specs.Text.{is_whitespace, trim_start}
use Rattle.life_base.proofs.LineEnds.{all_behind}
use Rattle.life_base.proofs.WordEnds.{words_at, words_without, split_length, length-trim_start}
use Rattle.life_base.proofs.words.split_word.Goals as goal

pub returns-in-Some-clause-words : goal.returns-in-Some-clause-words
returns-in-Some-clause-words c =
    let text = c.args.text.now in
    let found : position is_whitespace (trim_start text) ≡ Some c.in-Some.end =
    ap (λ (t : List ℕ). position is_whitespace t) (sym c.trimmed_start-text.ensures) ∙ sym c.in-Some.ensures in
    rw (all_behind c.trimmed_start-text.result.now c.in-Some.end, c.trimmed_start-text.ensures) (words_at text c.in-Some.end found)

pub returns-in-None-clause-words : goal.returns-in-None-clause-words
returns-in-None-clause-words c =
    let text = c.args.text.now in
    let found : position is_whitespace (trim_start text) ≡ None =
    ap (λ (t : List ℕ). position is_whitespace t) (sym c.trimmed_start-text.ensures) ∙ sym c.in-None.ensures in
    rw c.trimmed_start-text.ensures (words_without text found)

pub returns-in-Some-clause-shorter : goal.returns-in-Some-clause-shorter
returns-in-Some-clause-shorter c =
    let text : List ℕ = c.args.text.now in
    let trimmed : List ℕ = c.trimmed_start-text.result.now in
    let e : length trimmed ≡ length (trim_start text) = ap length c.trimmed_start-text.ensures in
    rw (all_behind trimmed c.in-Some.end) (omega (arith, split_length trimmed c.in-Some.end, length-trim_start text, e))

pub returns-in-None-clause-shorter : goal.returns-in-None-clause-shorter
returns-in-None-clause-shorter c =
    let text : List ℕ = c.args.text.now in
    let e : length c.trimmed_start-text.result.now ≡ length (trim_start text) = ap length c.trimmed_start-text.ensures in
    omega (arith, length-trim_start text, e)
