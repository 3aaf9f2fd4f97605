use Rattle.std.proofs.Common.{◌≡◌, ◌-◌, ◌/◌, ◌<◌, ◌∷◌, [], ◌++◌, length, get_or, set, max, arith, refl, sym, ◌∙◌, ap, subst}
use Rattle.std.specs.Int.{bit_at}
use Rattle.std.specs.Int.Bits.{bit_or}
use Rattle.std.proofs.lemmas.Bool.{false≢true}
use Rattle.std.proofs.lemmas.List.{get_or_default, set-get_or}
use Rattle.std.proofs.lemmas.Nat.Bits.{bit_at_or}
use Rattle.life_rows.specs.RowCells.{PutsCells}
use Rattle.life_rows.proofs.PutLemmas.{puts-more, puts-new}
use Rattle.life_strip.specs.declared.row_builder.RowWord.{RowWord}
use Rattle.life_rows.proofs.row_cells.push_piece.Goals as goal
use Rattle.life_rows.proofs.row_cells.push_piece.Goals.{in-Some+else-last-place, in_default}

pub returns-then-last-place-clause-puts : goal.returns-then-last-place-clause-puts
returns-then-last-place-clause-puts c =
    let words = c.args.words.now in
    let some = c.in-Some.ensures.variant.0 refl in
    let r = c.requires in
    let last = c.in-Some.last.now in
    let cells = c.bits_of_columns-cells.result in
    puts-more words.items c.args.start c.args.end r.words r.before r.some r.one r.within (words.len - 1) last
    (omega (arith, words.ok, some)) c.in-Some.ensures.value c.if-last-place.true
    (record { place = last.place; cells = bit_or last.cells cells }) refl
    (λ i. bit_at_or last.cells cells i ∙ ap (λ z. max (bit_at last.cells i) (bit_at z i)) c.bits_of_columns-cells.ensures)

pub returns-clause-puts : goal.returns-clause-puts
returns-clause-puts c =
    let vec = c.args.words.now in
    let words = vec.items in
    let r = c.requires in
    let new : RowWord = record { place = c.args.start / 64; cells = c.bits_of_columns-cells.result } in
    let kept : c.match-last_mut.words.items ≡ words =
    elim c.match-last_mut.branch [
      | in-Some+else-last-place w ↦ ap (λ s. s.items) w.words-is ∙ ap (set words (vec.len - 1)) w.in-Some.ensures.value
          ∙ set-get_or words (vec.len - 1) w.in-Some.last.now
      | in_default w ↦ ap (λ s. s.items) w.words-is
    ] in
    let other : (d : RowWord) → 0 < length words → ¬ ((get_or words (length words - 1) d).place ≡ c.args.start / 64) = λ d some there.
    elim c.match-last_mut.branch [
      | in-Some+else-last-place w ↦
          (let place : length words - 1 ≡ vec.len - 1 = omega (arith, vec.ok) in
          let last = w.in-Some.last.now in
          let same : get_or words (length words - 1) d ≡ last = ap (λ k. get_or words k d) place
          ∙ get_or_default words (vec.len - 1) d last (omega (arith, vec.ok, some)) ∙ sym w.in-Some.ensures.value in
          w.if-last-place.false (ap (λ b. b.place) (sym same) ∙ there))
      | in_default w ↦ false≢true (w.in_default.ensures.variant.1 (omega (arith, vec.ok, some)))
    ] in
    subst (λ z. PutsCells words z c.args.start c.args.end) (sym (c.in_ok-push.ensures.items ∙ ap (λ z. z ++ new ∷ []) kept))
    (puts-new words c.args.start c.args.end r.words r.before r.some r.one r.within new refl c.bits_of_columns-cells.ensures other)
