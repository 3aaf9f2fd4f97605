-- The first line of a text, and the first that has an item.
use Rattle.std.proofs.Common.{◌≡◌, ℕ, ◌+◌, ◌<◌, ◌≤◌, List, [], ◌∷◌, true, false, None, Some, length, take, take_all, drop, refl, ap, sym, ◌∙◌, arith, codes, ◌==◌}
use Rattle.std.specs.Prelude.{position}
use Rattle.std.proofs.lemmas.Grind.{common_steps}
use Rattle.std.proofs.lemmas.List.{drop_all}
use Rattle.life_base.specs.Text.{lines_of, begins_with}
use Rattle.life_base.specs.Lines.{one_line}
use Rattle.life_base.proofs.LineEnds.{lines_at, lines_without}
use Rattle.file_hints.specs.Recognition.{first_text, lines_but_first, has_no_item, first_item}

-- a line that hasn't ended is the first one
first_of_one : (text : List ℕ) → first_text (one_line text) ≡ text
first_of_one [] = refl
first_of_one (b ∷ text) = refl

none_behind_one : (text : List ℕ) → [] ≡ lines_but_first (one_line text)
none_behind_one [] = refl
none_behind_one (b ∷ text) = refl

pub first_at : (text : List ℕ) (i : ℕ) → position (λ b. b == 10) text ≡ Some i → take i text ≡ first_text (lines_of text)
first_at text i h = sym (ap first_text (lines_at text i h))

pub first_without : (text : List ℕ) → position (λ b. b == 10) text ≡ None → text ≡ first_text (lines_of text)
first_without text h = sym (ap first_text (lines_without text h) ∙ first_of_one text)

pub behind_at : (text : List ℕ) (i : ℕ) → position (λ b. b == 10) text ≡ Some i → lines_of (drop (i + 1) text) ≡ lines_but_first (lines_of text)
behind_at text i h = sym (ap lines_but_first (lines_at text i h))

pub behind_without : (text : List ℕ) → position (λ b. b == 10) text ≡ None → [] ≡ lines_but_first (lines_of text)
behind_without text h = none_behind_one text ∙ sym (ap lines_but_first (lines_without text h))

-- a first line without an item is passed over, and another one is the one that is looked for
pub passed : (lines : List (List ℕ)) → has_no_item (first_text lines) ≡ true → first_item lines ≡ first_item (lines_but_first lines)
passed [] h = refl
passed (line ∷ lines) h = rw h refl

pub found : (lines : List (List ℕ)) → has_no_item (first_text lines) ≡ false → first_text lines ≡ first_item lines
found [] h = refl
found (line ∷ lines) h = rw h refl

-- of no lines none has an item
pub none_left : (text : List ℕ) → length text ≡ 0 → text ≡ first_item (lines_of text)
none_left [] h = refl
none_left (b ∷ text) h = absurd (omega arith)

-- what is shorter than the place of the mark is no tar file
pub too_short : (head : List ℕ) → length head < 257 → false ≡ begins_with (drop 257 head) (codes "ustar")
too_short head h = sym (ap (λ t. begins_with t (codes "ustar")) (drop_all 257 head (omega arith)))

-- the prefix of a text, and a text that is no longer than its prefix
pub cut_length : (n : ℕ) (text : List ℕ) → n ≤ length text → n ≡ length (take n text)
cut_length n text h = grind (arith, common_steps)

pub whole : (n : ℕ) (text : List ℕ) → length text ≤ n → text ≡ take n text
whole n text h = sym (take_all n text h)
