-- What is put on lines one after another is the text of the lines.
use Rattle.std.proofs.Common.{◌≡◌, ◌==◌, ℕ, ◌+◌, ◌<◌, ◌≤◌, Bool, true, false, cond, decimal, refl, List, [], ◌∷◌, ◌++◌, length, map, sym, ap, ◌∙◌, arith, append_assoc, leb, Result, Ok, Err, OnOk, flat_map, if◌then◌else◌, nat_le, append-nil, length-append}
use Rattle.std.proofs.lemmas.Bool.Decides.{nat_tests}
use Rattle.std.proofs.lemmas.Fmt.{decimal_digit}
use Rattle.life_base.specs.declared.rule.Rule.{Rule}
use Rattle.life_rle.specs.declared.item.Item.{Item}
use Rattle.life_rle.specs.declared.item.Item.TheVariants.{Cells, RowEnds}
use Rattle.life_rle.specs.declared.wrapping.ItemLines.{ItemLines}
use Rattle.life_rle.specs.Cursor.{item_count}
use Rattle.life_rle.specs.Written.{count_text, item_text, item_lines, wrapped_lines}
use Rattle.life_rle.specs.Writer.{tag_text, feed, used_after, text_from, items_text, text_with, PutsItems}
use Rattle.life_rle.proofs.FileLines.{state_text-short}

pub tag-short : (rule : Rule) (item : Item) → length (tag_text rule item) ≤ 2
tag-short rule (Cells n s) = state_text-short rule s
tag-short rule (RowEnds n) = omega arith

-- one after the other
pub Puts-then : (rule : Rule) (xs ys : List Item) (old middle new : ItemLines) → PutsItems rule old xs middle → PutsItems rule middle ys new
    → PutsItems rule old (xs ++ ys) new
Puts-then rule xs ys old middle new p q = record {
  short = q.short;
  text = λ more. q.text more ∙ p.text (ys ++ more) ∙ ap (λ items. text_with rule old items) (sym (append_assoc xs ys more));
}

-- lines, each with its line feed, are the text from the first line's bytes on
pub wrapped-text : (line : List ℕ) (texts : List (List ℕ)) → flat_map (λ line. line ++ 10 ∷ []) (wrapped_lines line texts) ≡ line
    ++ text_from (length line) texts
wrapped-text line [] = append-nil (line ++ 10 ∷ [])
wrapped-text line (text ∷ texts) =
    elim (leb (length line + length text) 70)
    as (λ t. flat_map (λ line. line ++ 10 ∷ []) (cond t (wrapped_lines (line ++ text) texts) (line ∷ wrapped_lines text texts))
    ≡ line ++ (cond t [] (10 ∷ []) ++ (text ++ text_from (cond t (length line + length text) (length text)) texts))) [
      | true ↦ wrapped-text (line ++ text) texts ∙ append_assoc line text (text_from (length (line ++ text)) texts)
          ∙ ap (λ n. line ++ (text ++ text_from n texts)) (length-append line text)
      | false ↦ append_assoc line (10 ∷ []) (flat_map (λ line. line ++ 10 ∷ []) (wrapped_lines text texts))
          ∙ ap (λ t. line ++ (10 ∷ t)) (wrapped-text text texts)
    ]

-- two lines, and items
pub lines-text : (position header : List ℕ) (rule : Rule) (items : List Item) (first second new : List ℕ) → first ≡ position ++ 10 ∷ []
    → second ≡ first ++ (header ++ 10 ∷ []) → new ≡ second ++ items_text rule 0 items
    → new ≡ flat_map (λ line. line ++ 10 ∷ []) (position ∷ header ∷ item_lines rule items)
lines-text position header rule items first second new a b e =
    let rest = items_text rule 0 items in
    e ∙ ap (λ t. t ++ rest) (b ∙ ap (λ t. t ++ (header ++ 10 ∷ [])) a)
    ∙ append_assoc (position ++ 10 ∷ []) (header ++ 10 ∷ []) rest
    ∙ ap (λ t. (position ++ 10 ∷ []) ++ ((header ++ 10 ∷ []) ++ t)) (sym (wrapped-text [] (map (item_text rule) items ++ (33 ∷ []) ∷ [])))

-- four texts, one after the other
pub four-texts : (a b c d old first second third new : List ℕ) → first ≡ old ++ a → second ≡ first ++ b → third ≡ second ++ c → new ≡ third ++ d
    → new ≡ old ++ (((a ++ b) ++ c) ++ d)
four-texts a b c d old first second third new e f g h =
    h ∙ ap (λ t. t ++ d) (g ∙ ap (λ t. t ++ c) (f ∙ ap (λ t. t ++ b) e ∙ append_assoc old a b) ∙ append_assoc old (a ++ b) c)
    ∙ append_assoc old ((a ++ b) ++ c) d

-- three texts, one after the other
pub three-texts : (a b c old first second new : List ℕ) → first ≡ old ++ a → second ≡ first ++ b → new ≡ second ++ c → new ≡ old ++ (a ++ (b ++ c))
three-texts a b c old first second new e f g = rw (g, f, e) (simp append_assoc)

-- an item whose text fits on the line
Puts-fitting : (rule : Rule) (item : Item) (old new : ItemLines) (t : List ℕ) → item_text rule item ≡ t → old.used + length t ≤ 70
    → new.text.items ≡ old.text.items ++ t → new.used ≡ old.used + length t → PutsItems rule old (item ∷ []) new
Puts-fitting rule item old new t is fits e u = record {
  short = omega (arith, fits, u);
  text = λ more.
      let rest = λ (used : ℕ). items_text rule used more in
      let on_line : nat_le (old.used + length t) 70 ≡ true = grind (arith, nat_tests, fits) in
      let behind : text_with rule old (item ∷ more) ≡ old.text.items ++ (t ++ rest (old.used + length t)) =
      ap (λ s. old.text.items ++ (feed old.used (length s) ++ (s ++ rest (used_after old.used (length s))))) is
      ∙ ap (λ b. old.text.items ++ ((if b then [] else 10 ∷ []) ++ (t ++ rest (if b then old.used + length t else length t)))) on_line in
      ap (λ l. l ++ rest new.used) e ∙ append_assoc old.text.items t (rest new.used) ∙ ap (λ n. old.text.items ++ (t ++ rest n)) u ∙ sym behind;
}

count-and-tag : (rule : Rule) (item : Item) → item_text rule item ≡ count_text (item_count item) ++ tag_text rule item
count-and-tag rule (Cells n s) = refl
count-and-tag rule (RowEnds n) = refl

-- a count of one digit
pub short-count : (n : ℕ) → n < 10 → (n ≡ 1 → ⊥) → count_text n ≡ (48 + n) ∷ []
short-count n small more = let digit = decimal_digit n small in grind (arith, nat_tests, digit)

short-length : (n letter : ℕ) → n < 10 → length (count_text n ++ letter ∷ []) ≤ 2
short-length n letter small = by (n == 1) refl
  where
    digit : decimal n ≡ (48 + n) ∷ []
    digit = decimal_digit n small

    by : (b : Bool) → (n == 1) ≡ b → length ((if b then [] else decimal n) ++ letter ∷ []) ≤ 2
    by true e = omega arith
    by false e = let len = ap (λ ds. length (ds ++ letter ∷ [])) digit in omega (arith, len)

-- such a count and a letter, on a line with space for two bytes
pub Puts-short : (rule : Rule) (item : Item) (old new : ItemLines) (count letter : ℕ) → count ≡ item_count item → tag_text rule item ≡ letter ∷ [] → count < 10
    → old.used + 2 ≤ 70 → new.used ≡ old.used + length (count_text count ++ letter ∷ [])
    → new.text.items ≡ old.text.items ++ (count_text count ++ letter ∷ []) → PutsItems rule old (item ∷ []) new
Puts-short rule item old new count letter counted tag small space u e =
    let len = short-length count letter small in
    Puts-fitting rule item old new (count_text count ++ letter ∷ []) (count-and-tag rule item ∙ (λ i. count_text (sym counted i) ++ tag i))
    (omega (arith, len, space)) e u

-- two facts of a success
pub on-ok-both : {T E A B C : Type 0} (r : Result T E) → (A → B → C) → OnOk r A → OnOk r B → OnOk r C
on-ok-both (Ok v) f a b = f a b
on-ok-both (Err e) f a b = tt
