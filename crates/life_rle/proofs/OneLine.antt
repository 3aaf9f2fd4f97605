-- The written lines have no line feed.
use Rattle.std.proofs.Common.{◌≡◌, ℕ, ◌+◌, ◌-◌, ◌/◌, ◌%◌, ◌^◌, ◌≤◌, ◌<◌, true, false, not, cond, ◌&&◌, List, [], ◌∷◌, ◌++◌, length, refl, ap, ◌∙◌, arith, eqb, leb, decimal}
use Rattle.std.specs.List.{list_all}
use Rattle.std.proofs.lemmas.Bool.Decides.{nat_tests}
use Rattle.std.proofs.lemmas.List.Folds.{list_all-append}
use Rattle.std.specs.Char.{is_ascii_digit}
use Rattle.life_base.proofs.NamesRead.{all_pass}
use Rattle.life_rle.specs.Written.{wrapped_lines, count_text, item_text}
use Rattle.life_base.specs.declared.rule.Rule.{Rule}
use Rattle.life_base.specs.declared.rule.Rule.TheVariants.{Life, Named}
use Rattle.life_rle.specs.declared.item.Item.{Item}
use Rattle.life_rle.specs.declared.item.Item.TheVariants.{Cells, RowEnds}
use Rattle.life_rle.specs.States.{state_text, state_letters}
use Rattle.life_rle.specs.Cursor.{item_count}
use Rattle.life_rle.proofs.Texts.{decimal-is_digit_text}
use Rattle.life_rle.proofs.ReadBack.{is_one_line, AreLines, digits-all}
use Rattle.life_rle.specs.Plane.{most_count}
use Rattle.life_base.specs.declared.cell.TheConstants.{MAX_LEVEL}

pub one_line-append : (xs ys : List ℕ) → is_one_line xs ≡ true → is_one_line ys ≡ true → is_one_line (xs ++ ys) ≡ true
one_line-append xs ys h k = list_all-append (λ b. not (eqb b 10)) xs ys ∙ ap (λ t. t && is_one_line ys) h ∙ k

-- texts without a line feed make lines without one
pub wrapped-AreLines : (line : List ℕ) (texts : List (List ℕ)) → is_one_line line ≡ true → AreLines texts → AreLines (wrapped_lines line texts)
wrapped-AreLines line [] h t = (h, tt)
wrapped-AreLines line (text ∷ texts) h t =
    elim (leb (length line + length text) 70) as (λ b. AreLines (cond b (wrapped_lines (line ++ text) texts) (line ∷ wrapped_lines text texts)))
    [ true ↦ wrapped-AreLines (line ++ text) texts (one_line-append line text h t.0) t.1 | false ↦ (h, wrapped-AreLines text texts t.0 t.1) ]

digit-inner : (d : ℕ) → is_ascii_digit d ≡ true → not (eqb d 10) ≡ true
digit-inner d h = grind (arith, nat_tests)

pub digits-one_line : (digits : List ℕ) → list_all is_ascii_digit digits ≡ true → is_one_line digits ≡ true
digits-one_line digits h = all_pass is_ascii_digit (λ b. not (eqb b 10)) digit-inner digits h

pub decimal-one_line : (n : ℕ) → n < 2 ^ 64 → is_one_line (decimal n) ≡ true
decimal-one_line n h = digits-one_line (decimal n) (digits-all (decimal n) (decimal-is_digit_text n h))

pub count_text-one_line : (n : ℕ) → n < 2 ^ 64 → is_one_line (count_text n) ≡ true
count_text-one_line n h = elim (eqb n 1) as (λ t. is_one_line (cond t [] (decimal n)) ≡ true) [ true ↦ refl | false ↦ decimal-one_line n h ]

above-inner : (k n : ℕ) → 10 < k → not (eqb (k + n) 10) ≡ true
above-inner k n h = grind (arith, nat_tests)

pub lettered-one_line : (n : ℕ) → is_one_line (state_letters n) ≡ true
lettered-one_line n =
    elim (eqb n 0) as (λ t. is_one_line (cond t (46 ∷ []) (cond (leb n 24) ((64 + n) ∷ []) ((111 + (n - 1) / 24) ∷ (65 + (n - 1) % 24) ∷ []))) ≡ true) [
      | true ↦ refl
      | false ↦ elim (leb n 24) as (λ t. is_one_line (cond t ((64 + n) ∷ []) ((111 + (n - 1) / 24) ∷ (65 + (n - 1) % 24) ∷ [])) ≡ true) [
        | true ↦ ap (λ t. t && true) (above-inner 64 n (omega arith))
        | false ↦ ap (λ t. t && (not (eqb (65 + (n - 1) % 24) 10) && true)) (above-inner 111 ((n - 1) / 24) (omega arith))
            ∙ ap (λ t. t && true) (above-inner 65 ((n - 1) % 24) (omega arith))
      ]
    ]

pub state_text-one_line : (rule : Rule) (n : ℕ) → is_one_line (state_text rule n) ≡ true
state_text-one_line (Life sets) n = elim (eqb n 0) as (λ t. is_one_line ((cond t 98 111) ∷ []) ≡ true) [ true ↦ refl | false ↦ refl ]
state_text-one_line (Named name) n = lettered-one_line n

-- the text of an item whose count is small
pub item_text-one_line : (rule : Rule) (item : Item) → item_count item ≤ most_count MAX_LEVEL → is_one_line (item_text rule item) ≡ true
item_text-one_line rule (Cells n s) h = one_line-append (count_text n) (state_text rule s) (count_text-one_line n (omega arith)) (state_text-one_line rule s)
item_text-one_line rule (RowEnds n) h = one_line-append (count_text n) (36 ∷ []) (count_text-one_line n (omega arith)) refl
