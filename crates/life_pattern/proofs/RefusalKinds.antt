-- A refusal of a file has one of the kinds of files, and names a line.
use Rattle.std.proofs.Common.{◌≡◌, ℕ, ◌-◌, ◌≤◌, Bool, true, false, ◌||◌, List, [], ◌∷◌, ◌++◌, length, take, refl, sym, ◌∙◌, subst, arith, MatchBool, Some, None, nat_le}
use Rattle.std.specs.List.{slice_index_or}
use Rattle.std.proofs.lemmas.Bool.Decides.{nat_tests}
use Rattle.life_base.specs.declared.fault.Fault.{Fault}
use Rattle.life_base.specs.declared.kind.Kind.{Kind}
use Rattle.life_base.specs.declared.kind.Kind.TheVariants.{NoHeader}
use Rattle.life_mc.specs.Reading.{broken_rule, is_macrocell_kind, MacrocellLinesBreakByKinds as MacrocellKinds}
use Rattle.life_rle.specs.Grammar.{BreaksRle, is_rle_kind}
use Rattle.life_rle.specs.Laws.{RleLinesBreakByKinds as RleKinds}
use Rattle.life_pattern.specs.Files.{RefusesLines, Breaks, missing_file_part, is_macrocell, is_file_kind}

left : (a b : Bool) → a ≡ true → (a || b) ≡ true
left true b h = refl
left false b h = grind arith

right : (a b : Bool) → b ≡ true → (a || b) ≡ true
right true b h = refl
right false b h = h

by_line : (top : ℕ) → MacrocellKinds top → RleKinds → (prefix : List (List ℕ)) (line : List ℕ) (kind : Kind) → Breaks top prefix line kind
    → is_file_kind kind ≡ true
by_line top m r prefix line kind = by (is_macrocell (prefix ++ line ∷ []))
  where
    by : (b : Bool) → MatchBool b (broken_rule top prefix line ≡ Some kind) (BreaksRle top prefix line kind) → is_file_kind kind ≡ true
    by true h = left (is_macrocell_kind kind) (is_rle_kind kind) (m prefix line kind h)
    by false h = right (is_macrocell_kind kind) (is_rle_kind kind) (r top prefix line kind h)

by_end : (b : Bool) (kind : Kind) → MatchBool b (None ≡ Some kind) (Some NoHeader ≡ Some kind) → is_file_kind kind ≡ true
by_end true kind h = cc
by_end false kind h = let e : NoHeader ≡ kind = cc in subst (λ k. is_file_kind k ≡ true) e refl

ends : (lines : List (List ℕ)) (kind : Kind) → missing_file_part lines ≡ Some kind → is_file_kind kind ≡ true
ends lines kind h = by (is_macrocell lines) refl
  where
    by : (b : Bool) → is_macrocell lines ≡ b → is_file_kind kind ≡ true
    by true e = let z : missing_file_part lines ≡ None = grind (arith, e) in by_end true kind (sym z ∙ h)
    by false e = let z : missing_file_part lines ≡ Some NoHeader = grind (arith, e) in by_end false kind (sym z ∙ h)

pub refusal-kinds : (top : ℕ) → MacrocellKinds top → RleKinds → (lines : List (List ℕ)) (fault : Fault) → RefusesLines top lines fault
    → is_file_kind fault.kind ≡ true
refusal-kinds top m r lines fault h = by (nat_le h.n (length lines)) refl
  where
    by : (b : Bool) → nat_le h.n (length lines) ≡ b → is_file_kind fault.kind ≡ true
    by true e = by_line top m r (take (h.n - 1) lines) (slice_index_or lines (h.n - 1) []) fault.kind (h.at_line (grind (arith, nat_tests, e)))
    by false e = ends lines fault.kind (h.at_end (grind (arith, nat_tests, e)))

pub refusal-line : (top : ℕ) (lines : List (List ℕ)) (fault : Fault) → RefusesLines top lines fault → 1 ≤ fault.place.line
refusal-line top lines fault h = omega (arith, h.line, h.place.counted)
