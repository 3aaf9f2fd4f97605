-- What is refused at a line stays refused there, whatever comes after it.
use Rattle.std.proofs.Common.{◌≡◌, ℕ, zero, suc, ◌+◌, ◌-◌, ◌^◌, ◌<◌, ◌≤◌, min, List, [], ◌∷◌, length, take, Bool, true, false, cond, refl, ap, ◌∙◌, sym, subst, arith, Result, Ok, Err, codes}
use Rattle.life_base.specs.Text.{lines_of, begins_with}
use Rattle.life_base.specs.declared.kind.Kind.{Kind}
use Rattle.life_base.specs.declared.fault.Fault.{Fault}
use Rattle.claims.specs.Outcomes.{◌>>=◌}
use Rattle.claims.specs.Pattern.{Pattern}
use Rattle.claims.specs.Macrocell.{ClaimedMacrocell, first_line, with_macrocell_line, claimed_macrocell_cell}
use Rattle.claims.specs.Rle.{with_rle_line}
use Rattle.claims.specs.Files.{claimed_fault_at, on_line, read_lines, macrocell_of, end_of_rle, pattern_of}
use Rattle.claims.specs.Laws.{RefusedForGood}
use Rattle.claims.proofs.Format.{first_line_of, begins_line}
use Rattle.claims.proofs.RleFile.{begun}

abbrev pub cap : ℕ
cap = 2 ^ 64 - 1

pub line_of : {B : Type 0} (r : Result B Fault) (f g : Fault) → r ≡ Err f → r ≡ Err g → f.place.line ≡ g.place.line
line_of r f g e h = let same : f ≡ g = cc in ap (λ (x : Fault). x.place.line) same

same_first : (a b : List ℕ) (s t : List (List ℕ)) → a ∷ s ≡ b ∷ t → a ≡ b
same_first a b s t e = cc

same_rest : (a b : List ℕ) (s t : List (List ℕ)) → a ∷ s ≡ b ∷ t → s ≡ t
same_rest a b s t e = cc

module _ {A B : Type 0} (step : A → List ℕ → Result A Kind) (at_end : A → Result B Kind) where
  abbrev go : Result A Kind → ℕ → List (List ℕ) → Result B Fault
  go r start lines = on_line start r >>= λ (next : A). read_lines step at_end (start + 1) next lines

  -- no fault is reported of a line before the first
  fault_line : (lines : List (List ℕ)) (start : ℕ) (said : A) (f : Fault) → read_lines step at_end start said lines ≡ Err f → min start cap ≤ f.place.line
  fault_line [] start said f e = by (at_end said) e
    where
      by : (r : Result B Kind) → on_line start r ≡ Err f → min start cap ≤ f.place.line
      by (Ok b) h = cc
      by (Err kind) h = let l : min start cap ≡ f.place.line = line_of (on_line start (Err kind)) (claimed_fault_at start kind) f refl h in omega (arith, l)
  fault_line (line ∷ lines) start said f e = by (step said line) (λ next h. fault_line lines (start + 1) next f h) e
    where
      by : (r : Result A Kind) → ((next : A) → read_lines step at_end (start + 1) next lines ≡ Err f → min (start + 1) cap ≤ f.place.line)
          → (on_line start r >>= λ (next : A). read_lines step at_end (start + 1) next lines) ≡ Err f → min start cap ≤ f.place.line
      by (Ok next) below h = let l = below next h in omega (arith, l)
      by (Err kind) below h = let l : min start cap
          ≡ f.place.line = line_of {B = B} (Err (claimed_fault_at start kind)) (claimed_fault_at start kind) f refl h in omega (arith, l)

  stays : (lines other : List (List ℕ)) (start m : ℕ) (said : A) (kind : Kind) → start + m < cap → m < length lines
      → read_lines step at_end start said lines ≡ Err (claimed_fault_at (start + m) kind) → take (suc m) other ≡ take (suc m) lines
      → read_lines step at_end start said other ≡ Err (claimed_fault_at (start + m) kind)
  stays [] other start m said kind h l e t = absurd (omega arith)
  stays (line ∷ lines) [] start m said kind h l e t = cc
  stays (line ∷ lines) (o ∷ other) start m said kind h l e t =
      ap (λ (x : List ℕ). go (step said x) start other) (same_first o line (take m other) (take m lines) t)
      ∙ by (step said line) m h l (same_rest o line (take m other) (take m lines) t) (λ k next p q r s. stays lines other (start + 1) k next kind p q r s) e
    where
      by : (r : Result A Kind) (m : ℕ) → start + m < cap → m < suc (length lines) → take m other ≡ take m lines
          → ((k : ℕ) (next : A) → start + 1 + k < cap → k < length lines → read_lines step at_end (start + 1) next lines
          ≡ Err (claimed_fault_at (start + 1 + k) kind)
          → take (suc k) other ≡ take (suc k) lines → read_lines step at_end (start + 1) next other ≡ Err (claimed_fault_at (start + 1 + k) kind))
          → (on_line start r >>= λ (next : A). read_lines step at_end (start + 1) next lines) ≡ Err (claimed_fault_at (start + m) kind)
          → (on_line start r >>= λ (next : A). read_lines step at_end (start + 1) next other) ≡ Err (claimed_fault_at (start + m) kind)
      by (Err k) m p q t below e = e
      by (Ok next) zero p q t below e = let l = fault_line lines (start + 1) next (claimed_fault_at (start + 0) kind) e in absurd (omega (arith, l, p))
      by (Ok next) (suc m) p q t below e =
          let plus : start + suc m ≡ start + 1 + m = omega arith in
          subst (λ n. read_lines step at_end (start + 1) next other ≡ Err (claimed_fault_at n kind)) (sym plus)
          (below m next (omega (arith, p)) (omega arith) (subst (λ n. read_lines step at_end (start + 1) next lines ≡ Err (claimed_fault_at n kind)) plus e) t)

abbrev pub end_of : ClaimedMacrocell → Result Pattern Kind
end_of file = Ok (record { rule = file.rule; generation = file.generation; cell = claimed_macrocell_cell file.nodes })

macrocell_stays : (lines other : List (List ℕ)) (m : ℕ) (kind : Kind) → suc m < cap → m < length lines → macrocell_of lines
    ≡ Err (claimed_fault_at (suc m) kind)
    → take (suc m) other ≡ take (suc m) lines → macrocell_of other ≡ Err (claimed_fault_at (suc m) kind)
macrocell_stays [] other m kind h l e t = absurd (omega arith)
macrocell_stays (line ∷ lines) [] m kind h l e t = cc
macrocell_stays (line ∷ lines) (o ∷ other) m kind h l e t =
    ap (λ (x : List ℕ). on_line 1 (first_line x) >>= λ (b : ClaimedMacrocell). read_lines with_macrocell_line end_of 2 b other)
    (same_first o line (take m other) (take m lines) t)
    ∙ by (first_line line) m h l (same_rest o line (take m other) (take m lines) t) e
  where
    by : (r : Result ClaimedMacrocell Kind) (m : ℕ) → suc m < cap → m < suc (length lines) → take m other ≡ take m lines
        → (on_line 1 r >>= λ (b : ClaimedMacrocell). read_lines with_macrocell_line end_of 2 b lines) ≡ Err (claimed_fault_at (suc m) kind)
        → (on_line 1 r >>= λ (b : ClaimedMacrocell). read_lines with_macrocell_line end_of 2 b other) ≡ Err (claimed_fault_at (suc m) kind)
    by (Err k) m p q s f = f
    by (Ok b) zero p q s f = let g = fault_line with_macrocell_line end_of lines 2 b (claimed_fault_at 1 kind) f in absurd (omega (arith, g))
    by (Ok b) (suc m) p q s f =
        let plus : suc (suc m) ≡ 2 + m = omega arith in
        subst (λ n. read_lines with_macrocell_line end_of 2 b other ≡ Err (claimed_fault_at n kind)) (sym plus)
        (stays with_macrocell_line end_of lines other 2 m b kind (omega (arith, p)) (omega arith)
        (subst (λ n. read_lines with_macrocell_line end_of 2 b lines ≡ Err (claimed_fault_at n kind)) plus f) s)

-- inputs with one first line are of one format
same_format : (bytes other : List ℕ) (m : ℕ) → m < length (lines_of bytes) → take (suc m) (lines_of other) ≡ take (suc m) (lines_of bytes)
    → begins_with other (codes "[M2]") ≡ begins_with bytes (codes "[M2]")
same_format bytes other m l t =
    begins_line (codes "[M2]") other refl ∙ ap (λ (x : List ℕ). begins_with x (codes "[M2]")) (firsts (lines_of bytes) (lines_of other) l t)
    ∙ sym (begins_line (codes "[M2]") bytes refl)
  where
    firsts : (xs ys : List (List ℕ)) → m < length xs → take (suc m) ys ≡ take (suc m) xs → first_line_of ys ≡ first_line_of xs
    firsts [] ys h e = absurd (omega arith)
    firsts (x ∷ xs) [] h e = cc
    firsts (x ∷ xs) (y ∷ ys) h e = same_first y x (take m ys) (take m xs) e

refused_at : (bytes other : List ℕ) (m : ℕ) (kind : Kind) → m < length (lines_of bytes) → suc m < cap → pattern_of bytes ≡ Err (claimed_fault_at (suc m) kind)
    → take (suc m) (lines_of other) ≡ take (suc m) (lines_of bytes) → pattern_of other ≡ Err (claimed_fault_at (suc m) kind)
unfolding pattern_of
refused_at bytes other m kind l h e t =
    ap (λ v. cond v (macrocell_of (lines_of other)) (read_lines with_rle_line end_of_rle 1 begun (lines_of other))) (same_format bytes other m l t)
    ∙ by (begins_with bytes (codes "[M2]")) e
  where
    by : (v : Bool) → cond v (macrocell_of (lines_of bytes)) (read_lines with_rle_line end_of_rle 1 begun (lines_of bytes))
        ≡ Err (claimed_fault_at (suc m) kind)
        → cond v (macrocell_of (lines_of other)) (read_lines with_rle_line end_of_rle 1 begun (lines_of other)) ≡ Err (claimed_fault_at (suc m) kind)
    by true f = macrocell_stays (lines_of bytes) (lines_of other) m kind h l f t
    by false f =
        let plus : suc m ≡ 1 + m = omega arith in
        subst (λ n. read_lines with_rle_line end_of_rle 1 begun (lines_of other) ≡ Err (claimed_fault_at n kind)) (sym plus)
        (stays with_rle_line end_of_rle (lines_of bytes) (lines_of other) 1 m begun kind (omega (arith, h)) l
        (subst (λ n. read_lines with_rle_line end_of_rle 1 begun (lines_of bytes) ≡ Err (claimed_fault_at n kind)) plus f) t)

pub refused_for_good : RefusedForGood
refused_for_good bytes other zero kind some l h e t = absurd (omega arith)
refused_for_good bytes other (suc m) kind some l h e t = refused_at bytes other m kind (omega arith) (omega arith) e t
