-- A refused file has the fault that it has in the layer below.
use Rattle.std.proofs.Common.{◌≡◌, ℕ, zero, suc, ◌+◌, ◌-◌, ◌^◌, ◌<◌, ◌≤◌, min, List, [], ◌∷◌, ◌++◌, length, take, drop, Bool, true, false, cond, refl, ap, ◌∙◌, sym, subst, arith, ◌⊎◌, inl, inr, append_assoc, length-take-le, Some, None, Result, Ok, Err, slice_index_or, MatchBool, IfErr, IsOk, OnOk}
use Rattle.std.proofs.lemmas.Bool.{cases_Bool}
use Rattle.life_base.specs.Refusal.{Prefix, kept_lines, continuations}
use Rattle.life_base.specs.Text.{lines_of}
use Rattle.life_base.specs.declared.fault.Fault.{Fault}
use Rattle.life_base.specs.declared.kind.Kind.{Kind}
use Rattle.life_base.specs.declared.kind.Kind.TheVariants as kinds
use Rattle.life_mc.specs.Reading.{broken_rule}
use Rattle.life_rle.specs.Grammar.{IsRle, BreaksRle}
use Rattle.life_rle.specs.Decided.{LacksHeader, HasBroken}
use Rattle.life_rle.proofs.DecidedLaw.{decided as rle_decided}
use Rattle.life_rle.proofs.FormatLaws.{broken_for_good}
use Rattle.life_pattern.specs.Universe.{Universe, rle_universe}
use Rattle.life_pattern.specs.Files.{Says, as_macrocell, as_rle, Accepts, Accepted, Breaks, Refuses, is_macrocell, missing_file_part}
use Rattle.life_pattern.specs.Store.{RefusesIn, IsShortageOf}
use Rattle.life_quad.specs.Store.{Nodes}
use Rattle.claims.specs.Pattern.{Pattern}
use Rattle.claims.specs.Files.{IsShortage as IsUnmet, pattern_of, claimed_fault_at, read_lines, end_of_rle}
use Rattle.claims.specs.Rle.{with_rle_line}
use Rattle.claims.proofs.McFile.{macrocell_refuses}
use Rattle.claims.proofs.RleFile.{rle_refuses, rle_lacks, begun}
use Rattle.claims.proofs.Running.{cut_at}
use Rattle.theorems.proofs.FileLaw.{files_agree, as_mc, as_rle_lines, mc_first, rle_first}
use Rattle.life_base.proofs.Basics.{true_false}

prefix_format : (lines : List (List ℕ)) (k : ℕ) → k < length lines → is_macrocell (take k lines ++ slice_index_or lines k [] ∷ []) ≡ is_macrocell lines
prefix_format [] k h = absurd (omega arith)
prefix_format (line ∷ lines) zero h = refl
prefix_format (line ∷ lines) (suc k) h = refl

first_format : (prefix : List (List ℕ)) (line : List ℕ) (rest more : List (List ℕ))
    → is_macrocell ((prefix ++ line ∷ rest) ++ more) ≡ is_macrocell (prefix ++ line ∷ rest)
first_format [] line rest more = refl
first_format (first ∷ prefix) line rest more = refl

take_more : (lines : List (List ℕ)) (k : ℕ) → k < length lines → take (suc k) lines ≡ take k lines ++ slice_index_or lines k [] ∷ []
take_more [] k h = absurd (omega arith)
take_more (line ∷ lines) zero h = refl
take_more (line ∷ lines) (suc k) h = ap (λ (t : List (List ℕ)). line ∷ t) (take_more lines k (omega arith))

-- a line of lines that may be continued
take_seam : (xs ys : List (List ℕ)) (y : List ℕ) → take (length xs) ((xs ++ y ∷ []) ++ ys) ≡ xs
take_seam [] ys y = refl
take_seam (x ∷ xs) ys y = ap (λ (t : List (List ℕ)). x ∷ t) (take_seam xs ys y)

index_seam : (xs ys : List (List ℕ)) (y : List ℕ) → slice_index_or ((xs ++ y ∷ []) ++ ys) (length xs) [] ≡ y
index_seam [] ys y = refl
index_seam (x ∷ xs) ys y = index_seam xs ys y

length_seam : (xs ys : List (List ℕ)) (y : List ℕ) → length xs < length ((xs ++ y ∷ []) ++ ys)
length_seam [] ys y = omega arith
length_seam (x ∷ xs) ys y = let h = length_seam xs ys y in omega (arith, h)

-- the last line of a prefix of a macrocell file breaks no rule
unbroken : (prefix : List (List ℕ)) (line : List ℕ) → is_macrocell (prefix ++ line ∷ []) ≡ true → Prefix (Accepts 62) (prefix ++ line ∷ [])
    → broken_rule 62 prefix line ≡ None
unbroken prefix line m p = by (p.1.0) (p.1.1)
  where
    more : List (List ℕ)
    more = kept_lines p.0 continuations

    format : (xs ys : List (List ℕ)) (y : List ℕ) → is_macrocell ((xs ++ y ∷ []) ++ ys) ≡ is_macrocell (xs ++ y ∷ [])
    format [] ys y = refl
    format (x ∷ xs) ys y = refl

    by : (u : Universe) → Says 62 ((prefix ++ line ∷ []) ++ kept_lines p.0 continuations) u → broken_rule 62 prefix line ≡ None
    by _ (as_macrocell file are) =
        sym (ap (λ (t : List (List ℕ)). broken_rule 62 t line) (take_seam prefix (kept_lines p.0 continuations) line))
        ∙ sym (ap (λ (t : List ℕ). broken_rule 62 (take (length prefix) ((prefix ++ line ∷ []) ++ kept_lines p.0 continuations)) t)
        (index_seam prefix (kept_lines p.0 continuations) line))
        ∙ are.unbroken (length prefix) (length_seam prefix (kept_lines p.0 continuations) line)
    by _ (as_rle file is) =
        absurd (true_false (is_macrocell (prefix ++ line ∷ [])) m (sym (format prefix (kept_lines p.0 continuations) line)
        ∙ rle_first ((prefix ++ line ∷ []) ++ kept_lines p.0 continuations) file is))

fault_is : (fault : Fault) (n : ℕ) → fault.place.line ≡ min n (2 ^ 64 - 1) → claimed_fault_at n fault.kind ≡ fault
fault_is fault n e = ap (λ l. record { place = record { line = l }; kind = fault.kind }) (sym e)

when_true : (v : Bool) (P Q : Type 0) → v ≡ true → MatchBool v P Q → P
when_true true P Q e h = h
when_true false P Q e h = cc

when_false : (v : Bool) (P Q : Type 0) → v ≡ false → MatchBool v P Q → Q
when_false true P Q e h = cc
when_false false P Q e h = h

module _ (bytes : List ℕ) (fault : Fault) (r : Refuses 62 bytes fault) where
  abbrev lines : List (List ℕ)
  lines = lines_of bytes

  -- a prefix of the lines before the place
  before : (i : ℕ) → suc i < r.n → i < length (lines_of bytes) → is_macrocell (lines_of bytes) ≡ true
      → broken_rule 62 (take i (lines_of bytes)) (slice_index_or (lines_of bytes) i []) ≡ None
  before i h l m =
      unbroken (take i (lines_of bytes)) (slice_index_or (lines_of bytes) i []) (prefix_format (lines_of bytes) i l ∙ m)
      (subst (Prefix (Accepts 62)) (take_more (lines_of bytes) i l) (r.place.before (suc i) h))

  at_line : (k : ℕ) → r.n ≡ suc k → k < length (lines_of bytes) → pattern_of bytes ≡ Err fault
  at_line k e h =
      let same : r.n - 1 ≡ k = omega (arith, e) in
      let prefix = take k (lines_of bytes) in
      let line = slice_index_or (lines_of bytes) k [] in
      let breaks : Breaks 62 prefix line fault.kind = subst (λ m. Breaks 62 (take m (lines_of bytes)) (slice_index_or (lines_of bytes) m []) fault.kind) same
      (r.at_line (omega (arith, e, h))) in
      let format = prefix_format (lines_of bytes) k h in
      let reported : claimed_fault_at (suc k) fault.kind ≡ fault = fault_is fault (suc k) (r.line ∙ ap (λ n. min n (2 ^ 64 - 1)) e) in
      elim (cases_Bool (is_macrocell (lines_of bytes))) [
        | inl m ↦
            let b : broken_rule 62 prefix line ≡ Some fault.kind = when_true (is_macrocell (prefix ++ line ∷ [])) _ _ (format ∙ m) breaks in
            let plus : k + 1 ≡ suc k = omega arith in
            as_mc bytes m ∙ macrocell_refuses (lines_of bytes) k fault.kind h (λ i l. before i (omega (arith, e)) (omega arith) m) b
            ∙ ap (λ n. Err (claimed_fault_at n fault.kind)) plus ∙ ap Err reported
        | inr m ↦
            let b : BreaksRle 62 prefix line fault.kind = when_false (is_macrocell (prefix ++ line ∷ [])) _ _ (format ∙ m) breaks in
            let short : 1 + length prefix ≡ suc k = omega (arith, length-take-le k (lines_of bytes) (omega arith)) in
            as_rle_lines bytes m ∙ ap (read_lines with_rle_line end_of_rle 1 begun) (cut_at (lines_of bytes) k h)
            ∙ rle_refuses prefix (drop (suc k) (lines_of bytes)) line fault.kind b
            ∙ ap (λ n. Err (claimed_fault_at n fault.kind)) short ∙ ap Err reported
      ]

  at_end : r.n ≡ suc (length (lines_of bytes)) → pattern_of bytes ≡ Err fault
  at_end e = by (is_macrocell (lines_of bytes)) refl (r.at_end (omega (arith, e)))
    where
      reported : claimed_fault_at (suc (length (lines_of bytes))) fault.kind ≡ fault
      reported = fault_is fault (suc (length (lines_of bytes))) (r.line ∙ ap (λ n. min n (2 ^ 64 - 1)) e)

      whole : Prefix (Accepts 62) (lines_of bytes)
      whole = subst (Prefix (Accepts 62)) (all (lines_of bytes)) (r.place.before (length (lines_of bytes)) (omega (arith, e)))
        where
          all : (xs : List (List ℕ)) → take (length xs) xs ≡ xs
          all [] = refl
          all (x ∷ xs) = ap (λ (t : List (List ℕ)). x ∷ t) (all xs)

      no_broken : is_macrocell (lines_of bytes) ≡ false → HasBroken 62 (lines_of bytes) → ⊥
      no_broken m h = at (whole.1.0) (whole.1.1)
        where
          parts : lines_of bytes ++ kept_lines whole.0 continuations ≡ (h.prefix ++ h.line ∷ []) ++ (h.rest ++ kept_lines whole.0 continuations)
          parts =
              ap (λ (t : List (List ℕ)). t ++ kept_lines whole.0 continuations) h.whole
              ∙ append_assoc h.prefix (h.line ∷ h.rest) (kept_lines whole.0 continuations)
              ∙ sym (append_assoc h.prefix (h.line ∷ []) (h.rest ++ kept_lines whole.0 continuations))

          format : is_macrocell (lines_of bytes ++ kept_lines whole.0 continuations) ≡ false
          format =
              ap (λ (t : List (List ℕ)). is_macrocell (t ++ kept_lines whole.0 continuations)) h.whole
              ∙ first_format h.prefix h.line h.rest (kept_lines whole.0 continuations)
              ∙ ap is_macrocell (sym h.whole) ∙ m

          at : (u : Universe) → Says 62 (lines_of bytes ++ kept_lines whole.0 continuations) u → ⊥
          at _ (as_macrocell file are) = true_false (is_macrocell (lines_of bytes ++ kept_lines whole.0 continuations))
              (mc_first (lines_of bytes ++ kept_lines whole.0 continuations) file are) format
          at _ (as_rle file is) = (broken_for_good 62 h.prefix h.line h.kind h.breaks).2 (h.rest ++ kept_lines whole.0 continuations) file
              (subst (λ (t : List (List ℕ)). IsRle 62 t file) parts is)

      lacks : is_macrocell (lines_of bytes) ≡ false → LacksHeader 62 (lines_of bytes)
      lacks m = elim (rle_decided 62 (lines_of bytes)).0 [
        | inl some ↦ absurd (r.refused (rle_universe some.0, as_rle some.0 some.1))
        | inr (inl h) ↦ h
        | inr (inr h) ↦ absurd (no_broken m h)
      ]

      by : (v : Bool) → is_macrocell (lines_of bytes) ≡ v → missing_file_part (lines_of bytes) ≡ Some fault.kind → pattern_of bytes ≡ Err fault
      by true m h = let k : None ≡ Some fault.kind = sym (ap (λ v. cond v None (Some kinds.NoHeader)) m) ∙ h in cc
      by false m h =
          let some : Some kinds.NoHeader ≡ Some fault.kind = sym (ap (λ v. cond v None (Some kinds.NoHeader)) m) ∙ h in
          let kind : kinds.NoHeader ≡ fault.kind = cc in
          let l = lacks m in
          as_rle_lines bytes m ∙ rle_lacks (lines_of bytes) l.0 l.1
          ∙ ap (λ (k : Kind). Err (claimed_fault_at (1 + length (lines_of bytes)) k)) kind
          ∙ ap (λ n. Err (claimed_fault_at n fault.kind)) (let plus : 1 + length (lines_of bytes) ≡ suc (length (lines_of bytes)) = omega arith in plus)
          ∙ ap Err reported

  -- a refused file has this fault
  pub refuses_agree : pattern_of bytes ≡ Err fault
  refuses_agree = by (within r.n (length (lines_of bytes)) r.place.counted r.place.within)
    where
      within : (n m : ℕ) → 1 ≤ n → n ≤ m + 1 → ((k : ℕ) × (n ≡ suc k) × (k < m)) ⊎ (n ≡ suc m)
      within zero m h l = absurd (omega arith)
      within (suc k) m h l = elim (split k m (omega arith)) [ inl s ↦ inl (k, refl, s) | inr s ↦ inr (ap suc s) ]
        where
          split : (a b : ℕ) → a ≤ b → (a < b) ⊎ (a ≡ b)
          split a b h = grind arith

      by : ((k : ℕ) × (r.n ≡ suc k) × (k < length (lines_of bytes))) ⊎ (r.n ≡ suc (length (lines_of bytes))) → pattern_of bytes ≡ Err fault
      by (inl h) = at_line h.0 h.1 h.2
      by (inr h) = at_end h

-- the store is full or memory is refused
pub want_as : (store : Nodes) (fault : Fault) → IsShortageOf store fault → IsUnmet fault
want_as store fault (inl e) = inr e
want_as store fault (inr e) = inl e.0

-- why a call on bytes is refused, in the words of the claims
pub refused_as : (bytes : List ℕ) (store : Nodes) (fault : Fault) → RefusesIn 62 bytes store fault
    → (pattern_of bytes ≡ Err fault) ⊎ IsUnmet fault
refused_as bytes store fault (inl r) = inl (refuses_agree bytes fault r)
refused_as bytes store fault (inr w) = inr (want_as store fault w)

pub map_err : {X E : Type 0} {P Q : E → Type 0} (r : Result X E) → ((e : E) → P e → Q e) → IfErr r P → IfErr r Q
map_err (Ok x) f h = tt
map_err (Err e) f h = f e h

pub accepted_is_ok : (bytes : List ℕ) → Accepted 62 bytes → IsOk (pattern_of bytes)
accepted_is_ok bytes h = by (pattern_of bytes) (files_agree bytes h.0 h.1).pattern (files_agree bytes h.0 h.1).is
  where
    by : (r : Result Pattern Fault) (p : Pattern) → r ≡ Ok p → IsOk r
    by (Ok x) p e = refl
    by (Err k) p e = cc

pub both_files : {X E : Type 0} (a b : List ℕ) (r : Result X E) → OnOk r (Accepted 62 a × Accepted 62 b)
    → OnOk r (IsOk (pattern_of a) × IsOk (pattern_of b))
both_files a b (Ok x) h = (accepted_is_ok a h.0, accepted_is_ok b h.1)
both_files a b (Err e) h = tt

-- why two files are not compared
pub uncompared_as : (a b : List ℕ) (store : Nodes) (fault : Fault)
    → Refuses 62 a fault ⊎ ((Accepted 62 a × Refuses 62 b fault) ⊎ IsShortageOf store fault)
    → (pattern_of a ≡ Err fault) ⊎ ((IsOk (pattern_of a) × (pattern_of b ≡ Err fault)) ⊎ IsUnmet fault)
uncompared_as a b store fault (inl r) = inl (refuses_agree a fault r)
uncompared_as a b store fault (inr (inl r)) = inr (inl (accepted_is_ok a r.0, refuses_agree b fault r.1))
uncompared_as a b store fault (inr (inr w)) = inr (inr (want_as store fault w))
