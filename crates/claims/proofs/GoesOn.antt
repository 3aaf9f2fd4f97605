-- The lines before a refused one are a prefix of a file.
use Rattle.std.proofs.Common.{◌≡◌, ℕ, zero, suc, ◌+◌, ◌-◌, ◌<◌, min, List, [], ◌∷◌, ◌++◌, length, take, Bool, true, false, cond, not, ◌&&◌, refl, ap, ◌∙◌, sym, subst, arith, inl, inr, ◌==◌, Result, Ok, Err, IsOk, codes, append-nil}
use Rattle.std.specs.List.{list_all}
use Rattle.std.proofs.lemmas.Bool.{and_from, cases_Bool}
use Rattle.life_base.proofs.WholeLines.{lines-joined}
use Rattle.life_base.proofs.Basics.{right_of_and, left_of_and}
use Rattle.life_base.specs.Lines.{has_no_feed, joined_lines}
use Rattle.life_base.specs.Text.{lines_of, onto_first, begins_with}
use Rattle.life_base.specs.declared.kind.Kind.{Kind}
use Rattle.life_base.specs.declared.kind.Kind.TheVariants.{NoHeader}
use Rattle.life_base.specs.declared.fault.Fault.{Fault}
use Rattle.claims.specs.Outcomes.{◌>>=◌}
use Rattle.claims.specs.Rules.{claimed_default_rule}
use Rattle.claims.specs.Pattern.{Pattern}
use Rattle.claims.specs.Macrocell.{ClaimedMacrocell, first_line, claimed_macrocell_cell, with_macrocell_line as with_node_line}
use Rattle.claims.specs.Rle.{Lines, PositionFields, before_header, after_header, after_end, with_rle_line}
use Rattle.claims.specs.Files.{claimed_fault_at, on_line, read_lines, macrocell_of, end_of_rle, pattern_of}
use Rattle.claims.specs.Laws.{lines_with_feeds, PrefixesGoOn}
use Rattle.claims.proofs.Format.{first_line_of, begins_line}
use Rattle.claims.proofs.RleFile.{begun}
use Rattle.claims.proofs.Running.{Runs, ended_behind, runs_on}
use Rattle.claims.proofs.Stays.{cap, line_of, end_of}

-- ---- lines that are put together again

ended_is : (lines : List (List ℕ)) → lines_with_feeds lines ≡ joined_lines lines
ended_is [] = refl
ended_is (line ∷ lines) = ap (λ (t : List ℕ). line ++ 10 ∷ t) (ended_is lines)

no_feeds : (bytes : List ℕ) → list_all has_no_feed (lines_of bytes) ≡ true
no_feeds [] = refl
no_feeds (b ∷ bytes) = by (b == 10) refl (lines_of bytes) (no_feeds bytes)
  where
    onto : (lines : List (List ℕ)) → (b == 10) ≡ false → list_all has_no_feed lines ≡ true → list_all has_no_feed (onto_first b lines) ≡ true
    onto [] e h = ap (λ v. (not v && true) && true) e
    onto (line ∷ lines) e h = ap (λ v. (not v && has_no_feed line) && list_all has_no_feed lines) e ∙ h

    by : (v : Bool) → (b == 10) ≡ v → (lines : List (List ℕ)) → list_all has_no_feed lines ≡ true
        → list_all has_no_feed (cond v ([] ∷ lines) (onto_first b lines)) ≡ true
    by true e lines h = h
    by false e lines h = onto lines e h

prefix_no_feeds : (lines : List (List ℕ)) (n : ℕ) → list_all has_no_feed lines ≡ true → list_all has_no_feed (take n lines) ≡ true
prefix_no_feeds lines zero h = refl
prefix_no_feeds [] (suc n) h = refl
prefix_no_feeds (line ∷ lines) (suc n) h = and_from _ _ (left_of_and _ _ h) (prefix_no_feeds lines n (right_of_and (has_no_feed line) _ h))

-- the lines of a prefix, and of what comes after it
prefix_lines : (bytes more : List ℕ) (n : ℕ) → lines_of (lines_with_feeds (take n (lines_of bytes)) ++ more) ≡ take n (lines_of bytes) ++ lines_of more
prefix_lines bytes more n =
    ap (λ (t : List ℕ). lines_of (t ++ more)) (ended_is (take n (lines_of bytes)))
    ∙ lines-joined (take n (lines_of bytes)) more (prefix_no_feeds (lines_of bytes) n (no_feeds bytes))

-- ---- the lines before a fault

-- the first m lines lead somewhere
abbrev Leads : {A : Type 0} → (A → List ℕ → Result A Kind) → A → List (List ℕ) → ℕ → Type 0
Leads {A} step said lines m = (next : A) × Runs step said (take m lines) next

module _ {A B : Type 0} (step : A → List ℕ → Result A Kind) (at_end : A → Result B Kind) where
  leads : (lines : List (List ℕ)) (start m : ℕ) (said : A) (kind : Kind) → start + m < cap
      → read_lines step at_end start said lines ≡ Err (claimed_fault_at (start + m) kind) → Leads step said lines m
  leads lines start zero said kind h e = (said, refl)
  leads [] start (suc m) said kind h e = (said, refl)
  leads (line ∷ lines) start (suc m) said kind h e =
      by (step said line) refl (λ next f. leads lines (start + 1) m next kind (omega (arith, h)) f) e
    where
      plus : start + suc m ≡ start + 1 + m
      plus = omega arith

      by : (r : Result A Kind) → step said line ≡ r
          → ((next : A) → read_lines step at_end (start + 1) next lines ≡ Err (claimed_fault_at (start + 1 + m) kind) → Leads step next lines m)
          → (on_line start r >>= λ (next : A). read_lines step at_end (start + 1) next lines) ≡ Err (claimed_fault_at (start + suc m) kind)
          → Leads step said (line ∷ lines) (suc m)
      by (Ok next) s below f =
          let l = below next (subst (λ n. read_lines step at_end (start + 1) next lines ≡ Err (claimed_fault_at n kind)) plus f) in (l.0, (next, s, l.1))
      by (Err k) s below f =
          let l : min start cap ≡ min (start + suc m) cap =
          line_of {B = B} (Err (claimed_fault_at start k)) (claimed_fault_at start k) (claimed_fault_at (start + suc m) kind) refl f in absurd
          (omega (arith, l, h))

is_ok : {A : Type 0} (r : Result A Fault) (a : A) → r ≡ Ok a → IsOk r
is_ok (Ok x) a e = refl
is_ok (Err f) a e = cc

-- ---- a macrocell file

some_mc : (lines : List (List ℕ)) (m : ℕ) (kind : Kind) → suc (suc m) < cap → macrocell_of lines ≡ Err (claimed_fault_at (suc (suc m)) kind)
    → (pattern : Pattern) × (macrocell_of (take (suc m) lines) ≡ Ok pattern)
some_mc [] m kind g e =
    let l : min 1 cap ≡ min (suc (suc m)) cap = line_of (macrocell_of []) (claimed_fault_at 1 NoHeader) (claimed_fault_at (suc (suc m)) kind) refl e in
    absurd (omega (arith, l, g))
some_mc (line ∷ lines) m kind g e = by (first_line line) refl e
  where
    plus : suc (suc m) ≡ 2 + m
    plus = omega arith

    by : (r : Result ClaimedMacrocell Kind) → first_line line ≡ r
        → (on_line 1 r >>= λ (b : ClaimedMacrocell). read_lines with_node_line end_of 2 b lines) ≡ Err (claimed_fault_at (suc (suc m)) kind)
        → (pattern : Pattern) × (macrocell_of (take (suc m) (line ∷ lines)) ≡ Ok pattern)
    by (Err k) s f =
        let l : min 1 cap ≡ min (suc (suc m)) cap = line_of {B = Pattern} (Err (claimed_fault_at 1 k)) (claimed_fault_at 1 k)
        (claimed_fault_at (suc (suc m)) kind) refl f in
        absurd (omega (arith, l, g))
    by (Ok b) s f =
        let l = leads with_node_line end_of lines 2 m b kind (omega (arith, g))
        (subst (λ n. read_lines with_node_line end_of 2 b lines ≡ Err (claimed_fault_at n kind)) plus f) in (
          record { rule = l.0.rule; generation = l.0.generation; cell = claimed_macrocell_cell l.0.nodes },
          ap (λ (r : Result ClaimedMacrocell Kind). on_line 1 r >>= λ (c : ClaimedMacrocell). read_lines with_node_line end_of 2 c (take m lines)) s
              ∙ ended_behind with_node_line end_of b l.0 (take m lines) 2 l.1,
        )

as_mc : (bytes : List ℕ) → begins_with bytes (codes "[M2]") ≡ true → pattern_of bytes ≡ macrocell_of (lines_of bytes)
unfolding pattern_of
as_mc bytes h = ap (λ v. cond v (macrocell_of (lines_of bytes)) (read_lines with_rle_line end_of_rle 1 begun (lines_of bytes))) h

as_rle : (bytes : List ℕ) → begins_with bytes (codes "[M2]") ≡ false → pattern_of bytes ≡ read_lines with_rle_line end_of_rle 1 begun (lines_of bytes)
unfolding pattern_of
as_rle bytes h = ap (λ v. cond v (macrocell_of (lines_of bytes)) (read_lines with_rle_line end_of_rle 1 begun (lines_of bytes))) h

-- bytes begin as their first line
first_is : (bytes : List ℕ) (lines : List (List ℕ)) → lines_of bytes ≡ lines
    → begins_with bytes (codes "[M2]") ≡ begins_with (first_line_of lines) (codes "[M2]")
first_is bytes lines e =
    begins_line (codes "[M2]") bytes refl ∙ ap (λ (t : List (List ℕ)). begins_with (first_line_of t) (codes "[M2]")) e

-- ---- both formats

nothing_more : (lines : List (List ℕ)) → lines ≡ lines ++ lines_of []
nothing_more lines = sym (append-nil lines)

abbrev blank : Pattern
blank = record { rule = claimed_default_rule; generation = 0; cell = claimed_macrocell_cell [] }

blank_is : pattern_of (codes "[M2]") ≡ Ok blank
unfolding pattern_of
blank_is = refl

mc_goes_on : (bytes : List ℕ) (m : ℕ) (kind : Kind) → begins_with bytes (codes "[M2]") ≡ true → suc m < cap → pattern_of bytes
    ≡ Err (claimed_fault_at (suc m) kind)
    → (more : List ℕ) × IsOk (pattern_of (lines_with_feeds (take m (lines_of bytes)) ++ more))
mc_goes_on bytes zero kind f h e = (codes "[M2]", is_ok (pattern_of (codes "[M2]")) blank blank_is)
mc_goes_on bytes (suc m) kind f h e =
    let some = some_mc (lines_of bytes) m kind h (sym (as_mc bytes f) ∙ e) in
    let prefix = lines_with_feeds (take (suc m) (lines_of bytes)) ++ [] in
    let lines : lines_of prefix ≡ take (suc m) (lines_of bytes) = prefix_lines bytes [] (suc m) ∙ append-nil (take (suc m) (lines_of bytes)) in
    let format : begins_with prefix (codes "[M2]") ≡ true =
    first_is prefix (take (suc m) (lines_of bytes)) lines ∙ ap (λ (t : List ℕ). begins_with t (codes "[M2]")) (first_same (lines_of bytes) m)
    ∙ sym (first_is bytes (lines_of bytes) refl) ∙ f in
    ([], is_ok (pattern_of prefix) some.0 (as_mc prefix format ∙ ap macrocell_of lines ∙ some.1))
  where
    first_same : (lines : List (List ℕ)) (m : ℕ) → first_line_of (take (suc m) lines) ≡ first_line_of lines
    first_same [] m = refl
    first_same (line ∷ lines) m = refl

blank_header : (position : PositionFields) → with_rle_line (before_header position) (codes "x = 1, y = 1")
    ≡ Ok (after_header (record { rule = claimed_default_rule; position = position; items = [] }))
unfolding with_rle_line
blank_header position = refl

abbrev FirstLines : List ℕ → ℕ → List ℕ
FirstLines bytes m = lines_with_feeds (take m (lines_of bytes))

-- a prefix of lines that are no macrocell file is none, with or without a header after it
no_mc : (bytes : List ℕ) (m : ℕ) (more : List ℕ) → begins_with bytes (codes "[M2]") ≡ false
    → begins_with (first_line_of (lines_of more)) (codes "[M2]") ≡ false → begins_with (FirstLines bytes m ++ more) (codes "[M2]") ≡ false
no_mc bytes m more f g =
    first_is (FirstLines bytes m ++ more) (take m (lines_of bytes) ++ lines_of more) (prefix_lines bytes more m)
    ∙ at (lines_of bytes) m (sym (first_is bytes (lines_of bytes) refl) ∙ f)
  where
    at : (lines : List (List ℕ)) (m : ℕ) → begins_with (first_line_of lines) (codes "[M2]") ≡ false
        → begins_with (first_line_of (take m lines ++ lines_of more)) (codes "[M2]") ≡ false
    at lines zero h = g
    at [] (suc m) h = g
    at (line ∷ lines) (suc m) h = h

rle_goes_on : (bytes : List ℕ) (m : ℕ) (kind : Kind) → begins_with bytes (codes "[M2]") ≡ false → suc m < cap → pattern_of bytes
    ≡ Err (claimed_fault_at (suc m) kind)
    → (more : List ℕ) × IsOk (pattern_of (lines_with_feeds (take m (lines_of bytes)) ++ more))
rle_goes_on bytes m kind f h e = by l.0 l.1
  where
    plus : suc m ≡ 1 + m
    plus = omega arith

    l : Leads with_rle_line begun (lines_of bytes) m
    l = leads with_rle_line end_of_rle (lines_of bytes) 1 m begun kind (omega (arith, h))
        (subst (λ n. read_lines with_rle_line end_of_rle 1 begun (lines_of bytes) ≡ Err (claimed_fault_at n kind)) plus (sym (as_rle bytes f) ∙ e))

    whole : (more : List ℕ) (next : Lines) (pattern : Pattern) → begins_with (first_line_of (lines_of more)) (codes "[M2]") ≡ false
        → Runs with_rle_line begun (take m (lines_of bytes) ++ lines_of more) next → end_of_rle next ≡ Ok pattern
        → IsOk (pattern_of (FirstLines bytes m ++ more))
    whole more next pattern g r p =
        is_ok (pattern_of (FirstLines bytes m ++ more)) pattern
        (as_rle (FirstLines bytes m ++ more) (no_mc bytes m more f g) ∙ ap (read_lines with_rle_line end_of_rle 1 begun) (prefix_lines bytes more m)
        ∙ ended_behind with_rle_line end_of_rle begun next (take m (lines_of bytes) ++ lines_of more) 1 r
        ∙ ap (on_line (1 + length (take m (lines_of bytes) ++ lines_of more))) p)

    by : (next : Lines) → Runs with_rle_line begun (take m (lines_of bytes)) next → (more : List ℕ)
        × IsOk (pattern_of (lines_with_feeds (take m (lines_of bytes)) ++ more))
    by (before_header position) r = (
      codes "x = 1, y = 1",
      whole (codes "x = 1, y = 1") (after_header (record { rule = claimed_default_rule; position = position; items = [] })) _ refl
          (runs_on with_rle_line begun (before_header position) (after_header (record { rule = claimed_default_rule; position = position; items = [] }))
          (take m (lines_of bytes)) (lines_of (codes "x = 1, y = 1")) r
          (after_header (record { rule = claimed_default_rule; position = position; items = [] }), blank_header position, refl)) refl,
    )
    by (after_header file) r = (
      [],
      whole [] (after_header file) _ refl
          (subst (λ (t : List (List ℕ)). Runs with_rle_line begun t (after_header file)) (nothing_more (take m (lines_of bytes))) r) refl,
    )
    by (after_end file) r = (
      [],
      whole [] (after_end file) _ refl
          (subst (λ (t : List (List ℕ)). Runs with_rle_line begun t (after_end file)) (nothing_more (take m (lines_of bytes))) r) refl,
    )

pub prefixes_go_on : PrefixesGoOn
prefixes_go_on bytes zero kind some h e = absurd (omega arith)
prefixes_go_on bytes (suc m) kind some h e =
    let same : suc m - 1 ≡ m = omega arith in
    subst (λ k. (more : List ℕ) × IsOk (pattern_of (lines_with_feeds (take k (lines_of bytes)) ++ more))) (sym same)
    (elim (cases_Bool (begins_with bytes (codes "[M2]"))) [ inl f ↦ mc_goes_on bytes m kind f h e | inr f ↦ rle_goes_on bytes m kind f h e ])
