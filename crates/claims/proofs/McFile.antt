-- A macrocell file says what it says in the layer below.
use Rattle.std.proofs.Common.{◌≡◌, ℕ, zero, suc, ◌+◌, ◌<◌, List, [], ◌∷◌, ◌++◌, length, take, drop, map, Bool, true, false, cond, refl, ap, ◌∙◌, sym, subst, arith, append_assoc, length-take-le, Option, Some, None, Result, Ok, Err, ℤ, codes, filter_map, slice_index_or, append-nil}
use Rattle.std.specs.Option.{option_to_list, unwrap_or}
use Rattle.std.proofs.lemmas.List.Elements.{filter_map-append}
use Rattle.std.proofs.lemmas.Option.{same_Some}
use Rattle.life_base.specs.Text.{is_empty, is_too_long, begins_with}
use Rattle.life_base.specs.Rules.{default_rule as layer_default}
use Rattle.life_base.specs.declared.kind.Kind.{Kind}
use Rattle.life_base.specs.declared.kind.Kind.TheVariants as kinds
use Rattle.life_base.specs.declared.rule.Rule.{Rule as LayerRule}
use Rattle.life_mc.specs.Macrocell.{Macrocell as LayerFile, level_of as line_level, AreSquares}
use Rattle.life_mc.specs.Cells.{cell_of, macrocell_cell as layer_cell}
use Rattle.life_mc.specs.Reading.{AreMacrocell, broken_rule, broken_after, rule_on, generation_on, square_on, rule_in_force, generation_in_force, squares_of, last_or}
use Rattle.life_mc.specs.declared.line.Line.{Line}
use Rattle.life_mc.proofs.Accepted.{lines_are_valid}
use Rattle.life_mc.proofs.Stands.{last_of}
use Rattle.claims.specs.Outcomes.{◌>>=◌}
use Rattle.claims.specs.Rules.{Rule}
use Rattle.claims.specs.Pattern.{Pattern}
use Rattle.claims.specs.Macrocell.{ClaimedMacrocell, first_line, with_macrocell_line, claimed_macrocell_cell}
use Rattle.claims.specs.Files.{claimed_fault_at, on_line, read_lines, macrocell_of}
use Rattle.claims.proofs.RuleLaw.{rule_in}
use Rattle.claims.proofs.NodeLaw.{line_in, Fits, passes, fails}
use Rattle.claims.proofs.McLaw.{Gives, line_fits, broken_line}
use Rattle.claims.proofs.McPlane.{plane_is}
use Rattle.claims.proofs.Running.{Runs, refused_behind, ended_behind, cut_at}

-- the lines say this in the layer
pub record Stands (lines : List (List ℕ)) (file : ClaimedMacrocell) : Type 0 where
  pub is_rule : file.rule ≡ rule_in (rule_in_force lines)
  pub is_generation : file.generation ≡ generation_in_force lines
  pub are_nodes : map line_in file.nodes ≡ squares_of lines

passed : {X : Type 0} {P : X → Type 0} (o : Option Kind) (r : Result X Kind) → o ≡ None → Fits P o r → (x : X) × (r ≡ Ok x) × P x
passed o r e (passes x p) = (x, refl, p)
passed o r e (fails kind) = cc

failed : {X : Type 0} {P : X → Type 0} (o : Option Kind) (r : Result X Kind) (kind : Kind) → o ≡ Some kind → Fits P o r → r ≡ Err kind
failed o r kind e (passes x p) = cc
failed o r kind e (fails other) = ap Err (same_Some other kind e)

option_on : {X Y : Type 0} (f : Y → Option X) (y : Y) (o : Option X) → f y ≡ o → filter_map f (y ∷ []) ≡ option_to_list o
option_on f y None e = rw e refl
option_on f y (Some z) e = rw e refl

last_more : {X : Type 0} (x : X) (xs : List X) (o : Option X) → last_or x (xs ++ option_to_list o) ≡ unwrap_or o (last_or x xs)
last_more {X} x xs None = ap (last_or x) (append-nil xs)
last_more x xs (Some z) = last_of x z xs

rule_more : (lines : List (List ℕ)) (line : List ℕ) → is_empty lines ≡ false
    → rule_in_force (lines ++ line ∷ []) ≡ unwrap_or (rule_on line) (rule_in_force lines)
rule_more [] line h = cc
rule_more (header ∷ lines) line h =
    ap (last_or layer_default) (filter_map-append rule_on lines (line ∷ [])
    ∙ ap (λ (t : List LayerRule). filter_map rule_on lines ++ t) (option_on rule_on line _ refl))
    ∙ last_more layer_default (filter_map rule_on lines) (rule_on line)

generation_more : (lines : List (List ℕ)) (line : List ℕ) → is_empty lines ≡ false
    → generation_in_force (lines ++ line ∷ []) ≡ unwrap_or (generation_on line) (generation_in_force lines)
generation_more [] line h = cc
generation_more (header ∷ lines) line h =
    ap (last_or 0) (filter_map-append generation_on lines (line ∷ [])
    ∙ ap (λ (t : List ℕ). filter_map generation_on lines ++ t) (option_on generation_on line _ refl))
    ∙ last_more 0 (filter_map generation_on lines) (generation_on line)

squares_more : (lines : List (List ℕ)) (line : List ℕ) → is_empty lines ≡ false
    → squares_of (lines ++ line ∷ []) ≡ squares_of lines ++ option_to_list (square_on line)
squares_more [] line h = cc
squares_more (header ∷ lines) line h =
    filter_map-append square_on lines (line ∷ []) ∙ ap (λ (t : List Line). filter_map square_on lines ++ t) (option_on square_on line _ refl)

-- ---- one line more

module _ (lines : List (List ℕ)) (file : ClaimedMacrocell) (line : List ℕ) (some : is_empty lines ≡ false) (s : Stands lines file) where
  abbrev rule : LayerRule
  rule = rule_in_force lines

  abbrev here : ClaimedMacrocell
  here = record { rule = rule_in rule; generation = file.generation; nodes = file.nodes }

  here_is : here ≡ file
  here_is = ap (λ (r : Rule). record { rule = r; generation = file.generation; nodes = file.nodes }) (sym s.is_rule)

  broken_is : broken_line rule file.generation file.nodes line ≡ broken_rule 62 lines line
  unfolding broken_rule
  broken_is =
      ap (λ (ls : List ℕ). cond (is_too_long line) (Some kinds.LineTooLong) (broken_after 62 rule ls line)) (ap (map line_level) s.are_nodes)
      ∙ ap (λ v. cond (is_too_long line) (Some kinds.LineTooLong)
      (cond v (cond (begins_with line (codes "[M2]")) None (Some kinds.NoHeader)) (broken_after 62 rule (map line_level (squares_of lines)) line)))
      (sym some)

  fits_file : Fits (Gives rule file.generation file.nodes line (rule_on line) (generation_on line) (square_on line)) (broken_rule 62 lines line)
      (with_macrocell_line file line)
  fits_file =
      let P : ClaimedMacrocell → Type 0 = Gives rule file.generation file.nodes line (rule_on line) (generation_on line) (square_on line) in
      subst (λ o. Fits P o (with_macrocell_line file line)) broken_is
      (subst (λ (f : ClaimedMacrocell). Fits P (broken_line rule file.generation file.nodes line) (with_macrocell_line f line)) here_is
      (line_fits rule file.generation file.nodes line))

  pub step_ok : broken_rule 62 lines line ≡ None → (next : ClaimedMacrocell) × (with_macrocell_line file line ≡ Ok next) × Stands (lines ++ line ∷ []) next
  step_ok e =
      let found = passed (broken_rule 62 lines line) (with_macrocell_line file line) e fits_file in
      let g = found.2 in (
        found.0,
        found.1,
        record {
          is_rule = g.is_rule ∙ ap rule_in (sym (rule_more lines line some));
          is_generation = g.is_generation ∙ ap (unwrap_or (generation_on line)) s.is_generation ∙ sym (generation_more lines line some);
          are_nodes = g.are_nodes ∙ ap (λ (t : List Line). t ++ option_to_list (square_on line)) s.are_nodes ∙ sym (squares_more lines line some);
        },
      )

  pub step_err : (kind : Kind) → broken_rule 62 lines line ≡ Some kind → with_macrocell_line file line ≡ Err kind
  step_err kind e = failed (broken_rule 62 lines line) (with_macrocell_line file line) kind e fits_file

-- ---- all lines

some_more : (before : List (List ℕ)) (line : List ℕ) → is_empty (before ++ line ∷ []) ≡ false
some_more [] line = refl
some_more (header ∷ before) line = refl

runs : (lines before : List (List ℕ)) (file : ClaimedMacrocell) → is_empty before ≡ false → Stands before file
    → ((k : ℕ) → k < length lines → broken_rule 62 (before ++ take k lines) (slice_index_or lines k []) ≡ None)
    → (next : ClaimedMacrocell) × Runs with_macrocell_line file lines next × Stands (before ++ lines) next
runs [] before file some s h = (file, refl, subst (λ (t : List (List ℕ)). Stands t file) (sym (append-nil before)) s)
runs (line ∷ lines) before file some s h =
    let b : broken_rule 62 before line ≡ None = ap (λ (t : List (List ℕ)). broken_rule 62 t line) (sym (append-nil before)) ∙ h 0 (omega arith) in
    let one = step_ok before file line some s b in
    let rest = runs lines (before ++ line ∷ []) one.0 (some_more before line) one.2
    (λ k l. ap (λ (t : List (List ℕ)). broken_rule 62 t (slice_index_or lines k [])) (append_assoc before (line ∷ []) (take k lines))
    ∙ h (suc k) (omega arith)) in
    (rest.0, (one.0, one.1, rest.1), subst (λ (t : List (List ℕ)). Stands t rest.0) (append_assoc before (line ∷ []) lines) rest.2)

-- ---- the file

abbrev begun : ClaimedMacrocell
begun = record { rule = rule_in layer_default; generation = 0; nodes = [] }

begun_stands : (header : List ℕ) → Stands (header ∷ []) begun
begun_stands header = record { is_rule = refl; is_generation = refl; are_nodes = refl }

first_is : (header : List ℕ) → broken_rule 62 [] header ≡ None → first_line header ≡ Ok begun
unfolding broken_rule
first_is header e = by (is_too_long header) (begins_with header (codes "[M2]")) e
  where
    by : (v w : Bool) → cond v (Some kinds.LineTooLong) (cond w None (Some kinds.NoHeader)) ≡ None
        → cond v (Err kinds.LineTooLong) (cond w (Ok begun) (Err kinds.NoHeader)) ≡ Ok begun
    by true w e = cc
    by false true e = refl
    by false false e = cc

first_err : (header : List ℕ) (kind : Kind) → broken_rule 62 [] header ≡ Some kind → first_line header ≡ Err kind
unfolding broken_rule
first_err header kind e = by (is_too_long header) (begins_with header (codes "[M2]")) e
  where
    by : (v w : Bool) → cond v (Some kinds.LineTooLong) (cond w None (Some kinds.NoHeader)) ≡ Some kind
        → cond v (Err kinds.LineTooLong) (cond w (Ok begun) (Err kinds.NoHeader)) ≡ Err kind
    by true w e = ap Err (same_Some kinds.LineTooLong kind e)
    by false true e = cc
    by false false e = ap Err (same_Some kinds.NoHeader kind e)

abbrev end_of : ClaimedMacrocell → Result Pattern Kind
end_of file = Ok (record { rule = file.rule; generation = file.generation; cell = claimed_macrocell_cell file.nodes })

first_read : (header : List ℕ) (rest : List (List ℕ)) → first_line header ≡ Ok begun → macrocell_of (header ∷ rest)
    ≡ read_lines with_macrocell_line end_of 2 begun rest
first_read header rest e = ap (λ (found : Result ClaimedMacrocell Kind). on_line 1 found >>= λ (b : ClaimedMacrocell). read_lines with_macrocell_line end_of 2 b
    rest) e

-- what a file says, in both
pub record Says (lines : List (List ℕ)) (file : LayerFile) (pattern : Pattern) : Type 0 where
  pub is : macrocell_of lines ≡ Ok pattern
  pub rule : pattern.rule ≡ rule_in file.rule
  pub generation : pattern.generation ≡ file.generation
  pub cells : (x y : ℤ) → pattern.cell x y ≡ layer_cell file x y

pub macrocell_says : (lines : List (List ℕ)) (file : LayerFile) → AreMacrocell 62 lines file → (pattern : Pattern) × Says lines file pattern
macrocell_says [] file are = absurd (let h : 0 < length {A = List ℕ} [] = are.header in omega (arith, h))
macrocell_says (header ∷ rest) file are =
    let r = runs rest (header ∷ []) begun refl (begun_stands header) (λ k l. are.unbroken (suc k) (omega arith)) in
    let next = r.0 in
    let s = r.2 in
    let nodes_are : map line_in next.nodes ≡ file.lines = s.are_nodes ∙ sym are.squares in
    let valid = lines_are_valid 62 (header ∷ rest) file are in (
      record { rule = next.rule; generation = next.generation; cell = claimed_macrocell_cell next.nodes },
      record {
        is = first_read header rest (first_is header (are.unbroken 0 (omega arith))) ∙ ended_behind with_macrocell_line end_of begun next rest 2 r.1;
        rule = s.is_rule ∙ ap rule_in (sym are.rule);
        generation = s.is_generation ∙ sym are.generation;
        cells = λ x y.
            plane_is file.rule next.nodes (subst (λ (t : List Line). AreSquares 62 file.rule t) (sym nodes_are) valid.squares) x y
            ∙ ap (λ (t : List Line). cell_of t x y) nodes_are;
      },
    )

-- the first line that breaks a rule is refused
pub macrocell_refuses : (lines : List (List ℕ)) (k : ℕ) (kind : Kind) → k < length lines
    → ((i : ℕ) → i < k → broken_rule 62 (take i lines) (slice_index_or lines i []) ≡ None)
    → broken_rule 62 (take k lines) (slice_index_or lines k []) ≡ Some kind → macrocell_of lines ≡ Err (claimed_fault_at (k + 1) kind)
macrocell_refuses [] k kind h u b = absurd (omega arith)
macrocell_refuses (header ∷ rest) zero kind h u b =
    ap (λ (found : Result ClaimedMacrocell Kind). on_line 1 found >>= λ (f : ClaimedMacrocell). read_lines with_macrocell_line end_of 2 f rest)
    (first_err header kind b)
macrocell_refuses (header ∷ rest) (suc k) kind h u b =
    let prefix = take k rest in
    let short : length prefix ≡ k = length-take-le k rest (omega arith) in
    let r = runs prefix (header ∷ []) begun refl (begun_stands header)
    (λ i l. let below : i < k = omega (arith, short) in
    ap (λ (t : List (List ℕ)). broken_rule 62 (header ∷ t) (slice_index_or prefix i [])) (take_take rest i k below)
    ∙ ap (λ (t : List ℕ). broken_rule 62 (header ∷ take i rest) t) (index_take rest i k below) ∙ u (suc i) (omega arith)) in
    first_read header rest (first_is header (u 0 (omega arith)))
    ∙ ap (read_lines with_macrocell_line end_of 2 begun) (cut_at rest k (omega arith))
    ∙ refused_behind with_macrocell_line end_of begun r.0 prefix (drop (suc k) rest) (slice_index_or rest k []) kind 2 r.1
    (step_err (header ∷ prefix) r.0 (slice_index_or rest k []) refl r.2 kind b)
    ∙ ap (λ n. Err (claimed_fault_at n kind)) (let e : 2 + length prefix ≡ suc k + 1 = omega (arith, short) in e)
  where
    take_take : (xs : List (List ℕ)) (i n : ℕ) → i < n → take i (take n xs) ≡ take i xs
    take_take xs zero n h = refl
    take_take xs (suc i) zero h = absurd (omega arith)
    take_take [] (suc i) (suc n) h = refl
    take_take (x ∷ xs) (suc i) (suc n) h = ap (λ (t : List (List ℕ)). x ∷ t) (take_take xs i n (omega arith))

    index_take : (xs : List (List ℕ)) (i n : ℕ) → i < n → slice_index_or (take n xs) i [] ≡ slice_index_or xs i []
    index_take xs i zero h = absurd (omega arith)
    index_take [] i (suc n) h = refl
    index_take (x ∷ xs) zero (suc n) h = refl
    index_take (x ∷ xs) (suc i) (suc n) h = index_take xs i n (omega arith)
