-- A transition is that of the layer.
use Rattle.std.proofs.Common.{◌≡◌, ℕ, zero, suc, ◌+◌, ◌-◌, ◌^◌, min, List, [], ◌∷◌, ◌++◌, map, length, take, Bool, true, false, cond, not, ◌&&◌, ◌||◌, refl, ap, ◌∙◌, sym, arith, inl, inr, length-append, length-take, eqb-true, eq-eqb, Option, Some, None, Result, Err, slice_get, slice_index_or, option_map, option_and_then, ◌==◌}
use Rattle.std.specs.List.{list_any, list_all}
use Rattle.std.specs.Option.{option_map_or, unwrap_or}
use Rattle.std.proofs.lemmas.List.{map-append}
use Rattle.std.proofs.lemmas.Bool.{cases_Bool}
use Rattle.std.proofs.Math.Bool.{or-false}
use Rattle.std.proofs.Math.Seq.{take-append_seam}
use Rattle.life_base.specs.declared.kind.Kind.{Kind}
use Rattle.life_base.specs.declared.kind.Kind.TheVariants as kinds
use Rattle.life_table.specs.Meaning.{has_state}
use Rattle.life_table.specs.Reader.{IsGood}
use Rattle.life_table.specs.Reading.{all_some, if_transition, transition_words, transition_from, transition_of, entry_of as layer_entry_of, entries_of as layer_entries_of, is_bound as layer_is_bound}
use Rattle.life_table.specs.Valid.{neighbour_count, is_quiet, is_quiet_output, allows_zero, fits_zero as layer_fits_zero}
use Rattle.life_table.specs.declared.table.Neighborhood.{Neighborhood}
use Rattle.life_table.specs.declared.table.Var.{Var}
use Rattle.life_table.specs.declared.table.Entry.{Entry as LayerEntry}
use Rattle.life_table.specs.declared.table.Entry.TheVariants as entries
use Rattle.life_table.specs.declared.table.Transition.{Transition as LayerTransition}
use Rattle.claims.specs.Table.{Entry, variable, Variable, Transition, Table, claimed_entry_of, claimed_entries_of, claimed_states_of, transition_texts, is_claimed_bound, claimed_fits_zero, leaves_zero, with_entries, with_transition}
use Rattle.claims.specs.Tables.{entry_in, transition_in, AreVariables}
use Rattle.claims.proofs.Tables.Named.{Parsed}
use Rattle.claims.proofs.Tables.Text.{table_in, goes, stops, FitsAfter, moved}
use Rattle.claims.proofs.Tables.Words.{all_more, all_of, entry_is, entries_are}
use Rattle.life_base.proofs.Basics.{slice_get-last, equal_swapped}

-- ---- tests of a transition

bound_is : (inputs : List LayerEntry) (output : LayerEntry) → is_claimed_bound (map entry_in inputs) (entry_in output) ≡ layer_is_bound inputs output
bound_is inputs (entries.Fixed s) = refl
bound_is inputs (entries.Var i) = by inputs
  where
    by : (es : List LayerEntry) → is_claimed_bound (map entry_in es) (variable i) ≡ layer_is_bound es (entries.Var i)
    by [] = refl
    by (entries.Fixed s ∷ es) = by es
    by (entries.Var j ∷ es) = ap (λ v. v || is_claimed_bound (map entry_in es) (variable i)) (equal_swapped j i) ∙ ap (λ v. i == j || v) (by es)

leaves_is : (output : LayerEntry) → leaves_zero (entry_in output) ≡ not (is_quiet_output output)
leaves_is (entries.Fixed s) = refl
leaves_is (entries.Var i) = refl

module _ (vars : List Var) (variables : List Variable) (same : AreVariables vars variables) where
  zero_is : (es : List LayerEntry) → list_all (λ (e : Entry). list_any (λ s. s == 0) (claimed_states_of variables e)) (map entry_in es)
      ≡ list_all (allows_zero vars) es
  zero_is [] = refl
  zero_is (entries.Fixed r ∷ es) =
      ap (λ v. v && list_all (λ (e : Entry). list_any (λ s. s == 0) (claimed_states_of variables e)) (map entry_in es)) (or-false (r == 0))
      ∙ ap (λ v. r == 0 && v) (zero_is es)
  zero_is (entries.Var i ∷ es) =
      ap (λ v. v && list_all (λ (e : Entry). list_any (λ s. s == 0) (claimed_states_of variables e)) (map entry_in es)) (same.states i 0)
      ∙ ap (λ v. option_map_or (λ (w : Var). has_state w 0) (slice_get vars i) false && v) (zero_is es)

  fits_is : (line : LayerTransition) → claimed_fits_zero variables (transition_in line) ≡ layer_fits_zero vars line
  fits_is line = zero_is line.inputs

  any_fits : (lines : List LayerTransition) → list_any (claimed_fits_zero variables) (map transition_in lines) ≡ list_any (layer_fits_zero vars) lines
  any_fits [] = refl
  any_fits (line ∷ lines) =
      ap (λ v. v || list_any (claimed_fits_zero variables) (map transition_in lines)) (fits_is line) ∙ ap (λ v. layer_fits_zero vars line || v) (any_fits lines)

quiet_more : (vars : List Var) (lines : List LayerTransition) (line : LayerTransition) → is_quiet vars lines ≡ true
    → is_quiet vars (lines ++ line ∷ [])
    ≡ cond (list_any (layer_fits_zero vars) lines) true (cond (layer_fits_zero vars line) (is_quiet_output line.output) true)
quiet_more vars [] line q = refl
quiet_more vars (l ∷ lines) line q = by (layer_fits_zero vars l) q (quiet_more vars lines line)
  where
    by : (v : Bool) → cond v (is_quiet_output l.output) (is_quiet vars lines) ≡ true
        → (is_quiet vars lines ≡ true
        → is_quiet vars (lines ++ line ∷ [])
        ≡ cond (list_any (layer_fits_zero vars) lines) true (cond (layer_fits_zero vars line) (is_quiet_output line.output) true))
        → cond v (is_quiet_output l.output) (is_quiet vars (lines ++ line ∷ []))
        ≡ cond (v || list_any (layer_fits_zero vars) lines) true (cond (layer_fits_zero vars line) (is_quiet_output line.output) true)
    by true q below = q
    by false q below = below q

quiet_test : (fit quiet any : Bool) → (fit && not quiet && not any) ≡ not (cond any true (cond fit quiet true))
quiet_test true true true = refl
quiet_test true true false = refl
quiet_test true false true = refl
quiet_test true false false = refl
quiet_test false quiet true = refl
quiet_test false quiet false = refl

-- ---- the prefix and the last of some words

abbrev joined : {X : Type 0} → Option (List X) → Option X → Option (List X)
joined None o = None
joined (Some xs) None = None
joined (Some xs) (Some x) = Some (xs ++ x ∷ [])

more_joined : {X : Type 0} (x : X) (os : Option (List X)) (o : Option X) → option_map (λ ys. x ∷ ys) (joined os o) ≡ joined (option_map (λ ys. x ∷ ys) os) o
more_joined x None o = refl
more_joined x (Some xs) None = refl
more_joined x (Some xs) (Some y) = refl

module _ {X : Type 0} (f : List ℕ → Option X) where
  prefix_and_last : (words : List (List ℕ)) (m : ℕ) → length words ≡ suc m
      → all_some (map f words) ≡ joined (all_some (map f (take m words))) (f (slice_index_or words m []))
  prefix_and_last [] m l = absurd (omega (arith, l))
  prefix_and_last (word ∷ []) zero l = one (f word)
    where
      one : (o : Option X) → all_some (o ∷ []) ≡ joined (Some []) o
      one None = refl
      one (Some x) = refl
  prefix_and_last (word ∷ other ∷ words) zero l = absurd (omega (arith, l))
  prefix_and_last (word ∷ words) (suc m) l = by (f word) (prefix_and_last words m (omega (arith, l)))
    where
      by : (o : Option X) → all_some (map f words) ≡ joined (all_some (map f (take m words))) (f (slice_index_or words m []))
          → all_some (o ∷ map f words) ≡ joined (all_some (o ∷ map f (take m words))) (f (slice_index_or words m []))
      by None e = refl
      by (Some x) e = ap (option_map (λ ys. x ∷ ys)) e ∙ more_joined x (all_some (map f (take m words))) (f (slice_index_or words m []))

  as_many : (words : List (List ℕ)) (xs : List X) → all_some (map f words) ≡ Some xs → length xs ≡ length words
  as_many [] xs e = ap length (let k : xs ≡ [] = cc in k)
  as_many (word ∷ words) xs e = by (f word) (all_some (map f words)) (as_many words) (all_of (f word) (map f words) ∙ e)
    where
      by : (o : Option X) (os : Option (List X)) → ((ys : List X) → os ≡ Some ys → length ys ≡ length words) → all_more o os ≡ Some xs
          → length xs ≡ suc (length words)
      by None os h e = cc
      by (Some x) None h e = cc
      by (Some x) (Some ys) h e = ap length (let k : xs ≡ x ∷ ys = cc in k) ∙ ap suc (h ys refl)

-- ---- the transition of some parts

no_parts : (k number : ℕ) (parts : List LayerEntry) → (length parts == k + 2) ≡ false → transition_from k number parts ≡ None
no_parts k number parts e =
    ap (λ v. cond v (option_map (λ (output : LayerEntry). record { line = number; inputs = take (k + 1) parts; output = output })
    (slice_get parts (k + 1))) None) e

all_parts : (k number : ℕ) (prefix : List LayerEntry) (last : LayerEntry) → length prefix ≡ k + 1
    → transition_from k number (prefix ++ last ∷ []) ≡ Some (record { line = number; inputs = prefix; output = last })
all_parts k number prefix last l =
    let long : (length (prefix ++ last ∷ []) == k + 2)
    ≡ true = eq-eqb (length (prefix ++ last ∷ [])) (k + 2) (omega (arith, l, length-append prefix (last ∷ []))) in
    ap (λ v. cond v (option_map (λ (output : LayerEntry). record { line = number; inputs = take (k + 1) (prefix ++ last ∷ []); output = output })
    (slice_get (prefix ++ last ∷ []) (k + 1))) None) long
    ∙ ap (λ m. option_map (λ (output : LayerEntry). record { line = number; inputs = take m (prefix ++ last ∷ []); output = output })
    (slice_get (prefix ++ last ∷ []) m)) (sym l)
    ∙ ap (option_map (λ (output : LayerEntry). record { line = number; inputs = take (length prefix) (prefix ++ last ∷ []); output = output }))
    (slice_get-last prefix last)
    ∙ ap (λ (es : List LayerEntry). Some (record { line = number; inputs = es; output = last })) (take-append_seam prefix (last ∷ []))

module _ (parsed : Parsed) (name : List ℕ) (variables : List Variable) (same : AreVariables parsed.vars variables) (good : IsGood parsed)
    (n : ℕ) (en : parsed.n_states ≡ Some n) (h : Neighborhood) (eh : parsed.neighborhood ≡ Some h) where
  abbrev table : Table
  table = table_in parsed name variables

  abbrev reported : ℕ → ℕ
  reported number = min number (2 ^ 64 - 1)

  entries_fit : (number : ℕ) (prefix : List LayerEntry) (last : LayerEntry)
      → FitsAfter parsed name (if_transition parsed.vars parsed.lines (Some (record { line = reported number; inputs = prefix; output = last })))
      (with_entries table number (map entry_in prefix) (entry_in last))
  entries_fit number prefix last =
      let line : LayerTransition = record { line = reported number; inputs = prefix; output = last } in
      let quiet_is : (claimed_fits_zero variables (transition_in line) && leaves_zero (entry_in last) && not
      (list_any (claimed_fits_zero variables) (map transition_in parsed.lines)))
      ≡ not (is_quiet parsed.vars (parsed.lines ++ line ∷ [])) =
      ap (λ v. v && leaves_zero (entry_in last) && not (list_any (claimed_fits_zero variables) (map transition_in parsed.lines)))
      (fits_is parsed.vars variables same line)
      ∙ ap (λ v. layer_fits_zero parsed.vars line && v && not (list_any (claimed_fits_zero variables) (map transition_in parsed.lines))) (leaves_is last)
      ∙ ap (λ v. layer_fits_zero parsed.vars line && not (is_quiet_output last) && not v) (any_fits parsed.vars variables same parsed.lines)
      ∙ quiet_test (layer_fits_zero parsed.vars line) (is_quiet_output last) (list_any (layer_fits_zero parsed.vars) parsed.lines)
      ∙ ap not (sym (quiet_more parsed.vars parsed.lines line good.quiet)) in
      elim (cases_Bool (layer_is_bound prefix last)) [
        | inl b ↦
            let c : is_claimed_bound (map entry_in prefix) (entry_in last) ≡ true = bound_is prefix last ∙ b in
            elim (cases_Bool (is_quiet parsed.vars (parsed.lines ++ line ∷ []))) [
              | inl q ↦
                  let p : (claimed_fits_zero variables (transition_in line) && leaves_zero (entry_in last) && not
                  (list_any (claimed_fits_zero variables) (map transition_in parsed.lines))) ≡ false = quiet_is ∙ ap not q in
                  rw (c, b, q, p) (goes _ _ variables refl refl same
                  (ap (λ (ts : List Transition). record table { transitions = ts }) (sym (map-append transition_in parsed.lines (line ∷ [])))))
              | inr q ↦
                  let p : (claimed_fits_zero variables (transition_in line) && leaves_zero (entry_in last) && not
                  (list_any (claimed_fits_zero variables) (map transition_in parsed.lines))) ≡ true = quiet_is ∙ ap not q in
                  rw (c, b, q, p) (stops kinds.NotQuiet)
            ]
        | inr b ↦
            let c : is_claimed_bound (map entry_in prefix) (entry_in last) ≡ false = bound_is prefix last ∙ b in
            rw (c, b) (stops kinds.UnboundOutput)
      ]

  abbrev of_entries : ℕ → Option (List Entry) → Option Entry → Result Table Kind
  of_entries number prefix last = elim prefix [
    | None ↦ Err kinds.BadTransition
    | Some es ↦ elim last [ None ↦ Err kinds.BadTransition | Some output ↦ with_entries table number es output ]
  ]

  parts_fit : (number : ℕ) (prefix : Option (List LayerEntry)) (last : Option LayerEntry)
      → ((es : List LayerEntry) → prefix ≡ Some es → length es ≡ neighbour_count h + 1)
      → FitsAfter parsed name
      (if_transition parsed.vars parsed.lines (option_and_then (transition_from (neighbour_count h) (reported number)) (joined prefix last)))
      (of_entries number (option_map (map entry_in) prefix) (option_map entry_in last))
  parts_fit number None last l = stops kinds.BadTransition
  parts_fit number (Some es) None l = stops kinds.BadTransition
  parts_fit number (Some es) (Some e) l =
      moved parsed name _ _ _ _ (ap (if_transition parsed.vars parsed.lines) (all_parts (neighbour_count h) (reported number) es e (l es refl))) refl
      (entries_fit number es e)

  abbrev of_texts : ℕ → List (List ℕ) → ℕ → Result Table Kind
  of_texts number texts inputs =
      cond (not (length texts == inputs + 1)) (Err kinds.BadTransition)
      (of_entries number (claimed_entries_of table (take inputs texts)) (claimed_entry_of table (slice_index_or texts inputs [])))

  wrong_count : (number : ℕ) (texts : List (List ℕ)) (os : Option (List LayerEntry))
      → ((es : List LayerEntry) → os ≡ Some es → (length es == neighbour_count h + 2) ≡ false)
      → option_and_then (transition_from (neighbour_count h) (reported number)) os ≡ None
  wrong_count number texts None l = refl
  wrong_count number texts (Some es) l = no_parts (neighbour_count h) (reported number) es (l es refl)

  texts_fit : (number : ℕ) (texts : List (List ℕ))
      → FitsAfter parsed name
      (if_transition parsed.vars parsed.lines
      (option_and_then (transition_from (neighbour_count h) (reported number)) (all_some (map (layer_entry_of n parsed.vars) texts))))
      (of_texts number texts (neighbour_count h + 1))
  texts_fit number texts =
      let k = neighbour_count h in
      let f = layer_entry_of n parsed.vars in
      elim (cases_Bool (length texts == k + 1 + 1)) [
        | inl e ↦
            let count : length texts ≡ suc (k + 1) = (let s : length texts ≡ k + 1 + 1 = eqb-true (length texts) (k + 1 + 1) e in omega (arith, s)) in
            moved parsed name _ _ _ _
            (ap (λ (o : Option (List LayerEntry)). if_transition parsed.vars parsed.lines (option_and_then (transition_from k (reported number)) o))
            (prefix_and_last f texts (k + 1) count))
            (ap (λ v. cond (not v) (Err kinds.BadTransition)
            (of_entries number (claimed_entries_of table (take (k + 1) texts)) (claimed_entry_of table (slice_index_or texts (k + 1) [])))) e
            ∙ ap (λ (o : Option (List Entry)). of_entries number o (claimed_entry_of table (slice_index_or texts (k + 1) [])))
            (entries_are parsed.vars variables same table n en refl (take (k + 1) texts))
            ∙ ap (λ (o : Option Entry). of_entries number (option_map (map entry_in) (all_some (map f (take (k + 1) texts)))) o)
            (entry_is parsed.vars variables same table n en refl (slice_index_or texts (k + 1) [])))
            (parts_fit number (all_some (map f (take (k + 1) texts))) (f (slice_index_or texts (k + 1) []))
            (λ es s. as_many f (take (k + 1) texts) es s ∙ length-take (k + 1) texts
            ∙ (let c : min (k + 1) (length texts) ≡ k + 1 = omega (arith, count) in c)))
        | inr e ↦
            let off : (length texts == k + 2) ≡ false = ap (λ m. length texts == m) (let s : k + 2 ≡ k + 1 + 1 = omega arith in s) ∙ e in
            moved parsed name _ (Err kinds.BadTransition) _ (Err kinds.BadTransition)
            (ap (if_transition parsed.vars parsed.lines)
            (wrong_count number texts (all_some (map f texts)) (λ es s. ap (λ m. m == k + 2) (as_many f texts es s) ∙ off)))
            (ap (λ v. cond (not v) (Err kinds.BadTransition)
            (of_entries number (claimed_entries_of table (take (k + 1) texts)) (claimed_entry_of table (slice_index_or texts (k + 1) [])))) e)
            (stops kinds.BadTransition)
      ]

  pub transition_fits : (number : ℕ) (text : List ℕ)
      → FitsAfter parsed name (if_transition parsed.vars parsed.lines (transition_of n (neighbour_count h) parsed.vars (reported number) text))
      (with_transition table number text)
  unfolding transition_of layer_entries_of
  transition_fits number text =
      moved parsed name _ _ _ _ refl
      (ap (λ (o : Option Neighborhood). of_texts number (transition_texts text) (unwrap_or (option_map neighbour_count o) 0 + 1)) eh)
      (texts_fit number (transition_words text))
