-- Under `permute` a line gives what it gives by counts.
use Rattle.std.proofs.Common.{◌≡◌, ℕ, zero, suc, ◌<◌, List, [], ◌∷◌, length, map, take, drop, true, ◌||◌, refl, ap, ◌∙◌, sym, subst, inl, inr, ◌↔◌, eq-eqb, Option, Contains, count_by, codes, ◌==◌}
use Rattle.std.specs.List.{list_any}
use Rattle.std.specs.Option.{unwrap_or}
use Rattle.std.proofs.lemmas.Bool.Decides.{eqb_tells}
use Rattle.std.proofs.lemmas.List.Elements.{All-contains}
use Rattle.std.proofs.lemmas.Bool.{or_left, or_right}
use Rattle.std.proofs.lemmas.Option.{same_Some}
use Rattle.life_table.proofs.LawProofs.{permute_law}
use Rattle.life_base.proofs.Members.{in_head, in_tail, in_cases, in_none, from_map}
use Rattle.life_table.specs.Grammar.{symmetry_word}
use Rattle.life_table.specs.Meaning.{Gives, count_of, GivesByCounts as LayerByCounts, state_of as layer_state_of}
use Rattle.life_table.specs.Reading.{symmetry_named}
use Rattle.life_table.specs.Valid.{neighbour_count, IsTransition}
use Rattle.life_table.specs.declared.table.Symmetry.{Symmetry}
use Rattle.life_table.specs.declared.table.Symmetry.TheVariants.{Permute}
use Rattle.life_table.specs.declared.table.Entry.{Entry as LayerEntry}
use Rattle.life_table.specs.declared.table.Entry.TheVariants as entries
use Rattle.life_table.specs.declared.table.Transition.{Transition as LayerTransition}
use Rattle.life_table.specs.declared.table.Table.{Table as LayerTable}
use Rattle.claims.specs.Table.{variable, Transition, Table, claimed_states_of, claimed_states_given}
use Rattle.claims.specs.ByCounts.{state_for, GivesByClaimedCounts, PermuteByClaimedCounts}
use Rattle.claims.specs.Tables.{entry_in, transition_in, IsTable}
use Rattle.claims.proofs.Tables.Decided.{gave, gets}
use Rattle.claims.proofs.Tables.Given.{has_state_of, is_state_of}
use Rattle.claims.proofs.Tables.Read.{tables_read}
use Rattle.claims.proofs.Tables.Text.{word_listed}
use Rattle.claims.proofs.Tables.Words.{length_is}
use Rattle.life_base.proofs.Basics.{equal_swapped}

-- ---- lists

any_in : (s : ℕ) (xs : List ℕ) → Contains xs s → list_any (λ t. t == s) xs ≡ true
any_in s [] c = absurd (in_none s c)
any_in s (x ∷ xs) c = elim (in_cases x xs s c) [
  | inl e ↦ or_left (x == s) _ (eq-eqb x s e)
  | inr d ↦ or_right (x == s) _ (any_in s xs d)
]

in_any : (s : ℕ) (xs : List ℕ) → list_any (λ t. t == s) xs ≡ true → Contains xs s
in_any s [] h = cc
in_any s (x ∷ xs) h = elim (eqb_tells x s) [
  | inl e ↦ subst (Contains (x ∷ xs)) e.1 (in_head x xs)
  | inr n ↦ in_tail x xs s (in_any s xs (ap (λ v. v || list_any (λ t. t == s) xs) (sym n.0) ∙ h))
]

-- ---- choices, entries and counts

entry_state : (value : ℕ → ℕ) (entry : LayerEntry) → state_for value (entry_in entry) ≡ layer_state_of value entry
entry_state value (entries.Fixed s) = refl
entry_state value (entries.Var i) = refl

entry_states : (value : ℕ → ℕ) (es : List LayerEntry) → map (state_for value) (map entry_in es) ≡ map (layer_state_of value) es
entry_states value [] = refl
entry_states value (e ∷ es) =
    ap (λ n. n ∷ map (state_for value) (map entry_in es)) (entry_state value e) ∙ ap (λ (t : List ℕ). layer_state_of value e ∷ t) (entry_states value es)

take_map : (n : ℕ) (es : List LayerEntry) → take n (map entry_in es) ≡ map entry_in (take n es)
take_map zero es = refl
take_map (suc n) [] = refl
take_map (suc n) (e ∷ es) = ap (λ t. entry_in e ∷ t) (take_map n es)

drop_map : (n : ℕ) (es : List LayerEntry) → drop n (map entry_in es) ≡ map entry_in (drop n es)
drop_map zero es = refl
drop_map (suc n) [] = refl
drop_map (suc n) (e ∷ es) = drop_map n es

count_is : (t : ℕ) (xs : List ℕ) → count_by (λ s. s == t) xs ≡ count_of t xs
count_is t xs = λ i. count_by (λ s. equal_swapped s t i) xs

permutes : (y : Symmetry) → symmetry_word y ≡ codes "permute" → y ≡ Permute
permutes y e = same_Some y Permute (sym (word_listed y).1 ∙ ap symmetry_named e)

module _ (layer : LayerTable) (table : Table) (is : IsTable layer table) (y : layer.symmetry ≡ Permute) (centre : ℕ) (around : List ℕ)
    (long : length around ≡ neighbour_count layer.neighborhood) (line : LayerTransition) (there : Contains layer.lines line) (state : ℕ) where
  is_line : IsTransition layer.n_states (neighbour_count layer.neighborhood) layer.vars line
  is_line = All-contains (IsTransition layer.n_states (neighbour_count layer.neighborhood) layer.vars) layer.lines line layer.sound.transitions there

  to_counts : Contains (claimed_states_given table centre around (transition_in line)) state
      → GivesByClaimedCounts table.variables (transition_in line) centre around state
  to_counts c =
      let one : Gives layer.symmetry layer.vars line centre around state = gave layer table is centre around long line is_line state c in
      let g = (permute_law layer.vars line centre around state).0 (subst (λ (s : Symmetry). Gives s layer.vars line centre around state) y one) in
      record {
        value = g.choice;
        is_value = λ n l. in_any (g.choice n) (claimed_states_of table.variables (variable n))
            (is_state_of layer.vars table.variables is.variables n (g.choice n) (below n l) (g.is_choice n (below n l)));
        first = ap (map (state_for g.choice)) (take_map 1 line.inputs) ∙ entry_states g.choice (take 1 line.inputs) ∙ g.first;
        counts = λ t.
            count_is t (map (state_for g.choice) (drop 1 (map entry_in line.inputs)))
            ∙ ap (count_of t) (ap (map (state_for g.choice)) (drop_map 1 line.inputs) ∙ entry_states g.choice (drop 1 line.inputs))
            ∙ g.counts t ∙ sym (count_is t around);
        output = entry_state g.choice line.output ∙ g.output;
      }
    where
      below : (n : ℕ) → n < length table.variables → n < length layer.vars
      below n l = subst (λ m. n < m) (length_is layer.vars table.variables is.variables) l

  from_counts : GivesByClaimedCounts table.variables (transition_in line) centre around state
      → Contains (claimed_states_given table centre around (transition_in line)) state
  from_counts g =
      let counted : LayerByCounts layer.vars line centre around state = record {
        choice = g.value;
        is_choice = λ n l. has_state_of layer.vars table.variables is.variables n (g.value n)
            (any_in (g.value n) (claimed_states_of table.variables (variable n)) (g.is_value n (above n l)));
        first = sym (ap (map (state_for g.value)) (take_map 1 line.inputs) ∙ entry_states g.value (take 1 line.inputs)) ∙ g.first;
        counts = λ t.
            sym (count_is t (map (state_for g.value) (drop 1 (map entry_in line.inputs)))
            ∙ ap (count_of t) (ap (map (state_for g.value)) (drop_map 1 line.inputs) ∙ entry_states g.value (drop 1 line.inputs)))
            ∙ g.counts t ∙ count_is t around;
        output = sym (entry_state g.value line.output) ∙ g.output;
      } in
      gets layer table is centre around long line is_line state
      (subst (λ (s : Symmetry). Gives s layer.vars line centre around state) (sym y) ((permute_law layer.vars line centre around state).1 counted))
    where
      above : (n : ℕ) → n < length layer.vars → n < length table.variables
      above n l = subst (λ m. n < m) (sym (length_is layer.vars table.variables is.variables)) l

pub permute_by_counts : PermuteByClaimedCounts
permute_by_counts bytes table e permute line there centre around long state =
    let r = (tables_read bytes).1 table e in
    let layer = r.0 in
    let is = r.2 in
    let y : layer.symmetry ≡ Permute = permutes layer.symmetry (same_Some _ _ (sym is.symmetry ∙ permute)) in
    let l = from_map transition_in layer.lines line (subst (λ (ts : List Transition). Contains ts line) is.transitions there) in
    let count : length around ≡ neighbour_count layer.neighborhood = long ∙ ap (λ (o : Option ℕ). unwrap_or o 0) is.neighbours in
    let P : Transition → Type 0 = λ (t : Transition). Contains (claimed_states_given table centre around t) state
    ↔ GivesByClaimedCounts table.variables t centre around state in
    subst P l.2
    (to_counts layer table is y centre around count l.0 l.1 state, from_counts layer table is y centre around count l.0 l.1 state)
