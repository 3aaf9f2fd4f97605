-- The words of a line are the entries that they are in the layer.
use Rattle.std.proofs.Common.{◌≡◌, ℕ, suc, ◌+◌, List, [], ◌∷◌, map, length, Bool, true, false, cond, not, ◌&&◌, ◌||◌, refl, ap, ◌∙◌, sym, arith, Option, Some, None, is_some, bytes_eq, nat_lt, option_map}
use Rattle.std.specs.List.{list_any, position, position_or_len}
use Rattle.std.specs.Option.{unwrap_or}
use Rattle.std.proofs.lemmas.Bool.Decides.{nat_tests}
use Rattle.std.proofs.lemmas.List.{length-map}
use Rattle.life_base.specs.Text.{is_digit_text, value_of}
use Rattle.life_table.specs.Reading.{all_some, variable_named, entry_of as layer_entry_of}
use Rattle.life_table.specs.declared.table.Var.{Var}
use Rattle.life_table.specs.declared.table.Entry.{Entry as LayerEntry}
use Rattle.life_table.specs.declared.table.Entry.TheVariants as entries
use Rattle.claims.specs.Table.{Entry, fixed, variable, Variable, Table, claimed_entry_of, claimed_entries_of}
use Rattle.claims.specs.Tables.{entry_in, AreVariables}

-- ---- options

abbrev pub all_more : {X : Type 0} → Option X → Option (List X) → Option (List X)
all_more None xs = None
all_more (Some x) xs = option_map (λ ys. x ∷ ys) xs

pub all_of : {X : Type 0} (o : Option X) (os : List (Option X)) → all_more o (all_some os) ≡ all_some (o ∷ os)
all_of None os = refl
all_of (Some x) os = refl

-- ---- names

abbrev has_name : List ℕ → List ℕ → Bool
has_name word name = bytes_eq name word

length_to_first : {X : Type 0} (f : X → List ℕ) (p : List ℕ → Bool) (xs : List X) → position_or_len (λ x. p (f x)) xs ≡ position_or_len p (map f xs)
length_to_first f p [] = refl
length_to_first f p (x ∷ xs) = ap (λ n. cond (not (p (f x))) (1 + n) 0) (length_to_first f p xs)

position_is : {X : Type 0} (f : X → List ℕ) (p : List ℕ → Bool) (xs : List X) → position (λ x. p (f x)) xs ≡ position p (map f xs)
position_is f p xs =
    ap (λ n. cond (nat_lt n (length xs)) (Some n) None) (length_to_first f p xs)
    ∙ ap (λ m. cond (nat_lt (position_or_len p (map f xs)) m) (Some (position_or_len p (map f xs))) None) (sym (length-map xs f))

any_map : {X : Type 0} (f : X → List ℕ) (p : List ℕ → Bool) (xs : List X) → list_any (λ x. p (f x)) xs ≡ list_any p (map f xs)
any_map f p [] = refl
any_map f p (x ∷ xs) = ap (λ v. p (f x) || v) (any_map f p xs)

found_within : (p : List ℕ → Bool) (xs : List (List ℕ)) → nat_lt (position_or_len p xs) (length xs) ≡ list_any p xs
found_within p [] = refl
found_within p (x ∷ xs) = by (p x) (found_within p xs)
  where
    positive : (n : ℕ) → nat_lt 0 (suc n) ≡ true
    positive n = grind (arith, nat_tests)

    one_more : (a b : ℕ) → nat_lt (1 + a) (suc b) ≡ nat_lt a b
    one_more a b = grind (arith, nat_tests)

    by : (v : Bool) → nat_lt (position_or_len p xs) (length xs) ≡ list_any p xs
        → nat_lt (cond (not v) (1 + position_or_len p xs) 0) (suc (length xs)) ≡ (v || list_any p xs)
    by true e = positive (length xs)
    by false e = one_more (position_or_len p xs) (length xs) ∙ e

some_where : (v : Bool) (n : ℕ) → is_some (cond v (Some n) None) ≡ v
some_where true n = refl
some_where false n = refl

module _ (vars : List Var) (variables : List Variable) (same : AreVariables vars variables) where
  pub place_is : (word : List ℕ) → position (λ (v : Variable). bytes_eq v.name word) variables ≡ variable_named vars word
  place_is word =
      position_is (λ (v : Variable). v.name) (has_name word) variables ∙ ap (position (has_name word)) same.names
      ∙ sym (position_is (λ (v : Var). v.name) (has_name word) vars)

  pub is_there : (word : List ℕ) → list_any (λ (v : Variable). bytes_eq v.name word) variables ≡ is_some (variable_named vars word)
  is_there word =
      any_map (λ (v : Variable). v.name) (has_name word) variables ∙ ap (list_any (has_name word)) same.names
      ∙ sym (found_within (has_name word) (map (λ (v : Var). v.name) vars))
      ∙ sym (some_where _ (position_or_len (has_name word) (map (λ (v : Var). v.name) vars)))
      ∙ ap is_some (sym (position_is (λ (v : Var). v.name) (has_name word) vars))

  pub length_is : length variables ≡ length vars
  length_is = sym (length-map variables (λ (v : Variable). v.name)) ∙ ap length same.names ∙ length-map vars (λ (v : Var). v.name)

  -- ---- entries

  module _ (table : Table) (n : ℕ) (of_states : table.n_states ≡ Some n) (of_variables : table.variables ≡ variables) where
    below_is : (v m : ℕ) → (cond (nat_lt v m) (Some (fixed v)) None) ≡ option_map entry_in (option_map entries.Fixed (cond (nat_lt v m) (Some v) None))
    below_is v m = by (nat_lt v m)
      where
        by : (b : Bool) → (cond b (Some (fixed v)) None) ≡ option_map entry_in (option_map entries.Fixed (cond b (Some v) None))
        by true = refl
        by false = refl

    of_place : (o : Option ℕ) → elim o [ None ↦ None | Some number ↦ Some (variable number) ] ≡ option_map entry_in (option_map entries.Var o)
    of_place None = refl
    of_place (Some i) = refl

    pub entry_is : (word : List ℕ) → claimed_entry_of table word ≡ option_map entry_in (layer_entry_of n vars word)
    unfolding layer_entry_of
    entry_is word = by (is_digit_text word) _ _ (option_map entries.Var (variable_named vars word))
        (ap (λ (o : Option ℕ). cond (nat_lt (value_of word) (unwrap_or o 0)) (Some (fixed (value_of word))) None) of_states ∙ below_is (value_of word) n)
        (ap (λ (o : Option ℕ). elim o [ None ↦ None | Some number ↦ Some (variable number) ])
        (ap (position (λ (v : Variable). bytes_eq v.name word)) of_variables ∙ place_is word) ∙ of_place (variable_named vars word))
      where
        by : (digits : Bool) (a b : Option Entry) (d : Option LayerEntry)
            → a ≡ option_map entry_in (option_map entries.Fixed (cond (nat_lt (value_of word) n) (Some (value_of word)) None)) → b ≡ option_map entry_in d
            → cond digits a b ≡ option_map entry_in
            (cond digits (option_map entries.Fixed (cond (digits && nat_lt (value_of word) n) (Some (value_of word)) None)) d)
        by true a b d e f = e
        by false a b d e f = f

    more : (o : Option LayerEntry) (os : Option (List LayerEntry))
        → elim (option_map entry_in o) [
          | None ↦ None
          | Some entry ↦ elim (option_map (map entry_in) os) [ None ↦ None | Some entries ↦ Some (entry ∷ entries) ]
        ] ≡ option_map (map entry_in) (all_more o os)
    more None os = refl
    more (Some e) None = refl
    more (Some e) (Some es) = refl

    pub entries_are : (words : List (List ℕ)) → claimed_entries_of table words ≡ option_map (map entry_in) (all_some (map (layer_entry_of n vars) words))
    entries_are [] = refl
    entries_are (word ∷ words) =
        ap (λ (o : Option Entry). elim o [
          | None ↦ None
          | Some entry ↦ elim (claimed_entries_of table words) [ None ↦ None | Some entries ↦ Some (entry ∷ entries) ]
        ]) (entry_is word)
        ∙ ap (λ (os : Option (List Entry)). elim (option_map entry_in (layer_entry_of n vars word)) [
          | None ↦ None
          | Some entry ↦ elim os [ None ↦ None | Some entries ↦ Some (entry ∷ entries) ]
        ]) (entries_are words)
        ∙ more (layer_entry_of n vars word) (all_some (map (layer_entry_of n vars) words))
        ∙ ap (option_map (map entry_in)) (all_of (layer_entry_of n vars word) (map (layer_entry_of n vars) words))
