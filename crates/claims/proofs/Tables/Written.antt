-- A variable and a transition are those of the layer.
use Rattle.std.proofs.Common.{◌≡◌, ℕ, zero, suc, ◌≤◌, List, [], ◌∷◌, ◌++◌, map, length, drop, Bool, true, false, cond, not, ◌&&◌, ◌||◌, refl, ap, ◌∙◌, sym, subst, arith, Option, Some, None, Ok, Err, All, is_some, slice_get, bytes_eq, codes, option_map, option_and_then, flat_map, ◌==◌}
use Rattle.std.specs.List.{list_any, list_all}
use Rattle.std.specs.Char.{is_ascii_digit, is_ascii_graphic}
use Rattle.std.specs.Option.{option_map_or}
use Rattle.std.proofs.lemmas.Bool.Decides.{nat_tests}
use Rattle.std.proofs.lemmas.List.{map-append}
use Rattle.std.proofs.lemmas.List.Elements.{All-nil, All-cons}
use Rattle.std.proofs.Math.Bool.{or-false}
use Rattle.life_base.specs.declared.kind.Kind.TheVariants as kinds
use Rattle.life_table.specs.Meaning.{has_state}
use Rattle.life_table.specs.Reader.{IsGood}
use Rattle.life_table.specs.Reading.{all_some, if_variable, is_variable_name, is_name_byte, is_list, within_braces, variable_name, list_text, states_listed, variable_named, variable_states, variable_of, states_of_entry, union_of, between_commas, entry_of as layer_entry_of}
use Rattle.life_table.specs.Valid.{IsEntry, IsVariable}
use Rattle.life_table.specs.declared.table.Var.{Var}
use Rattle.life_table.specs.declared.table.Entry.{Entry as LayerEntry}
use Rattle.life_table.proofs.Values.{is_entry}
use Rattle.claims.specs.Rules.{has}
use Rattle.claims.specs.Table.{Entry, Variable, Table, claimed_entries_of, claimed_states_of, is_name, with_variable}
use Rattle.claims.specs.Tables.{entry_in, AreVariables}
use Rattle.claims.proofs.Tables.Named.{Parsed}
use Rattle.claims.proofs.Tables.Sets.{differs, set_of, set_is, states_are}
use Rattle.claims.proofs.Tables.Text.{table_in, goes, stops, FitsAfter, moved}
use Rattle.claims.proofs.Tables.Words.{all_more, all_of, is_there, length_is, entries_are}
use Rattle.life_base.proofs.Basics.{equal_swapped}

-- ---- names

any_turned : (b : ℕ) (xs : List ℕ) → list_any (λ c. c == b) xs ≡ list_any (λ c. b == c) xs
any_turned b [] = refl
any_turned b (x ∷ xs) = ap (λ v. v || list_any (λ c. c == b) xs) (equal_swapped x b) ∙ ap (λ v. b == x || v) (any_turned b xs)

name_bytes : (word : List ℕ) → list_all (λ b. is_ascii_graphic b && not (has (codes ",={}:#@") b)) word ≡ list_all is_name_byte word
name_bytes [] = refl
name_bytes (b ∷ word) =
    ap (λ v. (is_ascii_graphic b && not v) && list_all (λ c. is_ascii_graphic c && not (has (codes ",={}:#@") c)) word) (any_turned b (codes ",={}:#@"))
    ∙ ap (λ v. is_name_byte b && v) (name_bytes word)

pub name_is : (word : List ℕ) → is_name word ≡ is_variable_name word
name_is [] = refl
name_is (b ∷ word) =
    ap (λ v. v && not (is_ascii_digit b)) (name_bytes (b ∷ word))
    ∙ ap (λ v. list_all is_name_byte (b ∷ word) && not v) (sym (or-false (is_ascii_digit b)))

-- ---- one variable more

get_more : {X : Type 0} (xs : List X) (x : X) (i : ℕ) → slice_get (xs ++ x ∷ []) i ≡ cond (i == length xs) (Some x) (slice_get xs i)
get_more [] x zero = refl
get_more [] x (suc i) = ap (λ v. cond v (Some x) None) (sym (differs (suc i) 0 (λ e. absurd (omega (arith, e)))))
get_more (y ∷ xs) x zero = ap (λ v. cond v (Some x) (Some y)) (sym (differs 0 (suc (length xs)) (λ e. absurd (omega (arith, e)))))
get_more (y ∷ xs) x (suc i) = get_more xs x i ∙ ap (λ v. cond v (Some x) (slice_get xs i)) (one_less i (length xs))
  where
    one_less : (a b : ℕ) → (a == b) ≡ (suc a == suc b)
    one_less a b = grind (arith, nat_tests)

more_variables : (vars : List Var) (variables : List Variable) → AreVariables vars variables → (var : Var) (v : Variable) → v.name ≡ var.name
    → ((s : ℕ) → list_any (λ t. t == s) v.states ≡ has_state var s) → AreVariables (vars ++ var ∷ []) (variables ++ v ∷ [])
more_variables vars variables same var v e h = record {
  names = map-append (λ (w : Variable). w.name) variables (v ∷ []) ∙ ap (λ (t : List (List ℕ)). t ++ v.name ∷ []) same.names
      ∙ ap (λ (n : List ℕ). map (λ (w : Var). w.name) vars ++ n ∷ []) e ∙ sym (map-append (λ (w : Var). w.name) vars (var ∷ []));
  states = λ i s.
      ap (λ (o : Option Variable). list_any (λ t. t == s) (elim o [ None ↦ [] | Some w ↦ w.states ])) (get_more variables v i
      ∙ ap (λ n. cond (i == n) (Some v) (slice_get variables i)) (length_is vars variables same))
      ∙ by i s (i == length vars)
      ∙ ap (λ (o : Option Var). option_map_or (λ (w : Var). has_state w s) o false) (sym (get_more vars var i));
}
  where
    by : (i s : ℕ) (b : Bool) → list_any (λ t. t == s) (elim (cond b (Some v) (slice_get variables i)) [ None ↦ [] | Some w ↦ w.states ])
        ≡ option_map_or (λ (w : Var). has_state w s) (cond b (Some var) (slice_get vars i)) false
    by i s true = h s
    by i s false = same.states i s

-- ---- the sets of a list

module _ (n : ℕ) (vars : List Var) (variables : List Variable) (same : AreVariables vars variables) (most : n ≤ 256) (all : All (IsVariable n) vars) where
  sets_are : (words : List (List ℕ)) → all_some (map (λ word. option_and_then (states_of_entry vars) (layer_entry_of n vars word)) words)
      ≡ option_map (map (set_of vars)) (all_some (map (layer_entry_of n vars) words))
  sets_are [] = refl
  sets_are (word ∷ words) = by (layer_entry_of n vars word) (λ e h. set_is n vars variables same most all e (is_entry n vars word e h)) (sets_are words)
    where
      both_more : (e : LayerEntry) (os : Option (List LayerEntry))
          → option_map (λ t. set_of vars e ∷ t) (option_map (map (set_of vars)) os) ≡ option_map (map (set_of vars)) (option_map (λ t. e ∷ t) os)
      both_more e None = refl
      both_more e (Some es) = refl

      by : (o : Option LayerEntry) → ((e : LayerEntry) → o ≡ Some e → states_of_entry vars e ≡ Some (set_of vars e))
          → all_some (map (λ w. option_and_then (states_of_entry vars) (layer_entry_of n vars w)) words)
          ≡ option_map (map (set_of vars)) (all_some (map (layer_entry_of n vars) words))
          → all_some (option_and_then (states_of_entry vars) o ∷ map (λ w. option_and_then (states_of_entry vars) (layer_entry_of n vars w)) words)
          ≡ option_map (map (set_of vars)) (all_some (o ∷ map (layer_entry_of n vars) words))
      by None h below = refl
      by (Some e) h below =
          ap (λ (o : Option (List ℕ)). all_some (o ∷ map (λ w. option_and_then (states_of_entry vars) (layer_entry_of n vars w)) words)) (h e refl)
          ∙ ap (option_map (λ t. set_of vars e ∷ t)) below ∙ both_more e (all_some (map (layer_entry_of n vars) words))

  there_all : (words : List (List ℕ)) (es : List LayerEntry) → all_some (map (layer_entry_of n vars) words) ≡ Some es → All (IsEntry n vars) es
  there_all [] es e = subst (All (IsEntry n vars)) (let k : [] ≡ es = cc in k) (All-nil (IsEntry n vars))
  there_all (word ∷ words) es e =
      by (layer_entry_of n vars word) (all_some (map (layer_entry_of n vars) words)) (is_entry n vars word) (there_all words)
      (all_of _ (map (layer_entry_of n vars) words) ∙ e)
    where
      by : (o : Option LayerEntry) (os : Option (List LayerEntry)) → ((e : LayerEntry) → o ≡ Some e → IsEntry n vars e)
          → ((es : List LayerEntry) → os ≡ Some es → All (IsEntry n vars) es) → all_more o os ≡ Some es → All (IsEntry n vars) es
      by None os h k e = cc
      by (Some x) None h k e = cc
      by (Some x) (Some xs) h k e = subst (All (IsEntry n vars)) (let l : x ∷ xs ≡ es = cc in l) (All-cons (IsEntry n vars) x xs (h x refl) (k xs refl))

-- ---- a variable

module _ (parsed : Parsed) (name : List ℕ) (variables : List Variable) (same : AreVariables parsed.vars variables) (good : IsGood parsed) (n : ℕ)
    (en : parsed.n_states ≡ Some n) where
  abbrev table : Table
  table = table_in parsed name variables

  abbrev most : n ≤ 256
  most = (good.states n en).1

  abbrev new_var : List ℕ → List LayerEntry → Var
  new_var word es = record { name = word; states = union_of (map (set_of parsed.vars) es) }

  abbrev new_variable : List ℕ → List LayerEntry → Variable
  new_variable word es = record { name = word; states = flat_map (claimed_states_of variables) (map entry_in es) }

  one_more : (word : List ℕ) (es : List LayerEntry) → All (IsEntry n parsed.vars) es
      → AreVariables (parsed.vars ++ new_var word es ∷ []) (variables ++ new_variable word es ∷ [])
  one_more word es h = more_variables parsed.vars variables same (new_var word es) (new_variable word es) refl
      (states_are n parsed.vars variables same (good.states n en).1 (good.variables n en) es h)

  by_tests : (word : List ℕ) (named there listed : Bool) (os : Option (List LayerEntry))
      → ((es : List LayerEntry) → os ≡ Some es → All (IsEntry n parsed.vars) es)
      → FitsAfter parsed name
      (if_variable (option_map (λ states. record { name = word; states = states })
      (cond named (cond there None (cond listed (option_map union_of (option_map (map (set_of parsed.vars)) os)) None)) None)))
      (cond (named && not there && listed) (elim (option_map (map entry_in) os) [
        | None ↦ Err kinds.BadVariable
        | Some es ↦ Ok (record table { variables = variables ++ record { name = word; states = flat_map (claimed_states_of variables) es } ∷ [] })
      ]) (Err kinds.BadVariable))
  by_tests word true false true (Some es) h = goes _ _ (variables ++ new_variable word es ∷ []) refl refl (one_more word es (h es refl)) refl
  by_tests word true false true None h = stops kinds.BadVariable
  by_tests word true false false os h = stops kinds.BadVariable
  by_tests word true true listed os h = stops kinds.BadVariable
  by_tests word false there listed os h = stops kinds.BadVariable

  pub variable_fits : (text : List ℕ) → FitsAfter parsed name (if_variable (variable_of n parsed.vars text)) (with_variable table (drop 3 text))
  unfolding variable_of variable_states states_listed
  variable_fits text =
      let word = variable_name text in
      let list = list_text text in
      let words = between_commas (within_braces list) in
      let os = all_some (map (layer_entry_of n parsed.vars) words) in
      moved parsed name _ _ _ _
      (ap (λ (o : Option (List (List ℕ))). if_variable (option_map (λ states. record { name = word; states = states })
      (cond (is_variable_name word) (cond (is_some (variable_named parsed.vars word)) None (cond (is_list list) (option_map union_of o) None)) None)))
      (sets_are n parsed.vars variables same (good.states n en).1 (good.variables n en) words))
      (ap (λ v. cond (v && not (list_any (λ (w : Variable). bytes_eq w.name word) variables) && is_list list) (elim (claimed_entries_of table words) [
        | None ↦ Err kinds.BadVariable
        | Some es ↦ Ok (record table { variables = variables ++ record { name = word; states = flat_map (claimed_states_of variables) es } ∷ [] })
      ]) (Err kinds.BadVariable)) (name_is word)
      ∙ ap (λ v. cond (is_variable_name word && not v && is_list list) (elim (claimed_entries_of table words) [
        | None ↦ Err kinds.BadVariable
        | Some es ↦ Ok (record table { variables = variables ++ record { name = word; states = flat_map (claimed_states_of variables) es } ∷ [] })
      ]) (Err kinds.BadVariable)) (is_there parsed.vars variables same word)
      ∙ ap (λ (o : Option (List Entry)). cond (is_variable_name word && not (is_some (variable_named parsed.vars word)) && is_list list) (elim o [
        | None ↦ Err kinds.BadVariable
        | Some es ↦ Ok (record table { variables = variables ++ record { name = word; states = flat_map (claimed_states_of variables) es } ∷ [] })
      ]) (Err kinds.BadVariable)) (entries_are parsed.vars variables same table n en refl words))
      (by_tests word (is_variable_name word) (is_some (variable_named parsed.vars word)) (is_list list) os
      (there_all n parsed.vars variables same (good.states n en).1 (good.variables n en) words))
