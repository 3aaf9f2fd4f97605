-- A variable's number by its name, in a map from names to states.
use Rattle.std.proofs.Common.{◌≡◌, ℕ, ◌+◌, List, [], ◌∷◌, ◌++◌, length, Bool, false, not, refl, ap, sym, ◌∙◌, cond, nat_lt, map, Option, Some, None, is_some, position, bytes_eq, option_map, slice_index, ◌==◌, ◌%◌}
use Rattle.std.specs.Option.{option_map_or}
use Rattle.std.specs.Bool.{one_answer}
use Rattle.std.specs.List.{position_or_len}
use Rattle.std.specs.Global.{Vec}
use Rattle.std.specs.Map.{keys_of}
use Rattle.std.proofs.lemmas.List.{length-map, map-append}
use Rattle.std.proofs.lemmas.Slice.Eq.{bytes_eq-Decides}
use Rattle.indexmap.specs.IndexMap.{IndexMap, get, insert_entry}
use Rattle.indexmap.proofs.CallerLemmas.{insert_entry-new}
use Rattle.indexmap.proofs.MapLemmas.{some_index}
use Rattle.std.proofs.lemmas.Nat.Bits.{bit_at_lowest}
use Rattle.life_table.proofs.Cases.{not_some}
use Rattle.life_table.specs.Meaning.{has_state}
use Rattle.life_table.specs.ByName.{var_of}
use Rattle.life_table.specs.Reading.{variable_named}
use Rattle.life_table.specs.declared.table.Var.{Var}

-- equal bytes are equal either way round
pub either_way : (xs ys : List ℕ) → bytes_eq xs ys ≡ bytes_eq ys xs
either_way xs ys =
    let d = bytes_eq-Decides ys xs in
    one_answer (bytes_eq xs ys) (bytes_eq ys xs) (bytes_eq-Decides xs ys) (λ h. sym (d.0 h), λ e. d.1 (sym e))

-- equal keys
abbrev pub same_bytes : Vec ℕ → Vec ℕ → Bool
same_bytes a b = bytes_eq a.items b.items

first_named : (word : List ℕ) (es : List (Vec ℕ × List ℕ))
    → position_or_len (λ k. bytes_eq word k.items) (keys_of es) ≡ position_or_len (λ var. bytes_eq var.name word) (map var_of es)
first_named word [] = refl
first_named word (e ∷ es) =
    ap (λ (b : Bool). cond (not b) (1 + position_or_len (λ k. bytes_eq word k.items) (keys_of es)) 0) (either_way word e.0.items)
    ∙ ap (λ (n : ℕ). cond (not (bytes_eq e.0.items word)) (1 + n) 0) (first_named word es)

-- the place of a name among the keys is the number of its variable
pub number_named : (word : List ℕ) (es : List (Vec ℕ × List ℕ)) → position (λ k. bytes_eq word k.items) (keys_of es) ≡ variable_named (map var_of es) word
number_named word es =
    let keys : length (keys_of es) ≡ length (map var_of es) = length-map es (λ e. e.0) ∙ sym (length-map es var_of) in
    ap (λ (n : ℕ). cond (nat_lt (position_or_len (λ k. bytes_eq word k.items) (keys_of es)) n)
    (Some (position_or_len (λ k. bytes_eq word k.items) (keys_of es))) None) keys
    ∙ ap (λ (p : ℕ). cond (nat_lt p (length (map var_of es))) (Some p) None) (first_named word es)

module _ {S : Type 0} (m : IndexMap (Vec ℕ) (List ℕ) S) (key : Vec ℕ) (var : Var) where
  -- a name that no variable has is no key
  absent : variable_named (map var_of m.entries) key.items ≡ None → get same_bytes m key ≡ None
  absent none = not_some (get same_bytes m key) (sym (some_index (same_bytes key) m.entries) ∙ ap is_some (number_named key.items m.entries ∙ none))

  -- a new variable goes last
  pub pushed : key.items ≡ var.name → variable_named (map var_of m.entries) var.name ≡ None
      → map var_of (insert_entry same_bytes m.entries key var.states) ≡ map var_of m.entries ++ var ∷ []
  pushed named none =
      ap (map var_of) (insert_entry-new same_bytes m key var.states (absent (ap (variable_named (map var_of m.entries)) named ∙ none)))
      ∙ map-append var_of m.entries ((key, var.states) ∷ [])
      ∙ ap (λ (v : Var). map var_of m.entries ++ v ∷ []) (ap (λ (name : List ℕ). record { name = name; states = var.states }) named)

-- a variable may be 0 where its lowest bit is set
pub may_be_zero : (found : Option Var) (states : List ℕ) → Some states ≡ option_map (λ var. var.states) found
    → (slice_index states 0 % 2 == 1) ≡ option_map_or (λ var. has_state var 0) found false
may_be_zero None states h = absurd (let z : ⊥ = cc in z)
may_be_zero (Some var) states h =
    let same : states ≡ var.states = (let e : Some states ≡ Some var.states = h in cc) in
    ap (λ (n : ℕ). n == 1) (ap (λ (words : List ℕ). slice_index words 0 % 2) same ∙ sym (bit_at_lowest (slice_index var.states 0)))
