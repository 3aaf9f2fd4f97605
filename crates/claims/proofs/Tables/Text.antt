-- What a text of the table says is what it says in the layer.
use Rattle.std.proofs.Common.{◌≡◌, ℕ, List, map, Bool, true, false, cond, not, ◌&&◌, ◌||◌, refl, ap, ◌∙◌, sym, subst, arith, ◌⊎◌, inl, inr, Option, Some, None, Result, Ok, Err, is_some, bytes_eq, codes, nat_lt, nat_le, option_map}
use Rattle.std.specs.List.{list_any}
use Rattle.std.proofs.lemmas.Bool.Decides.{nat_tests}
use Rattle.std.proofs.lemmas.Bool.{cases_Bool}
use Rattle.life_base.specs.Numbers.{result_map}
use Rattle.life_base.specs.Text.{is_digit_text, value_of}
use Rattle.life_base.specs.declared.kind.Kind.{Kind}
use Rattle.life_base.specs.declared.kind.Kind.TheVariants as kinds
use Rattle.life_table.specs.Grammar.{symmetry_word}
use Rattle.life_table.specs.Reader.{parsed_after}
use Rattle.life_table.specs.Reading.{if_states, if_neighborhood, if_symmetry, states_named, neighborhood_named, symmetry_named, parse_descriptor, key_of, setting_of, is_states_key, is_neighborhood_key, is_symmetry_key, agree as layer_agree}
use Rattle.life_table.specs.Valid.{is_listed, neighbour_count}
use Rattle.life_table.specs.declared.table.Neighborhood.{Neighborhood}
use Rattle.life_table.specs.declared.table.Neighborhood.TheVariants.{VonNeumann, Moore}
use Rattle.life_table.specs.declared.table.Symmetry.{Symmetry}
use Rattle.life_table.specs.declared.table.Symmetry.TheVariants.{Identity, Rotate4, Rotate4Reflect, ReflectHorizontal, Permute, Rotate8, Rotate8Reflect}
use Rattle.claims.specs.Table.{Variable, Table, claimed_symmetry_agrees, symmetries_of, neighbours_named, with_neighbours, with_descriptor}
use Rattle.claims.specs.Tables.{transition_in, AreVariables}
use Rattle.claims.proofs.Tables.Named.{Parsed, Directive}
use Rattle.life_base.proofs.Texts.{same_bytes}
use Rattle.life_table.proofs.Saying.{neighbors_alone}

-- ---- what lines of the table say, in both

-- the table of what is said in the layer, with these variables
abbrev pub table_in : Parsed → List ℕ → List Variable → Table
table_in parsed name variables = record {
  name = name;
  n_states = parsed.n_states;
  neighbours = option_map neighbour_count parsed.neighborhood;
  symmetry = option_map symmetry_word parsed.symmetry;
  variables = variables;
  transitions = map transition_in parsed.lines;
}

-- one line more says the same, or has the same fault
pub data Fits (parsed : Parsed) (name : List ℕ) : Result Parsed Kind → Result Table Kind → Type 0 where
  goes : (reported : Parsed) (next : Table) (variables : List Variable) → reported.section ≡ parsed.section → reported.name ≡ parsed.name
      → AreVariables reported.vars variables → next ≡ table_in reported name variables → Fits parsed name (Ok reported) (Ok next)
  stops : (kind : Kind) → Fits parsed name (Err kind) (Err kind)

abbrev pub FitsAfter : Parsed → List ℕ → Result Directive Kind → Result Table Kind → Type 0
FitsAfter parsed name r x = Fits parsed name (result_map (parsed_after parsed) r) x

pub moved : (parsed : Parsed) (name : List ℕ) (a b : Result Directive Kind) (x y : Result Table Kind) → a ≡ b → x ≡ y → FitsAfter parsed name b y
    → FitsAfter parsed name a x
moved parsed name a b x y e f h = subst (λ o. FitsAfter parsed name o x) (sym e) (subst (λ r. FitsAfter parsed name b r) (sym f) h)

-- ---- descriptors

words_agree : (h : Neighborhood) (y : Symmetry) → claimed_symmetry_agrees (Some (neighbour_count h)) (Some (symmetry_word y)) ≡ is_listed h y
words_agree VonNeumann Identity = refl
words_agree VonNeumann Rotate4 = refl
words_agree VonNeumann Rotate4Reflect = refl
words_agree VonNeumann ReflectHorizontal = refl
words_agree VonNeumann Permute = refl
words_agree VonNeumann Rotate8 = refl
words_agree VonNeumann Rotate8Reflect = refl
words_agree Moore Identity = refl
words_agree Moore Rotate4 = refl
words_agree Moore Rotate4Reflect = refl
words_agree Moore ReflectHorizontal = refl
words_agree Moore Permute = refl
words_agree Moore Rotate8 = refl
words_agree Moore Rotate8Reflect = refl

agree_is : (oh : Option Neighborhood) (oy : Option Symmetry) → claimed_symmetry_agrees (option_map neighbour_count oh) (option_map symmetry_word oy)
    ≡ layer_agree oh oy
agree_is None None = refl
agree_is None (Some y) = refl
agree_is (Some h) None = refl
agree_is (Some h) (Some y) = words_agree h y

pub word_listed : (y : Symmetry) → (list_any (bytes_eq (symmetry_word y)) (symmetries_of 8) ≡ true) × (symmetry_named (symmetry_word y) ≡ Some y)
word_listed Identity = (refl, refl)
word_listed Rotate4 = (refl, refl)
word_listed Rotate4Reflect = (refl, refl)
word_listed ReflectHorizontal = (refl, refl)
word_listed Permute = (refl, refl)
word_listed Rotate8 = (refl, refl)
word_listed Rotate8Reflect = (refl, refl)

abbrev IsNamed : List ℕ → Type 0
IsNamed word = ((y : Symmetry) × (word ≡ symmetry_word y)) ⊎ ((symmetry_named word ≡ None) × (list_any (bytes_eq word) (symmetries_of 8) ≡ false))

-- a word is this one, or what it is where it is another
word_or : (y : Symmetry) (word : List ℕ) → (bytes_eq word (symmetry_word y) ≡ false → IsNamed word) → IsNamed word
word_or y word other = elim (cases_Bool (bytes_eq word (symmetry_word y))) [ inl e ↦ inl (y, same_bytes word (symmetry_word y) e) | inr n ↦ other n ]

named : (word : List ℕ) → IsNamed word
named word =
    word_or Identity word (λ a. word_or Rotate4 word (λ b. word_or Rotate4Reflect word (λ c. word_or ReflectHorizontal word (λ d.
    word_or Permute word (λ f. word_or Rotate8 word (λ g. word_or Rotate8Reflect word (λ h.
    inr (none_of _ _ _ _ _ _ _ a b c d f g h, any_of _ _ _ _ _ _ _ a b c d f g h))))))))
  where
    none_of : (a b c d f g h : Bool) → a ≡ false → b ≡ false → c ≡ false → d ≡ false → f ≡ false → g ≡ false → h ≡ false
        → cond a (Some Identity) (cond b (Some Rotate4) (cond c (Some Rotate4Reflect) (cond d (Some ReflectHorizontal)
        (cond f (Some Permute) (cond g (Some Rotate8) (cond h (Some Rotate8Reflect) None)))))) ≡ None
    none_of a b c d f g h e1 e2 e3 e4 e5 e6 e7 = rw (e1, e2, e3, e4, e5, e6, e7) refl

    any_of : (a b c d f g h : Bool) → a ≡ false → b ≡ false → c ≡ false → d ≡ false → f ≡ false → g ≡ false → h ≡ false
        → (a || (b || (c || (d || (f || (g || (h || false))))))) ≡ false
    any_of a b c d f g h e1 e2 e3 e4 e5 e6 e7 = rw (e1, e2, e3, e4, e5, e6, e7) refl

module _ (parsed : Parsed) (name : List ℕ) (variables : List Variable) (same : AreVariables parsed.vars variables) where
  abbrev table : Table
  table = table_in parsed name variables

  abbrev F : Result Directive Kind → Result Table Kind → Type 0
  F = FitsAfter parsed name

  -- the three values

  number_fits : (value : List ℕ)
      → F (if_states (states_named value))
      (cond (is_digit_text value && nat_le 2 (value_of value) && nat_le (value_of value) 256) (Ok (record table { n_states = Some (value_of value) }))
      (Err kinds.BadDescriptor))
  number_fits value =
      subst (λ v. F (if_states (states_named value))
      (cond (is_digit_text value && nat_le 2 (value_of value) && v) (Ok (record table { n_states = Some (value_of value) })) (Err kinds.BadDescriptor)))
      (below (value_of value)) (by (is_digit_text value) (nat_le 2 (value_of value)) (nat_lt (value_of value) 257) (value_of value))
    where
      below : (n : ℕ) → nat_lt n 257 ≡ nat_le n 256
      below n = grind (arith, nat_tests)

      by : (d l m : Bool) (n : ℕ)
          → F (if_states (cond l (cond (d && m) (Some n) None) None)) (cond (d && l && m) (Ok (record table { n_states = Some n })) (Err kinds.BadDescriptor))
      by true true true n = goes _ _ variables refl refl same refl
      by true true false n = stops kinds.BadDescriptor
      by true false m n = stops kinds.BadDescriptor
      by false true m n = stops kinds.BadDescriptor
      by false false m n = stops kinds.BadDescriptor

  neighbours_fit : (value : List ℕ) → F (if_neighborhood parsed.symmetry (neighborhood_named value)) (with_neighbours table (neighbours_named value))
  neighbours_fit value = by (bytes_eq value (codes "vonNeumann")) (bytes_eq value (codes "Moore"))
    where
      agreed : (h : Neighborhood) → F (if_neighborhood parsed.symmetry (Some h)) (with_neighbours table (Some (neighbour_count h)))
      agreed h = elim (cases_Bool (layer_agree (Some h) parsed.symmetry)) [
        | inl e ↦ let k : claimed_symmetry_agrees (Some (neighbour_count h)) table.symmetry ≡ true = agree_is (Some h) parsed.symmetry ∙ e in
            rw (k, e) (goes _ _ variables refl refl same refl)
        | inr e ↦ let k : claimed_symmetry_agrees (Some (neighbour_count h)) table.symmetry ≡ false = agree_is (Some h) parsed.symmetry ∙ e in
            rw (k, e) (stops kinds.UnsupportedSymmetry)
      ]

      by : (v m : Bool) → F (if_neighborhood parsed.symmetry (cond v (Some VonNeumann) (cond m (Some Moore) None)))
          (with_neighbours table (cond v (Some 4) (cond m (Some 8) None)))
      by true m = agreed VonNeumann
      by false true = agreed Moore
      by false false = stops kinds.UnsupportedNeighborhood

  symmetry_fits : (value : List ℕ) → F (if_symmetry parsed.neighborhood (symmetry_named value))
      (cond (list_any (bytes_eq value) (symmetries_of 8) && claimed_symmetry_agrees table.neighbours (Some value)) (Ok (record table { symmetry = Some value }))
      (Err kinds.UnsupportedSymmetry))
  symmetry_fits value = by value (named value)
    where
      agreed : (y : Symmetry) → F (if_symmetry parsed.neighborhood (symmetry_named (symmetry_word y)))
          (cond (list_any (bytes_eq (symmetry_word y)) (symmetries_of 8) && claimed_symmetry_agrees table.neighbours (Some (symmetry_word y)))
          (Ok (record table { symmetry = Some (symmetry_word y) })) (Err kinds.UnsupportedSymmetry))
      agreed y = moved parsed name _ (if_symmetry parsed.neighborhood (Some y)) _
          (cond (claimed_symmetry_agrees table.neighbours (Some (symmetry_word y))) (Ok (record table { symmetry = Some (symmetry_word y) }))
          (Err kinds.UnsupportedSymmetry))
          (ap (if_symmetry parsed.neighborhood) (word_listed y).1)
          (ap (λ v. cond (v && claimed_symmetry_agrees table.neighbours (Some (symmetry_word y))) (Ok (record table { symmetry = Some (symmetry_word y) }))
          (Err kinds.UnsupportedSymmetry)) (word_listed y).0)
          (elim (cases_Bool (layer_agree parsed.neighborhood (Some y))) [
            | inl e ↦ let k : claimed_symmetry_agrees table.neighbours (Some (symmetry_word y)) ≡ true = agree_is parsed.neighborhood (Some y) ∙ e in
                rw (k, e) (goes _ _ variables refl refl same refl)
            | inr e ↦ let k : claimed_symmetry_agrees table.neighbours (Some (symmetry_word y)) ≡ false = agree_is parsed.neighborhood (Some y) ∙ e in
                rw (k, e) (stops kinds.UnsupportedSymmetry)
          ])

      by : (value : List ℕ) → IsNamed value → F (if_symmetry parsed.neighborhood (symmetry_named value))
          (cond (list_any (bytes_eq value) (symmetries_of 8) && claimed_symmetry_agrees table.neighbours (Some value))
          (Ok (record table { symmetry = Some value }))
          (Err kinds.UnsupportedSymmetry))
      by value (inl h) = subst (λ word. F (if_symmetry parsed.neighborhood (symmetry_named word))
          (cond (list_any (bytes_eq word) (symmetries_of 8) && claimed_symmetry_agrees table.neighbours (Some word))
          (Ok (record table { symmetry = Some word }))
          (Err kinds.UnsupportedSymmetry))) (sym h.1) (agreed h.0)
      by value (inr h) = moved parsed name _ _ _ _ (ap (if_symmetry parsed.neighborhood) h.0)
          (ap (λ v. cond (v && claimed_symmetry_agrees table.neighbours (Some value)) (Ok (record table { symmetry = Some value }))
          (Err kinds.UnsupportedSymmetry)) h.1)
          (stops kinds.UnsupportedSymmetry)

  -- each key once

  abbrev bad : Result Directive Kind
  bad = Err kinds.BadDescriptor

  by_keys : (k1 k2 k3 g1 g2 g3 : Bool) (a b c : Result Directive Kind) (x y z : Result Table Kind)
      → (k1 ≡ true → (k2 ≡ false) × (k3 ≡ false)) → (k2 ≡ true → k3 ≡ false) → F a x → F b y → F c z
      → F (cond k1 (cond g1 bad a) (cond k2 (cond g2 bad b) (cond k3 (cond g3 bad c) bad)))
      (cond (k1 && not g1) x (cond (k2 && not g2) y (cond (k3 && not g3) z (Err kinds.BadDescriptor))))
  by_keys true true k3 g1 g2 g3 a b c x y z o1 o2 f g h = absurd (let e : true ≡ false = (o1 refl).0 in cc)
  by_keys true false true g1 g2 g3 a b c x y z o1 o2 f g h = absurd (let e : true ≡ false = (o1 refl).1 in cc)
  by_keys true false false false g2 g3 a b c x y z o1 o2 f g h = f
  by_keys true false false true g2 g3 a b c x y z o1 o2 f g h = stops kinds.BadDescriptor
  by_keys false true true g1 g2 g3 a b c x y z o1 o2 f g h = absurd (let e : true ≡ false = o2 refl in cc)
  by_keys false true false g1 false g3 a b c x y z o1 o2 f g h = g
  by_keys false true false g1 true g3 a b c x y z o1 o2 f g h = stops kinds.BadDescriptor
  by_keys false false true g1 g2 false a b c x y z o1 o2 f g h = h
  by_keys false false true g1 g2 true a b c x y z o1 o2 f g h = stops kinds.BadDescriptor
  by_keys false false false g1 g2 g3 a b c x y z o1 o2 f g h = stops kinds.BadDescriptor

  states_key_alone : (key : List ℕ) → is_states_key key ≡ true → (is_neighborhood_key key ≡ false) × (is_symmetry_key key ≡ false)
  states_key_alone key h = let e : key ≡ codes "n_states" = same_bytes key (codes "n_states") h in (ap is_neighborhood_key e, ap is_symmetry_key e)

  given_neighbours : (o : Option Neighborhood) → is_some (option_map neighbour_count o) ≡ is_some o
  given_neighbours None = refl
  given_neighbours (Some h) = refl

  given_symmetry : (o : Option Symmetry) → is_some (option_map symmetry_word o) ≡ is_some o
  given_symmetry None = refl
  given_symmetry (Some y) = refl

  pub descriptor_fits : (text : List ℕ)
      → F (parse_descriptor parsed.n_states parsed.neighborhood parsed.symmetry text) (with_descriptor table (key_of text) (setting_of text))
  unfolding parse_descriptor
  descriptor_fits text =
      let key = key_of text in
      let value = setting_of text in
      let x = cond (is_digit_text value && nat_le 2 (value_of value) && nat_le (value_of value) 256) (Ok (record table { n_states = Some (value_of value) }))
      (Err kinds.BadDescriptor) in
      let y = with_neighbours table (neighbours_named value) in
      let z = cond (list_any (bytes_eq value) (symmetries_of 8) && claimed_symmetry_agrees table.neighbours (Some value))
      (Ok (record table { symmetry = Some value }))
      (Err kinds.UnsupportedSymmetry) in
      moved parsed name _ _ _ _ refl
      (ap (λ v. cond (is_states_key key && not (is_some parsed.n_states)) x
      (cond (is_neighborhood_key key && not v) y (cond (is_symmetry_key key && not (is_some table.symmetry)) z (Err kinds.BadDescriptor))))
      (given_neighbours parsed.neighborhood)
      ∙ ap (λ v. cond (is_states_key key && not (is_some parsed.n_states)) x
      (cond (is_neighborhood_key key && not (is_some parsed.neighborhood)) y (cond (is_symmetry_key key && not v) z (Err kinds.BadDescriptor))))
      (given_symmetry parsed.symmetry))
      (by_keys (is_states_key key) (is_neighborhood_key key) (is_symmetry_key key) (is_some parsed.n_states) (is_some parsed.neighborhood)
      (is_some parsed.symmetry) _ _ _ x y z
      (states_key_alone key) (neighbors_alone key) (number_fits value) (neighbours_fit value) (symmetry_fits value))
