-- What a line gives at its images, one after another.
use Rattle.std.proofs.Common.{◌≡◌, ℕ, ◌<◌, ◌++◌, ◌∷◌, List, [], map, length, get_or, ap, sym, ◌∙◌, subst, inl, inr, ◌⊎◌}
use Rattle.std.proofs.lemmas.List.{get_or-map}
use Rattle.std.proofs.lemmas.List.Elements.{Contains-append_left, Contains-append_right, Contains-append_cases}
use Rattle.life_table.specs.Meaning.{state_of, GivesAs}
use Rattle.life_table.specs.Found.{IsFoundOf, Adds, SomeGives}
use Rattle.life_base.proofs.Members.{in_head, in_none, in_one}
use Rattle.life_table.proofs.Adding.{directives_same, tells_more, adds_same, adds_more, adds_none}
use Rattle.life_table.specs.declared.found.Found.{Found}
use Rattle.life_table.specs.declared.table.Var.{Var}
use Rattle.life_table.specs.declared.table.Entry.{Entry}
use Rattle.life_table.specs.declared.table.Transition.{Transition}

-- the state of one input, where all inputs are these states
pub input_is : (choice : ℕ → ℕ) (inputs : List Entry) (states : List ℕ) (k : ℕ) (d : Entry) → map (state_of choice) inputs ≡ states → k < length inputs
    → state_of choice (get_or inputs k d) ≡ get_or states k 0
input_is choice inputs states k d values below = sym (get_or-map (state_of choice) inputs k d 0 below) ∙ ap (λ zs. get_or zs k 0) values

pub none_gives : (vars : List Var) (line : Transition) (s : ℕ) → SomeGives vars line [] s → ⊥
none_gives vars line s g = in_none g.image g.is_image

module _ (vars : List Var) (line : Transition) where
  -- what two lists of images give is what the one gives or the other
  from_either : (list more : List (List ℕ)) (s : ℕ) → SomeGives vars line list s ⊎ SomeGives vars line more s → SomeGives vars line (list ++ more) s
  from_either list more s x = elim x [
    | inl g ↦ record { image = g.image; is_image = Contains-append_left list more g.image g.is_image; gives = g.gives }
    | inr g ↦ record { image = g.image; is_image = Contains-append_right list more g.image g.is_image; gives = g.gives }
  ]

  to_either : (list more : List (List ℕ)) (s : ℕ) → SomeGives vars line (list ++ more) s → SomeGives vars line list s ⊎ SomeGives vars line more s
  to_either list more s g = elim (Contains-append_cases list more g.image g.is_image) [
    | inl there ↦ inl (record { image = g.image; is_image = there; gives = g.gives })
    | inr last ↦ inr (record { image = g.image; is_image = last; gives = g.gives })
  ]

  one_alone : (states : List ℕ) (s : ℕ) → GivesAs vars line states s → SomeGives vars line (states ∷ []) s
  one_alone states s g = record { image = states; is_image = in_head states []; gives = g }

  alone_one : (states : List ℕ) (s : ℕ) → SomeGives vars line (states ∷ []) s → GivesAs vars line states s
  alone_one states s g = subst (λ ws. GivesAs vars line ws s) (sym (in_one states g.image g.is_image)) g.gives

  pub no_turns_yet : (old : Found) → Adds (SomeGives vars line []) old old
  no_turns_yet old = adds_none (SomeGives vars line []) (none_gives vars line) old

  -- one more image adds what it gives
  pub image_more : (list : List (List ℕ)) (states : List ℕ) (old mid new : Found) → Adds (SomeGives vars line list) old mid
      → Adds (GivesAs vars line states) mid new → Adds (SomeGives vars line (list ++ states ∷ [])) old new
  image_more list states old mid new h k =
      adds_same (λ s. SomeGives vars line list s ⊎ SomeGives vars line (states ∷ []) s) (SomeGives vars line (list ++ states ∷ []))
      (from_either list (states ∷ [])) (to_either list (states ∷ [])) old new
      (adds_more (SomeGives vars line list) (SomeGives vars line (states ∷ [])) old mid new h
      (adds_same (GivesAs vars line states) (SomeGives vars line (states ∷ [])) (one_alone states) (alone_one states) mid new k))

  -- more images tell what they give too
  pub images_more : (list more : List (List ℕ)) (old new : Found) → IsFoundOf (SomeGives vars line list) old → Adds (SomeGives vars line more) old new
      → IsFoundOf (SomeGives vars line (list ++ more)) new
  images_more list more old new h k =
      directives_same (λ s. SomeGives vars line list s ⊎ SomeGives vars line more s) (SomeGives vars line (list ++ more))
      (from_either list more) (to_either list more) new
      (tells_more (SomeGives vars line list) (SomeGives vars line more) old new h k)
