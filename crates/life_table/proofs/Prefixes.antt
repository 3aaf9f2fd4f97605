-- One more line: the rule line, the table line, and the lines of the table.
use Rattle.std.proofs.Common.{◌≡◌, ℕ, List, [], ◌∷◌, ◌++◌, drop, Bool, true, false, not, refl, ap, sym, ◌∙◌, ◌||◌, ◌⊎◌, inl, inr, append-nil, Option, None, if◌then◌else◌, option_and_then, slice_get}
use Rattle.std.specs.List.{list_any}
use Rattle.std.proofs.lemmas.List.Folds.{list_any-append}
use Rattle.std.proofs.Math.Bool.{or-false}
use Rattle.life_base.specs.Text.{is_empty}
use Rattle.life_table.specs.Reading.{NumberedLine, from_first, up_to, from_rule, from_table, table_texts, contents, line_content, name_of, name_on, section_of, is_passed_over, is_table_line, is_section_line}
use Rattle.life_table.specs.declared.directive.Section.{Section}
use Rattle.life_table.specs.declared.directive.Section.TheVariants.{Ahead, Open, Behind}

module _ {X : Type 0} (p : X → Bool) where
  kept_step : (x : X) (xs : List X) (b : Bool) (y : X) (ys : List X) (z : X) → p x ≡ b
      → (from_first p xs ≡ y ∷ ys → from_first p (xs ++ z ∷ []) ≡ y ∷ (ys ++ z ∷ []))
      → from_first p (x ∷ xs) ≡ y ∷ ys → from_first p (x ∷ (xs ++ z ∷ [])) ≡ y ∷ (ys ++ z ∷ [])
  kept_step x xs true y ys z e ih h =
      let a : x ∷ xs ≡ y ∷ ys = rw e at h in
      let b : (x ∷ xs) ++ z ∷ [] ≡ (y ∷ ys) ++ z ∷ [] = ap (λ (t : List X). t ++ z ∷ []) a in
      rw e b
  kept_step x xs false y ys z e ih h = let a : from_first p xs ≡ y ∷ ys = rw e at h in rw e (ih a)

  -- what began earlier goes on
  pub first_kept : (xs : List X) (y : X) (ys : List X) (z : X) → from_first p xs ≡ y ∷ ys → from_first p (xs ++ z ∷ []) ≡ y ∷ (ys ++ z ∷ [])
  first_kept [] y ys z h = cc
  first_kept (x ∷ xs) y ys z h = kept_step x xs (p x) y ys z refl (first_kept xs y ys z) h

  new_step : (x : X) (xs : List X) (b : Bool) (z : X) → p x ≡ b
      → (from_first p xs ≡ [] → from_first p (xs ++ z ∷ []) ≡ (if p z then z ∷ [] else []))
      → from_first p (x ∷ xs) ≡ [] → from_first p (x ∷ (xs ++ z ∷ [])) ≡ (if p z then z ∷ [] else [])
  new_step x xs true z e ih h = let a : x ∷ xs ≡ [] = rw e at h in cc
  new_step x xs false z e ih h = let a : from_first p xs ≡ [] = rw e at h in rw e (ih a)

  -- it may begin with the new element
  pub first_new : (xs : List X) (z : X) → from_first p xs ≡ [] → from_first p (xs ++ z ∷ []) ≡ (if p z then z ∷ [] else [])
  first_new [] z h = refl
  first_new (x ∷ xs) z h = new_step x xs (p x) z refl (first_new xs z) h

  ended_step : (b : Bool) (x : X) (xs : List X) (z : X) → p x ≡ b → (list_any p xs ≡ true → up_to p (xs ++ z ∷ []) ≡ up_to p xs)
      → list_any p (x ∷ xs) ≡ true → up_to p (x ∷ (xs ++ z ∷ [])) ≡ up_to p (x ∷ xs)
  ended_step true x xs z e ih h = rw e refl
  ended_step false x xs z e ih h = let a : list_any p xs ≡ true = rw e at h in rw (e, ih a) refl

  -- after an element that passes nothing counts
  pub up_to_ended : (xs : List X) (z : X) → list_any p xs ≡ true → up_to p (xs ++ z ∷ []) ≡ up_to p xs
  up_to_ended [] z h = cc
  up_to_ended (x ∷ xs) z h = ended_step (p x) x xs z refl (up_to_ended xs z) h

  all_step : (b : Bool) (x : X) (xs : List X) → p x ≡ b → (list_any p xs ≡ false → up_to p xs ≡ xs) → list_any p (x ∷ xs) ≡ false → up_to p (x ∷ xs) ≡ x ∷ xs
  all_step true x xs e ih h = let a : true ≡ false = rw e at h in cc
  all_step false x xs e ih h = let a : list_any p xs ≡ false = rw e at h in rw (e, ih a) refl

  -- where none passes all count
  pub up_to_all : (xs : List X) → list_any p xs ≡ false → up_to p xs ≡ xs
  up_to_all [] h = refl
  up_to_all (x ∷ xs) h = all_step (p x) x xs refl (up_to_all xs) h

  pub any_more : (xs : List X) (z : X) → list_any p (xs ++ z ∷ []) ≡ (list_any p xs || p z)
  any_more xs z = list_any-append p xs (z ∷ []) ∙ ap (λ (b : Bool). list_any p xs || b) (or-false (p z))

  end_step : (b : Bool) (x : X) (xs : List X) (z : X) → p x ≡ b → (list_any p xs ≡ false → up_to p (xs ++ z ∷ []) ≡ xs)
      → list_any p (x ∷ xs) ≡ false → up_to p (x ∷ (xs ++ z ∷ [])) ≡ x ∷ xs
  end_step true x xs z e ih h = let a : true ≡ false = rw e at h in cc
  end_step false x xs z e ih h = let a : list_any p xs ≡ false = rw e at h in rw (e, ih a) refl

  -- the first that passes ends it
  pub up_to_end : (xs : List X) (z : X) → p z ≡ true → list_any p xs ≡ false → up_to p (xs ++ z ∷ []) ≡ xs
  up_to_end [] z e h = rw e refl
  up_to_end (x ∷ xs) z e h = end_step (p x) x xs z refl (up_to_end xs z e) h

-- a list has a first element, or none
split_list : {X : Type 0} (xs : List X) → ((y : X) × (ys : List X) × (xs ≡ y ∷ ys)) ⊎ (xs ≡ [])
split_list [] = inr refl
split_list (x ∷ xs) = inl (x, xs, refl)

abbrev pub is_section : NumberedLine → Bool
is_section line = is_section_line line.1

abbrev pub is_table : NumberedLine → Bool
is_table line = is_table_line line.1

-- what the lines from the rule line on say
abbrev name_by : List NumberedLine → Option (List ℕ)
name_by rule = option_and_then (λ (line : NumberedLine). name_on line.1) (slice_get rule 0)

abbrev section_by : List NumberedLine → Section
section_by table = if is_empty table then Ahead else (if list_any is_section (drop 1 table) then Behind else Open)

abbrev texts_by : List NumberedLine → List NumberedLine
texts_by table = contents (up_to is_section (drop 1 table))

name_is : (ps : List NumberedLine) → name_of ps ≡ name_by (from_rule ps)
unfolding name_of
name_is ps = refl

section_is : (ps : List NumberedLine) → section_of ps ≡ section_by (from_table ps)
unfolding section_of
section_is ps = refl

texts_are : (ps : List NumberedLine) → table_texts ps ≡ texts_by (from_table ps)
unfolding table_texts
texts_are ps = refl

-- where the lines stand
pub data Stage (ps : List NumberedLine) : Type 0 where
  start : from_rule ps ≡ [] → Stage ps
  ruled : (r : NumberedLine) (rs : List NumberedLine) → from_rule ps ≡ r ∷ rs → from_first is_table rs ≡ [] → Stage ps
  tabled : (r : NumberedLine) (rs : List NumberedLine) → from_rule ps ≡ r ∷ rs → (t : NumberedLine) (bs : List NumberedLine) → from_first is_table rs ≡ t ∷ bs
      → Stage ps

pub stage : (ps : List NumberedLine) → Stage ps
stage ps = elim (split_list (from_rule ps)) [
  | inr none ↦ start none
  | inl r ↦ elim (split_list (from_first is_table r.1)) [
    | inr none ↦ ruled r.0 r.1 r.2 none
    | inl t ↦ tabled r.0 r.1 r.2 t.0 t.1 t.2
  ]
]

-- one more line, and what it changes
pub record Grown (ps : List NumberedLine) (x : NumberedLine) (new_name : Option (List ℕ)) (new_section : Section) (more : List NumberedLine) : Type 0 where
  pub name : name_of (ps ++ x ∷ []) ≡ new_name
  pub section : section_of (ps ++ x ∷ []) ≡ new_section
  pub texts : table_texts (ps ++ x ∷ []) ≡ table_texts ps ++ more

contents_step : (b : Bool) (number : ℕ) (line : List ℕ) (xs ys : List NumberedLine) → is_empty (line_content line) ≡ b → contents (xs ++ ys) ≡ contents xs
    ++ contents ys
    → contents ((number, line) ∷ (xs ++ ys)) ≡ contents ((number, line) ∷ xs) ++ contents ys
contents_step true number line xs ys e ih = rw e ih
contents_step false number line xs ys e ih = rw e (ap (λ (t : List NumberedLine). (number, line_content line) ∷ t) ih)

contents_more : (xs ys : List NumberedLine) → contents (xs ++ ys) ≡ contents xs ++ contents ys
contents_more [] ys = refl
contents_more (x ∷ xs) ys = contents_step (is_empty (line_content x.1)) x.0 x.1 xs ys refl (contents_more xs ys)

module _ (ps : List NumberedLine) (x : NumberedLine) where
  -- the rule line and what follows it, once it came
  rule_kept : (r : NumberedLine) (rs : List NumberedLine) → from_rule ps ≡ r ∷ rs → from_rule (ps ++ x ∷ []) ≡ r ∷ (rs ++ x ∷ [])
  rule_kept r rs e = first_kept (λ (line : NumberedLine). not (is_passed_over line.1)) ps r rs x e

  rule_new : from_rule ps ≡ [] → from_rule (ps ++ x ∷ []) ≡ (if not (is_passed_over x.1) then x ∷ [] else [])
  rule_new e = first_new (λ (line : NumberedLine). not (is_passed_over line.1)) ps x e

  table_of_rule : (qs : List NumberedLine) (rule table : List NumberedLine) → from_rule qs ≡ rule → from_first is_table (drop 1 rule) ≡ table → from_table qs
      ≡ table
  table_of_rule qs rule table e f = ap (λ (t : List NumberedLine). from_first is_table (drop 1 t)) e ∙ f

  -- from the parts before and after to what they say
  grown : (name : Option (List ℕ)) (section : Section) (before after more : List NumberedLine) → name_by (from_rule (ps ++ x ∷ [])) ≡ name → from_table ps
      ≡ before
      → from_table (ps ++ x ∷ []) ≡ after
      → section_by after ≡ section → texts_by after ≡ texts_by before ++ more → Grown ps x name section more
  grown name section before after more n b a s t = record {
    name = name_is (ps ++ x ∷ []) ∙ n;
    section = section_is (ps ++ x ∷ []) ∙ ap section_by a ∙ s;
    texts = texts_are (ps ++ x ∷ []) ∙ ap texts_by a ∙ t ∙ ap (λ (u : List NumberedLine). u ++ more) (sym (ap texts_by b) ∙ sym (texts_are ps));
  }

  pub rule_passed : from_rule ps ≡ [] → is_passed_over x.1 ≡ true → from_rule (ps ++ x ∷ []) ≡ []
  rule_passed e p = rule_new e ∙ ap (λ (b : Bool). if not b then x ∷ [] else []) p

  pub grown_passed : from_rule ps ≡ [] → is_passed_over x.1 ≡ true → Grown ps x None Ahead []
  grown_passed e p =
      let r : from_rule (ps ++ x ∷ []) ≡ [] = rule_new e ∙ ap (λ (b : Bool). if not b then x ∷ [] else []) p in
      grown None Ahead [] [] [] (ap name_by r) (table_of_rule ps [] [] e refl) (table_of_rule (ps ++ x ∷ []) [] [] r refl) refl refl

  pub grown_named : from_rule ps ≡ [] → is_passed_over x.1 ≡ false → Grown ps x (name_on x.1) Ahead []
  grown_named e p =
      let r : from_rule (ps ++ x ∷ []) ≡ x ∷ [] = rule_new e ∙ ap (λ (b : Bool). if not b then x ∷ [] else []) p in
      grown (name_on x.1) Ahead [] [] [] (ap name_by r) (table_of_rule ps [] [] e refl) (table_of_rule (ps ++ x ∷ []) (x ∷ []) [] r refl) refl refl

  module _ (r : NumberedLine) (rs : List NumberedLine) (e : from_rule ps ≡ r ∷ rs) where
    name_kept : name_by (from_rule (ps ++ x ∷ [])) ≡ name_of ps
    name_kept = ap name_by (rule_kept r rs e) ∙ sym (name_is ps ∙ ap name_by e)

    pub grown_ahead : from_first is_table rs ≡ [] → is_table_line x.1 ≡ false → Grown ps x (name_of ps) Ahead []
    grown_ahead f p =
        let g : from_first is_table (rs ++ x ∷ []) ≡ [] = first_new is_table rs x f ∙ ap (λ (b : Bool). if b then x ∷ [] else []) p in
        grown (name_of ps) Ahead [] [] [] name_kept (table_of_rule ps (r ∷ rs) [] e f)
        (table_of_rule (ps ++ x ∷ []) (r ∷ (rs ++ x ∷ [])) [] (rule_kept r rs e) g) refl refl

    pub grown_opens : from_first is_table rs ≡ [] → is_table_line x.1 ≡ true → Grown ps x (name_of ps) Open []
    grown_opens f p =
        let g : from_first is_table (rs ++ x ∷ []) ≡ x ∷ [] = first_new is_table rs x f ∙ ap (λ (b : Bool). if b then x ∷ [] else []) p in
        grown (name_of ps) Open [] (x ∷ []) [] name_kept (table_of_rule ps (r ∷ rs) [] e f)
        (table_of_rule (ps ++ x ∷ []) (r ∷ (rs ++ x ∷ [])) (x ∷ []) (rule_kept r rs e) g) refl refl

    module _ (t : NumberedLine) (bs : List NumberedLine) (f : from_first is_table rs ≡ t ∷ bs) where
      in_table : (name : Option (List ℕ)) (section : Section) (more : List NumberedLine) → (if list_any is_section (bs ++ x ∷ []) then Behind else Open)
          ≡ section
          → contents (up_to is_section (bs ++ x ∷ [])) ≡ contents (up_to is_section bs) ++ more → Grown ps x (name_of ps) section more
      in_table name section more s c =
          grown (name_of ps) section (t ∷ bs) (t ∷ (bs ++ x ∷ [])) more name_kept (table_of_rule ps (r ∷ rs) (t ∷ bs) e f)
          (table_of_rule (ps ++ x ∷ []) (r ∷ (rs ++ x ∷ [])) (t ∷ (bs ++ x ∷ [])) (rule_kept r rs e) (first_kept is_table rs t bs x f)) s c

      pub grown_behind : list_any is_section bs ≡ true → Grown ps x (name_of ps) Behind []
      grown_behind a =
          in_table None Behind [] (ap (λ (b : Bool). if b then Behind else Open) (any_more is_section bs x ∙ ap (λ (b : Bool). b || is_section x) a))
          (ap contents (up_to_ended is_section bs x a) ∙ sym (append-nil (contents (up_to is_section bs))))

      pub grown_ends : list_any is_section bs ≡ false → is_section_line x.1 ≡ true → Grown ps x (name_of ps) Behind []
      grown_ends a p =
          in_table None Behind [] (ap (λ (b : Bool). if b then Behind else Open) (any_more is_section bs x ∙ ap (λ (b : Bool). b || is_section x) a ∙ p))
          (ap contents (up_to_end is_section bs x p a ∙ sym (up_to_all is_section bs a)) ∙ sym (append-nil (contents (up_to is_section bs))))

      pub grown_text : list_any is_section bs ≡ false → is_section_line x.1 ≡ false → Grown ps x (name_of ps) Open (contents (x ∷ []))
      grown_text a p =
          let none : list_any is_section (bs ++ x ∷ []) ≡ false = any_more is_section bs x ∙ ap (λ (b : Bool). b || is_section x) a ∙ p in
          in_table None Open (contents (x ∷ [])) (ap (λ (b : Bool). if b then Behind else Open) none)
          (ap contents (up_to_all is_section (bs ++ x ∷ []) none) ∙ contents_more bs (x ∷ []) ∙ ap (λ (u : List NumberedLine). contents u ++ contents (x ∷ []))
          (sym (up_to_all is_section bs a)))

  -- what the section tells of the stage
  pub section_at_start : from_rule ps ≡ [] → section_of ps ≡ Ahead
  section_at_start e = section_is ps ∙ ap section_by (table_of_rule ps [] [] e refl)

  pub name_at_start : from_rule ps ≡ [] → name_of ps ≡ None
  name_at_start e = name_is ps ∙ ap name_by e

  pub section_ahead : (r : NumberedLine) (rs : List NumberedLine) → from_rule ps ≡ r ∷ rs → from_first is_table rs ≡ [] → section_of ps ≡ Ahead
  section_ahead r rs e f = section_is ps ∙ ap section_by (table_of_rule ps (r ∷ rs) [] e f)

  pub section_within : (r : NumberedLine) (rs : List NumberedLine) → from_rule ps ≡ r ∷ rs → (t : NumberedLine) (bs : List NumberedLine)
      → from_first is_table rs ≡ t ∷ bs
      → section_of ps ≡ (if list_any is_section bs then Behind else Open)
  section_within r rs e t bs f = section_is ps ∙ ap section_by (table_of_rule ps (r ∷ rs) (t ∷ bs) e f)
