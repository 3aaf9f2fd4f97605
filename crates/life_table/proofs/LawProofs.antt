-- Proofs of the laws of rule tables.
use Rattle.std.proofs.Common.{◌≡◌, ℕ, List, [], ◌∷◌, ◌++◌, map, take, drop, ap, sym, ◌∙◌, subst, inl, inr, All}
use Rattle.std.proofs.lemmas.List.Elements.{All-head, All-tail}
use Rattle.life_table.proofs.Counts.{count-order, order_by_counts}
use Rattle.life_table.specs.Laws.{OrdersByCounts, PermuteByCounts, OneAnswer}
use Rattle.life_table.specs.Meaning.{Gives, Answer, Becomes, Ambiguous, Decides, GivesNothing, LineAnswers, count_of, state_of}
use Rattle.life_table.specs.declared.table.Symmetry.{Symmetry}
use Rattle.life_table.specs.declared.table.Var.{Var}
use Rattle.life_table.specs.declared.table.Transition.{Transition}

pub orders_law : OrdersByCounts
orders_law v w = (λ h t. count-order t v w h, order_by_counts v w)

module _ {X : Type 0} (f : X → ℕ) where
  first_value : (xs : List X) (c : ℕ) (w : List ℕ) → map f xs ≡ c ∷ w → map f (take 1 xs) ≡ c ∷ []
  first_value [] c w h = cc
  first_value (x ∷ xs) c w h = cc

  other_values : (xs : List X) (c : ℕ) (w : List ℕ) → map f xs ≡ c ∷ w → map f (drop 1 xs) ≡ w
  other_values [] c w h = cc
  other_values (x ∷ xs) c w h = cc

  all_values : (xs : List X) (c : ℕ) → map f (take 1 xs) ≡ c ∷ [] → map f xs ≡ c ∷ map f (drop 1 xs)
  all_values [] c h = cc
  all_values (x ∷ xs) c h = cc

pub permute_law : PermuteByCounts
permute_law vars line centre others s = (
  λ g. record {
    choice = g.gives.choice;
    is_choice = g.gives.is_choice;
    first = first_value (state_of g.gives.choice) line.inputs centre g.image g.gives.inputs;
    counts = λ t. ap (count_of t) (other_values (state_of g.gives.choice) line.inputs centre g.image g.gives.inputs) ∙ count-order t others g.image g.is_image;
    output = g.gives.output;
  },
  λ g. record {
    image = map (state_of g.choice) (drop 1 line.inputs);
    is_image = order_by_counts others (map (state_of g.choice) (drop 1 line.inputs)) g.counts;
    gives = record {
      choice = g.choice;
      is_choice = g.is_choice;
      inputs = all_values (state_of g.choice) line.inputs centre g.first;
      output = g.output;
    };
  },
)

module _ (symmetry : Symmetry) (vars : List Var) (centre : ℕ) (others : List ℕ) where
  abbrev Speaks : Transition → Type 0
  Speaks line = (s : ℕ) × Gives symmetry vars line centre others s

  abbrev Silent : Transition → Type 0
  Silent line = GivesNothing symmetry vars centre others line

  speaks : (line : Transition) (a : Answer) → LineAnswers symmetry vars centre others line a → Speaks line
  speaks line (Becomes s) h = (s, h.0)
  speaks line (Ambiguous n) h = (h.1, h.4)

  not_both : (line : Transition) → Speaks line → Silent line → ⊥
  not_both line h k = k h.0 h.1

  one_line : (line : Transition) (a b : Answer) → LineAnswers symmetry vars centre others line a → LineAnswers symmetry vars centre others line b → a ≡ b
  one_line line (Becomes s) (Becomes t) h k = ap Becomes (k.1 s h.0)
  one_line line (Becomes s) (Ambiguous n) h k = absurd (k.3 (h.1 k.1 k.4 ∙ sym (h.1 k.2 k.5)))
  one_line line (Ambiguous n) (Becomes t) h k = absurd (h.3 (k.1 h.1 h.4 ∙ sym (k.1 h.2 h.5)))
  one_line line (Ambiguous n) (Ambiguous m) h k = ap Ambiguous (h.0 ∙ sym k.0)

  -- the first line that speaks is one
  same_first : (before : List Transition) (line : Transition) (after : List Transition) (prefix : List Transition) (other : Transition) (back : List Transition)
      →
      before ++ line ∷ after ≡ prefix ++ other ∷ back → All Silent before → All Silent prefix → Speaks line → Speaks other → line ≡ other
  same_first [] line after [] other back e p q h k = cc
  same_first [] line after (x ∷ prefix) other back e p q h k =
      let same : line ≡ x = cc in absurd (not_both x (subst Speaks same h) (All-head Silent x prefix q))
  same_first (x ∷ before) line after [] other back e p q h k =
      let same : other ≡ x = cc in absurd (not_both x (subst Speaks same k) (All-head Silent x before p))
  same_first (x ∷ before) line after (y ∷ prefix) other back e p q h k =
      let rest : before ++ line ∷ after ≡ prefix ++ other ∷ back = cc in
      same_first before line after prefix other back rest (All-tail Silent x before p) (All-tail Silent y prefix q) h k

  silent_all : (before : List Transition) (line : Transition) (after : List Transition) → All Silent (before ++ line ∷ after) → Speaks line → ⊥
  silent_all [] line after p h = not_both line h (All-head Silent line after p)
  silent_all (x ∷ before) line after p h = silent_all before line after (All-tail Silent x (before ++ line ∷ after) p) h

  one : (lines : List Transition) (a b : Answer) → Decides symmetry vars centre others lines a → Decides symmetry vars centre others lines b → a ≡ b
  one lines a b (inl f) (inl g) =
      let same = same_first f.before f.line f.after g.before g.line g.after (sym f.split ∙ g.split) f.silent g.silent (speaks f.line a f.answers)
      (speaks g.line b g.answers) in
      one_line g.line a b (subst (λ line. LineAnswers symmetry vars centre others line a) same f.answers) g.answers
  one lines a b (inl f) (inr n) = absurd (silent_all f.before f.line f.after (subst (All Silent) f.split n.0) (speaks f.line a f.answers))
  one lines a b (inr n) (inl g) = absurd (silent_all g.before g.line g.after (subst (All Silent) g.split n.0) (speaks g.line b g.answers))
  one lines a b (inr n) (inr m) = n.1 ∙ sym m.1

pub one_law : OneAnswer
one_law symmetry vars centre others lines a b h k = one symmetry vars centre others lines a b h k
