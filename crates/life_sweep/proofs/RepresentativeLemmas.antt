-- Neighbours whose images are the same have the same answers.
use Rattle.std.proofs.Common.{◌≡◌, ℕ, ◌<◌, List, [], ◌∷◌, ◌++◌, drop, length, get_or, refl, sym, ◌∙◌, subst, inl, inr, arith, All, Contains, ◌↔◌, nat_eq, cond, slice_index}
use Rattle.std.specs.List.Sorted.{IsPermutation}
use Rattle.std.proofs.lemmas.List.Elements.{All-cons, All-tail, Contains-append_left, Contains-append_right, Contains-append_cases}
use Rattle.std.proofs.lemmas.List.Sorted.{sum_by-IsPermutation, All-permutation}
use Rattle.life_table.specs.Meaning.{Gives, GivesNothing, LineAnswers, Answer, Becomes, Ambiguous, Decides, count_of}
use Rattle.life_table.proofs.LawProofs.{orders_law}
use Rattle.life_table.specs.declared.table.Table.{Table}
use Rattle.life_table.specs.declared.table.Symmetry.{Symmetry}
use Rattle.life_table.specs.declared.table.Symmetry.TheVariants.{Permute, Rotate4}
use Rattle.life_table.specs.declared.table.Neighborhood.{Neighborhood}
use Rattle.life_table.specs.declared.table.Neighborhood.TheVariants.{Moore}
use Rattle.life_table.specs.declared.table.Var.{Var}
use Rattle.life_table.specs.declared.table.Transition.{Transition}
use Rattle.life_sweep.specs.Generation.{TableAnswers, neighbours_among}
use Rattle.life_sweep.specs.LawFacts.{SameImages}

pub images_back : (symmetry : Symmetry) (v w : List ℕ) → SameImages symmetry v w → SameImages symmetry w v
images_back symmetry v w h image = let k = h image in (k.1, k.0)

gives : (symmetry : Symmetry) (vars : List Var) (centre : ℕ) (v w : List ℕ) → SameImages symmetry v w → (line : Transition) (s : ℕ)
    → Gives symmetry vars line centre v s → Gives symmetry vars line centre w s
gives symmetry vars centre v w same line s g = record { image = g.image; is_image = (same g.image).0 g.is_image; gives = g.gives }

module _ (symmetry : Symmetry) (vars : List Var) (centre : ℕ) (v w : List ℕ) (same : SameImages symmetry v w) where
  gives_there : (line : Transition) (s : ℕ) → Gives symmetry vars line centre v s → Gives symmetry vars line centre w s
  gives_there = gives symmetry vars centre v w same

  gives_back : (line : Transition) (s : ℕ) → Gives symmetry vars line centre w s → Gives symmetry vars line centre v s
  gives_back = gives symmetry vars centre w v (images_back symmetry v w same)

  silent : (line : Transition) → GivesNothing symmetry vars centre v line → GivesNothing symmetry vars centre w line
  silent line h s g = h s (gives_back line s g)

  answers : (line : Transition) (answer : Answer) → LineAnswers symmetry vars centre v line answer → LineAnswers symmetry vars centre w line answer
  answers line (Becomes s) h = (gives_there line s h.0, λ t g. h.1 t (gives_back line t g))
  answers line (Ambiguous n) h = (h.0, h.1, h.2, h.3, gives_there line h.1 h.4, gives_there line h.2 h.5)

  pub decides : (lines : List Transition) (answer : Answer) → Decides symmetry vars centre v lines answer → Decides symmetry vars centre w lines answer
  decides lines answer h = elim h [
    | inl f ↦ inl (record {
      before = f.before;
      line = f.line;
      after = f.after;
      split = f.split;
      silent = λ k d below. silent (get_or f.before k d) (f.silent k d below);
      answers = answers f.line answer f.answers;
    })
    | inr none ↦ inr (λ k d below. silent (get_or lines k d) (none.0 k d below), none.1)
  ]

same_count : (v w : List ℕ) → IsPermutation v w → (t : ℕ) → count_of t w ≡ count_of t v
same_count v w moved t = sum_by-IsPermutation (λ x. cond (nat_eq t x) 1 0) v w moved

-- lists with the same elements have the same orders
pub moved_images : (v w : List ℕ) → IsPermutation v w → SameImages Permute v w
moved_images v w moved image = (
  λ h. (orders_law w image).1 (λ t. (orders_law v image).0 h t ∙ sym (same_count v w moved t)),
  λ h. (orders_law v image).1 (λ t. (orders_law w image).0 h t ∙ same_count v w moved t),
)

-- a table that answers by the same centre and images answers the same
pub same_answers : (table : Table) (v w : List ℕ) → slice_index w 0 ≡ slice_index v 0
    → SameImages table.symmetry (neighbours_among table.neighborhood v) (neighbours_among table.neighborhood w) → (answer : Answer)
    → TableAnswers table w answer
    ↔ TableAnswers table v answer
same_answers table v w centre same answer = (
  λ h. subst (λ c. Decides table.symmetry table.vars c (neighbours_among table.neighborhood v) table.lines answer) centre
      (decides table.symmetry table.vars (slice_index w 0) (neighbours_among table.neighborhood w) (neighbours_among table.neighborhood v)
      (images_back table.symmetry (neighbours_among table.neighborhood v) (neighbours_among table.neighborhood w) same) table.lines answer h),
  λ h. subst (λ c. Decides table.symmetry table.vars c (neighbours_among table.neighborhood w) table.lines answer) (sym centre)
      (decides table.symmetry table.vars (slice_index v 0) (neighbours_among table.neighborhood v) (neighbours_among table.neighborhood w) same table.lines
      answer h),
)

same_fixed : (table : Table) (v w : List ℕ) (n : Neighborhood) → table.neighborhood ≡ n
    → SameImages table.symmetry (neighbours_among n v) (neighbours_among n w)
    → SameImages table.symmetry (neighbours_among table.neighborhood v) (neighbours_among table.neighborhood w)
same_fixed table v w n is h = subst (λ m. SameImages table.symmetry (neighbours_among m v) (neighbours_among m w)) (sym is) h

pub same_named : (table : Table) (v w : List ℕ) (n : Neighborhood) → table.neighborhood ≡ n → slice_index w 0 ≡ slice_index v 0 → neighbours_among n w
    ≡ neighbours_among n v
    → (answer : Answer) → TableAnswers table w answer ↔ TableAnswers table v answer
same_named table v w n is centre same answer =
    same_answers table v w centre (same_fixed table v w n is
    (subst (λ ns. SameImages table.symmetry (neighbours_among n v) ns) (sym same) (λ image. (λ h. h, λ h. h))))
    answer

pub same_moved : (table : Table) (v w : List ℕ) → table.neighborhood ≡ Moore → table.symmetry ≡ Permute → slice_index w 0 ≡ slice_index v 0
    → IsPermutation (drop 1 v) (drop 1 w) → (answer : Answer) → TableAnswers table w answer ↔ TableAnswers table v answer
same_moved table v w is order centre moved answer =
    same_answers table v w centre (same_fixed table v w Moore is
    (subst (λ y. SameImages y (drop 1 v) (drop 1 w)) (sym order) (moved_images (drop 1 v) (drop 1 w) moved))) answer

-- eight neighbours in another order, one by one
pub moved_eight : (v w : List ℕ) → length v ≡ 9 → length w ≡ 8
    → IsPermutation (get_or v 1 0 ∷ get_or v 2 0 ∷ get_or v 3 0 ∷ get_or v 4 0 ∷ get_or v 5 0 ∷ get_or v 6 0 ∷ get_or v 7 0 ∷ get_or v 8 0 ∷ []) w
    → IsPermutation (drop 1 v) (get_or w 0 0 ∷ get_or w 1 0 ∷ get_or w 2 0 ∷ get_or w 3 0 ∷ get_or w 4 0 ∷ get_or w 5 0 ∷ get_or w 6 0 ∷ get_or w 7 0 ∷ [])
moved_eight (z ∷ a ∷ b ∷ c ∷ d ∷ e ∷ f ∷ g ∷ h ∷ []) (s ∷ t ∷ u ∷ x ∷ y ∷ k ∷ m ∷ n ∷ []) lv lw moved = moved
moved_eight v (s ∷ t ∷ u ∷ x ∷ y ∷ k ∷ m ∷ n ∷ []) lv lw moved = absurd (omega (arith, lv))
moved_eight v w lv lw moved = absurd (omega (arith, lw))

-- what holds of a cell and its neighbours holds of them in another order
pub moved_all : (n : ℕ) (v w : List ℕ) → length v ≡ 9 → length w ≡ 9 → slice_index w 0 ≡ slice_index v 0 → IsPermutation (drop 1 v) (drop 1 w)
    → All (λ s. s < n) v → All (λ s. s < n) w
moved_all n (c ∷ v) (d ∷ w) lv lw centre moved all =
    All-cons (λ s. s < n) d w (let first = all 0 0 (omega (arith, lv)) in omega (arith, centre, first))
    (All-permutation (λ s. s < n) v w moved (All-tail (λ s. s < n) c v all))
moved_all n [] w lv lw centre moved all = absurd (omega (arith, lv))
moved_all n v [] lv lw centre moved all = absurd (omega (arith, lw))

-- the same cell with its neighbours turned
pub record IsTurnOf (v w : List ℕ) : Type 0 where
  pub centre : slice_index w 0 ≡ slice_index v 0
  pub same : SameImages Rotate4 (drop 1 v) (drop 1 w)
  pub states : (n : ℕ) → All (λ s. s < n) v → All (λ s. s < n) w

pub IsTurnOf-same : (v : List ℕ) → IsTurnOf v v
IsTurnOf-same v = record { centre = refl; same = λ image. (λ h. h, λ h. h); states = λ n h. h }

pub IsTurnOf-then : {u v w : List ℕ} → IsTurnOf u v → IsTurnOf v w → IsTurnOf u w
IsTurnOf-then a b =
    record {
      centre = b.centre ∙ a.centre;
      same = λ image. (λ h. (b.same image).0 ((a.same image).0 h), λ h. (a.same image).1 ((b.same image).1 h));
      states = λ n h. b.states n (a.states n h);
    }

-- the first of a list stands last as well
first_last : (x : List ℕ) (xs : List (List ℕ)) (image : List ℕ) → Contains (x ∷ xs) image ↔ Contains (xs ++ x ∷ []) image
first_last x xs image = (
  λ h. elim (Contains-append_cases (x ∷ []) xs image h) [
    | inl here ↦ Contains-append_right xs (x ∷ []) image here
    | inr there ↦ Contains-append_left xs (x ∷ []) image there
  ],
  λ h. elim (Contains-append_cases xs (x ∷ []) image h) [
    | inl there ↦ Contains-append_right (x ∷ []) xs image there
    | inr here ↦ Contains-append_left (x ∷ []) xs image here
  ],
)

pub quarter : (v : List ℕ) → length v ≡ 9
    → SameImages Rotate4 (drop 1 v) (get_or v 3 0 ∷ get_or v 4 0 ∷ get_or v 5 0 ∷ get_or v 6 0 ∷ get_or v 7 0 ∷ get_or v 8 0 ∷ get_or v 1 0 ∷ get_or v 2 0 ∷ [])
quarter (z ∷ a ∷ b ∷ c ∷ d ∷ e ∷ f ∷ g ∷ h ∷ []) len image =
    first_last (a ∷ b ∷ c ∷ d ∷ e ∷ f ∷ g ∷ h ∷ [])
    ((c ∷ d ∷ e ∷ f ∷ g ∷ h ∷ a ∷ b ∷ []) ∷ (e ∷ f ∷ g ∷ h ∷ a ∷ b ∷ c ∷ d ∷ []) ∷ (g ∷ h ∷ a ∷ b ∷ c ∷ d ∷ e ∷ f ∷ []) ∷ []) image
quarter v len image = absurd (omega (arith, len))

pub same_turned : (table : Table) (v w : List ℕ) → table.neighborhood ≡ Moore → table.symmetry ≡ Rotate4 → slice_index w 0 ≡ slice_index v 0
    → SameImages Rotate4 (drop 1 v) (drop 1 w) → (answer : Answer) → TableAnswers table w answer ↔ TableAnswers table v answer
same_turned table v w is turns centre same answer =
    same_answers table v w centre (same_fixed table v w Moore is (subst (λ y. SameImages y (drop 1 v) (drop 1 w)) (sym turns) same)) answer
