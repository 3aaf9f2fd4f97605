-- A cell of state 0 among neighbours of state 0 keeps it.
use Rattle.std.proofs.Common.{◌≡◌, ℕ, zero, suc, ◌+◌, ◌∷◌, ◌++◌, List, [], map, length, Bool, true, false, refl, ap, sym, ◌∙◌, subst, ◌⊎◌, inl, inr, arith, ◌||◌, get_or, eqb-true, length-append, Contains, All, IsTrue, IfSome, slice_get, replicate, Option, Some, ◌==◌, if◌then◌else◌}
use Rattle.std.specs.List.{list_any}
use Rattle.std.specs.Option.{option_map_or}
use Rattle.std.proofs.Math.Seq.{take-append_seam, get_or-append_seam}
use Rattle.std.proofs.lemmas.Bool.Decides.{eqb_tells}
use Rattle.std.proofs.lemmas.Option.{slice_get_cases}
use Rattle.std.proofs.lemmas.List.Elements.{All-nil, All-cons, All-head, All-tail, All-take}
use Rattle.std.proofs.lemmas.List.Sums.{AllPass-from_list_all, list_all-from_AllPass}
use Rattle.std.proofs.lemmas.Bool.{cases_Bool}
use Rattle.life_table.specs.Orders.{images, orders, insertions}
use Rattle.life_table.specs.Meaning.{IsChoice, HasState, has_state, state_of, Gives, GivesNothing}
use Rattle.life_table.specs.Valid.{IsVariable, IsEntry, IsTransition, allows_zero, fits_zero, is_quiet_output, is_quiet, neighbour_count, is_variable}
use Rattle.life_table.specs.Laws.{ZeroStaysZero}
use Rattle.life_base.proofs.Members.{in_one, in_none, in_cases, from_map, from_flat_map}
use Rattle.life_table.proofs.Counts.{order_by_counts}
use Rattle.life_table.proofs.Choosing.{some_state, with_first, is_first}
use Rattle.life_table.specs.declared.table.Neighborhood.{Neighborhood}
use Rattle.life_table.specs.declared.table.Neighborhood.TheVariants.{VonNeumann, Moore}
use Rattle.life_table.specs.declared.table.Symmetry.{Symmetry}
use Rattle.life_table.specs.declared.table.Symmetry.TheVariants.{Identity, Rotate4, Rotate4Reflect, ReflectHorizontal, Permute, Rotate8, Rotate8Reflect}
use Rattle.life_table.specs.declared.table.Var.{Var}
use Rattle.life_table.specs.declared.table.Entry.{Entry}
use Rattle.life_table.specs.declared.table.Entry.TheVariants as entries
use Rattle.life_table.specs.declared.table.Transition.{Transition}

abbrev zeros : Neighborhood → List ℕ
zeros n = replicate (neighbour_count n) 0

-- every image of zeros is zeros

one_of_same : {X : Type 0} (z : X) (k : ℕ) (w : X) → Contains (replicate k z) w → z ≡ w
one_of_same z zero w h = absurd (in_none w h)
one_of_same z (suc k) w h = elim (in_cases z (replicate k z) w h) [ inl e ↦ e | inr t ↦ one_of_same z k w t ]

zero_inserted : (n : ℕ) (w : List ℕ) → Contains (insertions 0 (replicate n 0)) w → replicate (suc n) 0 ≡ w
zero_inserted zero w h = in_one (0 ∷ []) w h
zero_inserted (suc n) w h = elim (in_cases (replicate (suc (suc n)) 0) (map (λ zs. 0 ∷ zs) (insertions 0 (replicate n 0))) w h) [
  | inl e ↦ e
  | inr m ↦ let r = from_map (λ zs. 0 ∷ zs) (insertions 0 (replicate n 0)) w m in ap (λ z. 0 ∷ z) (zero_inserted n r.0 r.1) ∙ r.2
]

zero_orders : (n : ℕ) (w : List ℕ) → Contains (orders (replicate n 0)) w → replicate n 0 ≡ w
unfolding orders
zero_orders zero w h = in_one [] w h
zero_orders (suc n) w h =
    let r = from_flat_map (insertions 0) (orders (replicate n 0)) w h in
    zero_inserted n w (subst (λ v. Contains (insertions 0 v) w) (sym (zero_orders n r.0 r.1)) r.2)

-- but for every order, the images of zeros are the same list once or more
same_images : (n : Neighborhood) (symmetry : Symmetry) → (symmetry ≡ Permute) ⊎ ((k : ℕ) × (images symmetry (zeros n) ≡ replicate (suc k) (zeros n)))
same_images n Permute = inl refl
same_images VonNeumann Identity = inr (0, refl)
same_images VonNeumann Rotate4 = inr (3, refl)
same_images VonNeumann Rotate4Reflect = inr (7, refl)
same_images VonNeumann ReflectHorizontal = inr (1, refl)
same_images VonNeumann Rotate8 = inr (3, refl)
same_images VonNeumann Rotate8Reflect = inr (7, refl)
same_images Moore Identity = inr (0, refl)
same_images Moore Rotate4 = inr (3, refl)
same_images Moore Rotate4Reflect = inr (7, refl)
same_images Moore ReflectHorizontal = inr (1, refl)
same_images Moore Rotate8 = inr (7, refl)
same_images Moore Rotate8Reflect = inr (15, refl)

zero_images : (n : Neighborhood) (symmetry : Symmetry) (w : List ℕ) → Contains (images symmetry (zeros n)) w → zeros n ≡ w
zero_images n symmetry w h = elim (same_images n symmetry) [
  | inl every ↦ zero_orders (neighbour_count n) w (subst (λ s. Contains (images s (zeros n)) w) every h)
  | inr same ↦ one_of_same (zeros n) (suc same.0) w (subst (λ ws. Contains ws w) same.1 h)
]

zero_image : (n : Neighborhood) (symmetry : Symmetry) → Contains (images symmetry (zeros n)) (zeros n)
zero_image n symmetry = elim (same_images n symmetry) [
  | inl every ↦ subst (λ s. Contains (images s (zeros n)) (zeros n)) (sym every) (order_by_counts (zeros n) (zeros n) (λ t. refl))
  | inr same ↦ subst (λ ws. Contains ws (zeros n)) (sym same.1) (0, omega arith, refl)
]

all_zeros : (n : Neighborhood) → replicate (neighbour_count n + 1) 0 ≡ 0 ∷ zeros n
all_zeros VonNeumann = refl
all_zeros Moore = refl

-- entries whose values are all 0

module _ (f : Entry → ℕ) where
  zero_map : (es : List Entry) → All (λ e. f e ≡ 0) es → map f es ≡ replicate (length es) 0
  zero_map [] h = refl
  zero_map (e ∷ es) h =
      let a = All-head (λ e. f e ≡ 0) e es h in
      let b = zero_map es (All-tail (λ e. f e ≡ 0) e es h) in
      cc

  map_zero : (es : List Entry) (k : ℕ) → map f es ≡ replicate k 0 → All (λ e. f e ≡ 0) es
  map_zero [] k h = All-nil (λ e. f e ≡ 0)
  map_zero (e ∷ es) zero h = absurd (let z : ⊥ = cc in z)
  map_zero (e ∷ es) (suc k) h =
      let first : f e ≡ 0 = cc in
      let rest : map f es ≡ replicate k 0 = cc in
      All-cons (λ e. f e ≡ 0) e es first (map_zero es k rest)

pub bound_zero : (choice : ℕ → ℕ) (i : ℕ) (es : List Entry) → IsTrue (list_any (is_variable i) es) → All (λ e. state_of choice e ≡ 0) es → choice i ≡ 0
bound_zero choice i [] there h = absurd (let z : ⊥ = cc in z)
bound_zero choice i (entries.Fixed s ∷ es) there h = bound_zero choice i es there (All-tail (λ e. state_of choice e ≡ 0) (entries.Fixed s) es h)
bound_zero choice i (entries.Var j ∷ es) there h = elim (eqb_tells i j) [
  | inl same ↦ ap choice same.1 ∙ All-head (λ e. state_of choice e ≡ 0) (entries.Var j) es h
  | inr other ↦ bound_zero choice i es (subst (λ b. IsTrue (b || list_any (is_variable i) es)) other.0 there)
      (All-tail (λ e. state_of choice e ≡ 0) (entries.Var j) es h)
]

-- a choice that takes 0 wherever it may

quiet_state : (n : ℕ) (var : Var) → IsVariable n var → (s : ℕ) × HasState var s × (HasState var 0 → s ≡ 0)
quiet_state n var v = elim (cases_Bool (has_state var 0)) [
  | inl does ↦ (0, does, λ h. refl)
  | inr not_so ↦ let s = some_state n var v in (s.0, s.1, λ h. absurd (let e : true ≡ false = sym h ∙ not_so in cc))
]

-- it takes 0 for each variable that may be 0
abbrev TakesZero : List Var → (ℕ → ℕ) → Type 0
TakesZero vars choice = (i : ℕ) (var : Var) → slice_get vars i ≡ Some var → HasState var 0 → choice i ≡ 0

first_zero : (v : Var) (vars : List Var) (s : ℕ) → (HasState v 0 → s ≡ 0) → (rest : ℕ → ℕ) → TakesZero vars rest → TakesZero (v ∷ vars) (with_first s rest)
first_zero v vars s quiet rest r zero var is h = quiet (subst (λ w. HasState w 0) (let e : var ≡ v = cc in e) h)
first_zero v vars s quiet rest r (suc i) var is h = r i var is h

quiet_choice : (n : ℕ) (vars : List Var) → All (IsVariable n) vars → (choice : ℕ → ℕ) × IsChoice vars choice × TakesZero vars choice
quiet_choice n [] h = ((λ i. 0), (λ i below. absurd (omega (arith, below))), (λ i var is k. refl))
quiet_choice n (v ∷ vars) h =
    let s = quiet_state n v (All-head (IsVariable n) v vars h) in
    let rest = quiet_choice n vars (All-tail (IsVariable n) v vars h) in
    (with_first s.0 rest.0, is_first v vars s.0 s.1 rest.0 rest.1, first_zero v vars s.0 s.2 rest.0 rest.2)

-- an entry that is 0 under a choice may be 0, and under the quiet choice an entry that may be 0 is

zero_value : (n : ℕ) (vars : List Var) (choice : ℕ → ℕ) → IsChoice vars choice → (e : Entry) → IsEntry n vars e → state_of choice e ≡ 0
    → allows_zero vars e ≡ true
zero_value n vars choice is (entries.Fixed s) entry h = subst (λ (t : ℕ). (t == 0) ≡ true) (sym h) refl
zero_value n vars choice is (entries.Var j) entry h = elim (slice_get_cases vars j).1 [
  | inl some ↦
      let there : IfSome (slice_get vars j) (λ w. HasState w (choice j)) = is j (entry.variable j refl) in
      let has : HasState some.0 (choice j) = subst (λ o. IfSome o (λ (w : Var). HasState w (choice j))) some.2 there in
      let zero_there : has_state some.0 0 ≡ true = subst (HasState some.0) h has in
      subst (λ (o : Option Var). option_map_or (λ (w : Var). has_state w 0) o false ≡ true) (sym some.2) zero_there
  | inr none ↦ absurd (let below = entry.variable j refl in omega (arith, below, none.0))
]

allowed_value : (vars : List Var) (choice : ℕ → ℕ) → TakesZero vars choice → (e : Entry) → allows_zero vars e ≡ true → state_of choice e ≡ 0
allowed_value vars choice quiet (entries.Fixed s) h = eqb-true s 0 h
allowed_value vars choice quiet (entries.Var i) h = elim (slice_get_cases vars i).1 [
  | inl some ↦ quiet i some.0 some.2 (subst (λ (o : Option Var). option_map_or (λ (w : Var). has_state w 0) o false ≡ true) some.2 h)
  | inr none ↦ absurd (let e : false ≡ true = subst (λ (o : Option Var). option_map_or (λ (w : Var). has_state w 0) o false ≡ true) none.1 h in
      let z : ⊥ = cc in z)
]

-- which line fits first

record FirstFit (vars : List Var) (lines : List Transition) : Type 0 where
  before : List Transition
  line : Transition
  after : List Transition
  split : lines ≡ before ++ line ∷ after
  none : All (λ earlier. fits_zero vars earlier ≡ false) before
  fits : fits_zero vars line ≡ true
  quiet : is_quiet_output line.output ≡ true

first_fit : (vars : List Var) (lines : List Transition) → is_quiet vars lines ≡ true → FirstFit vars lines ⊎ All (λ line. fits_zero vars line ≡ false) lines
first_fit vars [] q = inr (All-nil (λ line. fits_zero vars line ≡ false))
first_fit vars (x ∷ xs) q = elim (cases_Bool (fits_zero vars x)) [
  | inl fits ↦ inl (record {
    before = [];
    line = x;
    after = xs;
    split = refl;
    none = All-nil (λ line. fits_zero vars line ≡ false);
    fits = fits;
    quiet = subst (λ (b : Bool). (if b then is_quiet_output x.output else is_quiet vars xs) ≡ true) fits q;
  })
  | inr not_so ↦ elim (first_fit vars xs (subst (λ (b : Bool). (if b then is_quiet_output x.output else is_quiet vars xs) ≡ true) not_so q)) [
    | inl f ↦ inl (record {
      before = x ∷ f.before;
      line = f.line;
      after = f.after;
      split = ap (λ z. x ∷ z) f.split;
      none = All-cons (λ line. fits_zero vars line ≡ false) x f.before not_so f.none;
      fits = f.fits;
      quiet = f.quiet;
    })
    | inr all ↦ inr (All-cons (λ line. fits_zero vars line ≡ false) x xs not_so all)
  ]
]

-- the elements before one, and that one
before_split : {X : Type 0} (P : X → Type 0) (before : List X) (x : X) (after : List X) → All P (before ++ x ∷ after) → All P before
before_split P before x after h = subst (All P) (take-append_seam before (x ∷ after)) (All-take P (length before) (before ++ x ∷ after) h)

at_split : {X : Type 0} (P : X → Type 0) (before : List X) (x : X) (after : List X) → All P (before ++ x ∷ after) → P x
at_split P before x after h =
    subst P (get_or-append_seam before x after x) (h (length before) x (omega (arith, length-append before (x ∷ after))))

-- the law

module _ (n : Neighborhood) (symmetry : Symmetry) (vars : List Var) where
  fits_if_gives : (line : Transition) (s : ℕ) → (g : Gives symmetry vars line 0 (zeros n) s) → All (λ e. state_of g.gives.choice e ≡ 0) line.inputs
  fits_if_gives line s g = map_zero (state_of g.gives.choice) line.inputs (suc (neighbour_count n))
      (g.gives.inputs ∙ ap (λ w. 0 ∷ w) (sym (zero_images n symmetry g.image g.is_image)))

  silent : (n_states : ℕ) (line : Transition) → IsTransition n_states (neighbour_count n) vars line → fits_zero vars line ≡ false
      → GivesNothing symmetry vars 0 (zeros n) line
  silent n_states line t not_so s g =
      let values = fits_if_gives line s g in
      let allowed : All (λ e. allows_zero vars e ≡ true) line.inputs = λ k d below.
      zero_value n_states vars g.gives.choice g.gives.is_choice (get_or line.inputs k d) (t.inputs k d below) (values k d below) in
      absurd (let e : true ≡ false = sym (list_all-from_AllPass (allows_zero vars) line.inputs allowed) ∙ not_so in let z : ⊥ = cc in z)

  all_silent : (n_states : ℕ) (lines : List Transition) → All (IsTransition n_states (neighbour_count n) vars) lines
      → All (λ line. fits_zero vars line ≡ false) lines → All (GivesNothing symmetry vars 0 (zeros n)) lines
  all_silent n_states lines t f = λ k d below. silent n_states (get_or lines k d) (t k d below) (f k d below)

  quiet_fixed : (s : ℕ) (e : Entry) → e ≡ entries.Fixed s → is_quiet_output e ≡ true → s ≡ 0
  quiet_fixed s e is q = eqb-true s 0 (sym (ap is_quiet_output is) ∙ q)

  output_zero : (n_states : ℕ) (line : Transition) → IsTransition n_states (neighbour_count n) vars line → ((s : ℕ) → line.output ≡ entries.Fixed s → s ≡ 0) →
      (choice : ℕ → ℕ) → All (λ e. state_of choice e ≡ 0) line.inputs → (e : Entry) → line.output ≡ e → state_of choice e ≡ 0
  output_zero n_states line t quiet choice all (entries.Fixed s) is = quiet s is
  output_zero n_states line t quiet choice all (entries.Var i) is = bound_zero choice i line.inputs (t.bound i is) all

pub zero_law : ZeroStaysZero
zero_law n_states n symmetry vars lines sound = elim (first_fit vars lines sound.quiet) [
  | inr none ↦ inr (all_silent n symmetry vars n_states lines sound.transitions none, refl)
  | inl f ↦
      let all : All (IsTransition n_states (neighbour_count n) vars) (f.before ++ f.line ∷ f.after) = subst
      (All (IsTransition n_states (neighbour_count n) vars)) f.split sound.transitions in
      let t : IsTransition n_states (neighbour_count n) vars f.line = at_split (IsTransition n_states (neighbour_count n) vars) f.before f.line f.after all in
      let quiet = λ (s : ℕ) (is : f.line.output ≡ entries.Fixed s). quiet_fixed n symmetry vars s f.line.output is f.quiet in
      let c = quiet_choice n_states vars sound.variables in
      let fits : All (λ e. allows_zero vars e ≡ true) f.line.inputs = AllPass-from_list_all (allows_zero vars) f.line.inputs f.fits in
      let values : All (λ e. state_of c.0 e ≡ 0) f.line.inputs = λ k d below. allowed_value vars c.0 c.2 (get_or f.line.inputs k d) (fits k d below) in
      inl (record {
        before = f.before;
        line = f.line;
        after = f.after;
        split = f.split;
        silent = all_silent n symmetry vars n_states f.before (before_split (IsTransition n_states (neighbour_count n) vars) f.before f.line f.after all)
            f.none;
        answers = (
          record {
            image = zeros n;
            is_image = zero_image n symmetry;
            gives = record {
              choice = c.0;
              is_choice = c.1;
              inputs = zero_map (state_of c.0) f.line.inputs values ∙ ap (λ k. replicate k 0) t.count ∙ all_zeros n;
              output = output_zero n symmetry vars n_states f.line t quiet c.0 values f.line.output refl;
            };
          },
          λ s g. sym g.gives.output
              ∙ output_zero n symmetry vars n_states f.line t quiet g.gives.choice (fits_if_gives n symmetry vars f.line s g) f.line.output refl,
        );
      })
]
