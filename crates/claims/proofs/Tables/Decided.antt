-- What a table decides is what the layer says that it decides.
use Rattle.std.proofs.Common.{◌≡◌, ◌≢◌, ℕ, zero, suc, ◌+◌, List, [], ◌∷◌, length, map, true, false, cond, refl, ap, ◌∙◌, sym, subst, arith, inl, inr, ◌↔◌, ◌&&◌, eq-eqb, eqb-true, Option, Some, None, IfSome, All, Contains, filter_map, slice_get, ◌==◌}
use Rattle.std.specs.List.{list_all, list_any, cons_option}
use Rattle.std.specs.Option.{option_map_or, unwrap_or}
use Rattle.std.proofs.lemmas.Bool.Decides.{eqb_tells}
use Rattle.std.proofs.lemmas.List.Elements.{All-nil, All-cons, All-head, All-tail, All-contains}
use Rattle.std.proofs.lemmas.Bool.{or_left, cases_Bool}
use Rattle.life_base.proofs.Basics.{right_of_and, left_of_and}
use Rattle.life_table.proofs.LawProofs.{one_law}
use Rattle.life_base.proofs.Members.{in_head, in_tail, in_cases, in_none}
use Rattle.life_table.specs.Meaning.{has_state, HasState, IsChoice, Gives, GivesNothing, LineAnswers, Decides, Answer as LayerAnswer, Becomes, Ambiguous}
use Rattle.life_table.specs.Orders.{images as layer_images}
use Rattle.life_table.specs.Valid.{IsVariable, IsTransition, neighbour_count}
use Rattle.life_table.specs.declared.table.Var.{Var}
use Rattle.life_table.specs.declared.table.Transition.{Transition as LayerTransition}
use Rattle.life_table.specs.declared.table.Table.{Table as LayerTable}
use Rattle.claims.specs.Table.{Variable, variable, Transition, Table, claimed_states_of, claimed_images, claimed_state_given, claimed_states_given, claimed_decision, ClaimedAnswer, becomes, ambiguous}
use Rattle.claims.specs.TableLaws.{TablesDecide}
use Rattle.claims.specs.Tables.{transition_in, answer_in, AreVariables, IsTable}
use Rattle.claims.proofs.Tables.Given.{given_is_choice, choice_is_given}
use Rattle.claims.proofs.Tables.Imaged.{images_agree, image_length, Agrees}

-- ---- lists

module _ {X : Type 0} (f : X → Option ℕ) where
  mapped : (xs : List X) (x : X) (s : ℕ) → Contains xs x → f x ≡ Some s → Contains (filter_map f xs) s
  mapped [] x s c e = absurd (in_none x c)
  mapped (y ∷ xs) x s c e = elim (in_cases y xs x c) [
    | inl h ↦ subst (λ (o : Option ℕ). Contains (cons_option o (filter_map f xs)) s) (sym (ap f h ∙ e)) (in_head s (filter_map f xs))
    | inr h ↦ further (f y) (mapped xs x s h e)
  ]
    where
      further : (o : Option ℕ) → Contains (filter_map f xs) s → Contains (cons_option o (filter_map f xs)) s
      further None h = h
      further (Some t) h = in_tail t (filter_map f xs) s h

  unmapped : (xs : List X) (s : ℕ) → Contains (filter_map f xs) s → (x : X) × Contains xs x × (f x ≡ Some s)
  unmapped [] s c = absurd (in_none s c)
  unmapped (y ∷ xs) s c = by (f y) refl c (unmapped xs s)
    where
      further : (x : X) × Contains xs x × (f x ≡ Some s) → (x : X) × Contains (y ∷ xs) x × (f x ≡ Some s)
      further h = (h.0, in_tail y xs h.0 h.1, h.2)

      by : (o : Option ℕ) → f y ≡ o → Contains (cons_option o (filter_map f xs)) s → (Contains (filter_map f xs) s → (x : X) × Contains xs x × (f x ≡ Some s))
          → (x : X) × Contains (y ∷ xs) x × (f x ≡ Some s)
      by None e c below = further (below c)
      by (Some t) e c below = elim (in_cases t (filter_map f xs) s c) [
        | inl h ↦ (y, in_head y xs, e ∙ ap Some h)
        | inr h ↦ further (below h)
      ]

all_same : (s : ℕ) (xs : List ℕ) → list_all (λ t. t == s) xs ≡ true → (t : ℕ) → Contains xs t → t ≡ s
all_same s [] h t c = absurd (in_none t c)
all_same s (x ∷ xs) h t c = elim (in_cases x xs t c) [
  | inl e ↦ sym e ∙ eqb-true x s (left_of_and (x == s) _ h)
  | inr d ↦ all_same s xs (right_of_and (x == s) _ h) t d
]

another : (s : ℕ) (xs : List ℕ) → list_all (λ t. t == s) xs ≡ false → (t : ℕ) × Contains xs t × (s ≢ t)
another s [] h = cc
another s (x ∷ xs) h = elim (eqb_tells x s) [
  | inl e ↦ let r = another s xs (ap (λ v. v && list_all (λ t. t == s) xs) (sym e.0) ∙ h) in (r.0, in_tail x xs r.0 r.1, r.2)
  | inr n ↦ (x, in_head x xs, λ e. n.1 (sym e))
]

-- ---- each variable has a state

abbrev head_of : List ℕ → ℕ
head_of [] = 0
head_of (x ∷ xs) = x

module _ (vars : List Var) (variables : List Variable) (same : AreVariables vars variables) where
  some_state : (i : ℕ) (var : Var) (xs : List ℕ) → ((s : ℕ) → list_any (λ t. t == s) xs ≡ has_state var s) → ¬ ((s : ℕ) → ¬ (HasState var s))
      → HasState var (head_of xs)
  some_state i var [] h k = absurd (k (λ s e. let f : false ≡ true = h s ∙ e in cc))
  some_state i var (x ∷ xs) h k = sym (h x) ∙ or_left (x == x) _ (eq-eqb x x refl)

  base : ℕ → ℕ
  base i = head_of (claimed_states_of variables (variable i))

  is_base : (n : ℕ) → All (IsVariable n) vars → IsChoice vars base
  unfolding base
  is_base n all i below = by (slice_get vars i) refl
    where
      there : (xs : List Var) (i : ℕ) (var : Var) → slice_get xs i ≡ Some var → Contains xs var
      there [] i var e = cc
      there (x ∷ xs) zero var e = subst (Contains (x ∷ xs)) (let k : x ≡ var = cc in k) (in_head x xs)
      there (x ∷ xs) (suc i) var e = in_tail x xs var (there xs i var e)

      by : (o : Option Var) → slice_get vars i ≡ o → IfSome o (λ var. HasState var (head_of (claimed_states_of variables (variable i))))
      by None e = tt
      by (Some var) e =
          some_state i var (claimed_states_of variables (variable i)) (λ s. same.states i s
          ∙ ap (λ (o : Option Var). option_map_or (λ (v : Var). has_state v s) o false) e)
          (All-contains (IsVariable n) vars var all (there vars i var e)).some

-- ---- lines

abbrev answer_out : ClaimedAnswer → LayerAnswer
answer_out (becomes s) = Becomes s
answer_out (ambiguous number) = Ambiguous number

out_in : (a : ClaimedAnswer) → answer_in (answer_out a) ≡ a
out_in (becomes s) = refl
out_in (ambiguous number) = refl

in_out : (a : LayerAnswer) → answer_out (answer_in a) ≡ a
in_out (Becomes s) = refl
in_out (Ambiguous number) = refl

module _ (layer : LayerTable) (table : Table) (is : IsTable layer table) (centre : ℕ) (others : List ℕ) (count : length others
    ≡ neighbour_count layer.neighborhood) where
  agrees : Agrees layer.symmetry others
  agrees = images_agree layer.symmetry layer.neighborhood others layer.sound.listed count

  abbrev given_for : LayerTransition → List ℕ → Option ℕ
  given_for line image = claimed_state_given table.variables (transition_in line) (centre ∷ image)

  gives_are : (line : LayerTransition) → claimed_states_given table centre others (transition_in line)
      ≡ filter_map (given_for line) (layer_images layer.symmetry others)
  gives_are line =
      ap (λ (o : Option (List ℕ)). filter_map (given_for line) (claimed_images (unwrap_or o []) others)) is.symmetry ∙ ap (filter_map (given_for line)) agrees.0

  abbrev pub GivesOne : LayerTransition → ℕ → Type 0
  GivesOne line s = Gives layer.symmetry layer.vars line centre others s

  abbrev pub IsLine : LayerTransition → Type 0
  IsLine line = IsTransition layer.n_states (neighbour_count layer.neighborhood) layer.vars line

  pub gave : (line : LayerTransition) → IsLine line → (s : ℕ) → Contains (claimed_states_given table centre others (transition_in line)) s → GivesOne line s
  gave line t s c =
      let u = unmapped (given_for line) (layer_images layer.symmetry others) s (subst (λ (xs : List ℕ). Contains xs s) (gives_are line) c) in
      let long : length u.0 ≡ length others = image_length layer.symmetry others u.0 agrees u.1 in
      let inputs : length line.inputs ≡ neighbour_count layer.neighborhood + 1 = t.count in
      record {
        image = u.0;
        is_image = u.1;
        gives = given_is_choice layer.vars table.variables is.variables (base layer.vars table.variables is.variables)
            (is_base layer.vars table.variables is.variables layer.n_states layer.sound.variables) line (centre ∷ u.0) s
            (omega (arith, long, inputs, count)) t.bound u.2;
      }

  pub gets : (line : LayerTransition) → IsLine line → (s : ℕ) → GivesOne line s → Contains (claimed_states_given table centre others (transition_in line)) s
  gets line t s g =
      subst (λ (xs : List ℕ). Contains xs s) (sym (gives_are line))
      (mapped (given_for line) (layer_images layer.symmetry others) g.image s g.is_image
      (choice_is_given layer.vars table.variables is.variables layer.n_states line (centre ∷ g.image) s t.inputs t.bound g.gives))

  abbrev Silent : LayerTransition → Type 0
  Silent line = GivesNothing layer.symmetry layer.vars centre others line

  abbrev Decide : List LayerTransition → LayerAnswer → Type 0
  Decide lines a = Decides layer.symmetry layer.vars centre others lines a

  behind : (line : LayerTransition) (lines : List LayerTransition) (a : LayerAnswer) → Silent line → Decide lines a → Decide (line ∷ lines) a
  behind line lines a silent (inl f) = inl (record {
    before = line ∷ f.before;
    line = f.line;
    after = f.after;
    split = ap (λ (t : List LayerTransition). line ∷ t) f.split;
    silent = All-cons Silent line f.before silent f.silent;
    answers = f.answers;
  })
  behind line lines a silent (inr n) = inr (All-cons Silent line lines silent n.0, n.1)

  at_first : (line : LayerTransition) (lines : List LayerTransition) (a : LayerAnswer) → LineAnswers layer.symmetry layer.vars centre others line a
      → Decide (line ∷ lines) a
  at_first line lines a h = inl (record { before = []; line = line; after = lines; split = refl; silent = All-nil Silent; answers = h })

  decides : (lines : List LayerTransition) → All IsLine lines → Decide lines (answer_out (claimed_decision table centre others (map transition_in lines)))
  decides [] all = inr (All-nil Silent, refl)
  decides (line ∷ lines) all = by (claimed_states_given table centre others (transition_in line)) refl (decides lines (All-tail IsLine line lines all))
    where
      t : IsLine line
      t = All-head IsLine line lines all

      by : (found : List ℕ) → claimed_states_given table centre others (transition_in line) ≡ found
          → Decide lines (answer_out (claimed_decision table centre others (map transition_in lines)))
          → Decide (line ∷ lines) (answer_out (elim found [
            | [] ↦ claimed_decision table centre others (map transition_in lines)
            | s ∷ states ↦ cond (list_all (λ r. r == s) states) (becomes s) (ambiguous line.line)
          ]))
      by [] e below = behind line lines _ (λ s g. in_none s (subst (λ (xs : List ℕ). Contains xs s) e (gets line t s g))) below
      by (s ∷ states) e below =
          let first_given : GivesOne line s = gave line t s (subst (λ (xs : List ℕ). Contains xs s) (sym e) (in_head s states)) in
          elim (cases_Bool (list_all (λ r. r == s) states)) [
            | inl h ↦ subst (λ v. Decide (line ∷ lines) (answer_out (cond v (becomes s) (ambiguous line.line)))) (sym h)
                (at_first line lines (Becomes s) (
                  first_given,
                  λ r g. elim (in_cases s states r
                      (subst (λ (xs : List ℕ). Contains xs r) e (gets line t r g))) [ inl k ↦ sym k | inr k ↦ all_same s states h r k ],
                ))
            | inr h ↦
                let r = another s states h in
                subst (λ v. Decide (line ∷ lines) (answer_out (cond v (becomes s) (ambiguous line.line)))) (sym h)
                (at_first line lines (Ambiguous line.line)
                (refl, s, r.0, r.2, first_given, gave line t r.0 (subst (λ (xs : List ℕ). Contains xs r.0) (sym e) (in_tail s states r.0 r.1))))
          ]

  decides_all : Decide layer.lines (answer_out (claimed_decision table centre others table.transitions))
  decides_all = subst (λ (ts : List Transition). Decide layer.lines (answer_out (claimed_decision table centre others ts))) (sym is.transitions)
      (decides layer.lines layer.sound.transitions)

  alike : (a : LayerAnswer) → Decide layer.lines a ↔ (claimed_decision table centre others table.transitions ≡ answer_in a)
  alike a = (
    λ h. sym (out_in (claimed_decision table centre others table.transitions))
        ∙ ap answer_in (one_law layer.symmetry layer.vars centre others layer.lines
        (answer_out (claimed_decision table centre others table.transitions)) a decides_all h),
    λ e. subst (Decide layer.lines) (ap answer_out e ∙ in_out a) decides_all,
  )

pub tables_decide : TablesDecide
tables_decide layer table is centre others count a = alike layer table is centre others count a
