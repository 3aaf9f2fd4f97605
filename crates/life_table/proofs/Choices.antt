-- Choices of states for variables, and the states that they give to entries.
use Rattle.std.proofs.Common.{◌≡◌, ◌≢◌, ℕ, suc, ◌+◌, ◌<◌, List, [], ◌∷◌, ◌++◌, map, take, length, get_or, cond, true, false, refl, ap, sym, ◌∙◌, subst, inl, inr, arith, eq-eqb, ◌↔◌, length-take, slice_get, IfSome, IsTrue, nat_eq, get_or-take}
use Rattle.std.proofs.lemmas.Bool.Decides.{eqb_tells}
use Rattle.std.proofs.lemmas.List.{take_more, length-map, map-append}
use Rattle.life_table.specs.Meaning.{IsChoice, state_of, HasState}
use Rattle.life_table.specs.Found.{Consistent}
use Rattle.life_table.specs.Valid.{is_variable}
use Rattle.std.specs.List.{list_any}
use Rattle.std.proofs.lemmas.List.Folds.{list_any_none}
use Rattle.life_table.specs.declared.table.Var.{Var}
use Rattle.life_table.specs.declared.table.Entry.{Entry}
use Rattle.life_table.specs.declared.table.Entry.TheVariants as entries

-- two lists with an element at their ends
pub snoc_both : (us bs : List ℕ) (a b : ℕ) → length us ≡ length bs → us ++ a ∷ [] ≡ bs ++ b ∷ [] → (us ≡ bs) × (a ≡ b)
snoc_both [] [] a b n e = (refl, cc)
snoc_both [] (y ∷ bs) a b n e = absurd (omega (arith, n))
snoc_both (x ∷ us) [] a b n e = absurd (omega (arith, n))
snoc_both (x ∷ us) (y ∷ bs) a b n e =
    let heads : x ≡ y = cc in
    let tails : us ++ a ∷ [] ≡ bs ++ b ∷ [] = cc in
    let lengths : length us ≡ length bs = omega (arith, n) in
    let r = snoc_both us bs a b lengths tails in
    let rest = r.0 in
    (cc, r.1)

-- the choice that gives x to the variable i
abbrev pub changed : (ℕ → ℕ) → ℕ → ℕ → ℕ → ℕ
changed choice i x j = cond (nat_eq i j) x (choice j)

pub changed_same : (choice : ℕ → ℕ) (i x : ℕ) → changed choice i x i ≡ x
changed_same choice i x = ap (λ b. cond b x (choice i)) (eq-eqb i i refl)

pub changed_choice : (vars : List Var) (choice : ℕ → ℕ) (i x : ℕ) → IsChoice vars choice → IfSome (slice_get vars i) (λ var. HasState var x)
    → IsChoice vars (changed choice i x)
changed_choice vars choice i x h k j below = elim (eqb_tells i j) [
  | inl same ↦ subst (λ n. IfSome (slice_get vars n) (λ var. HasState var (changed choice i x n))) same.1
      (subst (λ s. IfSome (slice_get vars i) (λ var. HasState var s)) (sym (changed_same choice i x)) k)
  | inr other ↦ subst (λ b. IfSome (slice_get vars j) (λ var. HasState var (cond b x (choice j)))) (sym other.0) (h j below)
]

changed_other : (choice : ℕ → ℕ) (i x : ℕ) (e : Entry) → e ≢ entries.Var i → state_of (changed choice i x) e ≡ state_of choice e
changed_other choice i x (entries.Fixed s) h = refl
changed_other choice i x (entries.Var j) h = elim (eqb_tells i j) [
  | inl same ↦ absurd (h (ap entries.Var (sym same.1)))
  | inr other ↦ ap (λ b. cond b x (choice j)) other.0
]

changed_others : (choice : ℕ → ℕ) (i x : ℕ) (es : List Entry) → ((k : ℕ) (d : Entry) → k < length es → get_or es k d ≢ entries.Var i)
    → map (state_of (changed choice i x)) es ≡ map (state_of choice) es
changed_others choice i x [] h = refl
changed_others choice i x (e ∷ es) h =
    let head = changed_other choice i x e (h 0 e (omega arith)) in
    let tail = changed_others choice i x es (λ k d below. h (suc k) d (omega (arith, below))) in
    cc

module _ (vars : List Var) (es : List Entry) (ws : List ℕ) (same : length es ≡ length ws) where
  pub ends : (e : Entry) (x : ℕ) (c : Consistent vars (es ++ e ∷ []) (ws ++ x ∷ [])) → (map (state_of c.choice) es ≡ ws) × (state_of c.choice e ≡ x)
  ends e x c = snoc_both (map (state_of c.choice) es) ws (state_of c.choice e) x (length-map es (state_of c.choice) ∙ same)
      (sym (map-append (state_of c.choice) es (e ∷ [])) ∙ c.values)

  join : (choice : ℕ → ℕ) → IsChoice vars choice → map (state_of choice) es ≡ ws → (e : Entry) (x : ℕ) → state_of choice e ≡ x
      → Consistent vars (es ++ e ∷ []) (ws ++ x ∷ [])
  join choice is values e x h = record { choice = choice; is_choice = is; values = map-append (state_of choice) es (e ∷ []) ∙ cc }

  -- a variable that doesn't
  pub new_next : (i x : ℕ) → i < length vars → ((k : ℕ) (d : Entry) → k < length es → get_or es k d ≢ entries.Var i) → Consistent vars es ws
      → IfSome (slice_get vars i) (λ var. HasState var x) ↔ Consistent vars (es ++ entries.Var i ∷ []) (ws ++ x ∷ [])
  new_next i x there none c = (
    λ h. join (changed c.choice i x) (changed_choice vars c.choice i x c.is_choice h) (changed_others c.choice i x es none ∙ c.values) (entries.Var i) x
        (changed_same c.choice i x),
    λ e. subst (λ s. IfSome (slice_get vars i) (λ var. HasState var s)) (ends (entries.Var i) x e).1 (e.is_choice i there),
  )

-- The next of several inputs, at the place where the states so far end.
module _ (vars : List Var) (inputs : List Entry) (given : List ℕ) (short : length given < length inputs)
    (c : Consistent vars (take (length given) inputs) given) where
  same_length : length (take (length given) inputs) ≡ length given
  same_length = simp length-take (omega arith)

  within : (k : ℕ) → k < length (take (length given) inputs) → k < length given
  within k h = omega (arith, h, same_length)

  next_input : (e d : Entry) → get_or inputs (length given) d ≡ e → take (length given + 1) inputs ≡ take (length given) inputs ++ e ∷ []
  next_input e d at = take_more inputs (length given) d short ∙ ap (λ z. take (length given) inputs ++ z ∷ []) at

  moved : (e d : Entry) (x : ℕ) (P : Type 0) → get_or inputs (length given) d ≡ e →
      P ↔ Consistent vars (take (length given) inputs ++ e ∷ []) (given ++ x ∷ []) → P ↔ Consistent vars (take (length given + 1) inputs) (given ++ x ∷ [])
  moved e d x P at h = subst (λ es. P ↔ Consistent vars es (given ++ x ∷ [])) (sym (next_input e d at)) h

  pub new_input : (i x : ℕ) (d : Entry) → get_or inputs (length given) d ≡ entries.Var i → i < length vars
      → ((k : ℕ) (d : Entry) → k < length given → get_or inputs k d ≢ entries.Var i) →
      IfSome (slice_get vars i) (λ var. HasState var x) ↔ Consistent vars (take (length given + 1) inputs) (given ++ x ∷ [])
  new_input i x d at there none =
      moved (entries.Var i) d x (IfSome (slice_get vars i) (λ var. HasState var x)) at
      (new_next vars (take (length given) inputs) given same_length i x there
      (λ k f below found. none k f (within k below) (sym (get_or-take (length given) inputs k f (within k below)) ∙ found)) c)

is_other : (i : ℕ) (e : Entry) → e ≢ entries.Var i → is_variable i e ≡ false
is_other i (entries.Fixed s) h = refl
is_other i (entries.Var j) h = elim (eqb_tells i j) [
  | inl same ↦ absurd (h (ap entries.Var (sym same.1)))
  | inr other ↦ other.0
]

-- a variable that is no input isn't found among them
pub not_found : (i : ℕ) (es : List Entry) → ((k : ℕ) (d : Entry) → k < length es → get_or es k d ≢ entries.Var i) → IsTrue (list_any (is_variable i) es) → ⊥
not_found i es none found = let none_is : list_any (is_variable i) es ≡ false = list_any_none (is_variable i) es
    (λ k d below. is_other i (get_or es k d) (none k d below)) in absurd (let e : false ≡ true = sym none_is ∙ found in cc)
