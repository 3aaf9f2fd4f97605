-- What the walk that writes needs.
use Rattle.std.proofs.Common.{◌≡◌, ℕ, suc, ◌+◌, ◌-◌, ◌<◌, ◌≤◌, true, false, ◌&&◌, List, [], ◌∷◌, ◌++◌, Option, Result, Ok, Err, length, map, refl, ap, sym, ◌∙◌, subst, arith, ◌⊎◌, inl, inr, length-append, ◌==◌, Contains, All, AllPairs, Some, None, ◌≢◌, slice_get, MatchOption, IfSome, IsErrAnd, append_assoc, append-nil}
use Rattle.std.proofs.lemmas.Bool.Decides.{nat_tests}
use Rattle.std.proofs.lemmas.List.Elements.{All-push}
use Rattle.std.proofs.lemmas.List.{map-append, length-map}
use Rattle.life_base.specs.Tree.{Tree, point, quad, depth, IsFull, is_blank_tree as is_blank}
use Rattle.life_base.specs.declared.kind.Kind.{Kind}
use Rattle.life_base.specs.declared.rule.Rule.{Rule}
use Rattle.life_base.specs.declared.rule.Rule.TheVariants.{Life, Named}
use Rattle.life_quad.specs.declared.id.Id.{Id}
use Rattle.life_mc.specs.declared.line.Line.{Line}
use Rattle.life_mc.specs.declared.line.Line.TheVariants.{Leaf, Quad}
use Rattle.life_pattern.specs.Universe.{is_life, least_level}
use Rattle.life_writer.specs.Listing.{is_small, is_in, with_new, with_all, walk, place, number_of_quarter, line_of, lines_for, quad_line, rows_of, listed_squares}
use Rattle.life_writer.specs.Closed.{IsClosed}
use Rattle.life_writer.specs.Walking.{TakesNodeLine, BreaksOff, TakesOn, TakesWalk, MayWalk, Walked, BreaksIn}
use Rattle.life_pattern.proofs.Trees.{bool_cases}
use Rattle.life_writer.proofs.ListFacts.{with_all-from, with_all-append, with_new-known, with_new-fresh, place-append, place-last}
use Rattle.life_writer.proofs.Walk.{walk-level, walk-big, walked, none-closed, IsKnown, IsWalked}
use Rattle.life_writer.proofs.Keys.{place-keys, in-keys, number-place_of, skip, step, least-step, still-closed}
use Rattle.std.proofs.lemmas.Option.{slice_get_within, get_or_from_slice_get}
use Rattle.life_writer.proofs.Content.{not_small, number-blank, number-place}
use Rattle.life_pattern.proofs.Whole.{least-one}
use Rattle.life_pattern.proofs.Planes.{full-depth}
use Rattle.life_base.proofs.Basics.{true_false}

-- ---- lists that begin with another

-- the new list has more squares after those of the old one
abbrev pub Behind : List Tree → List Tree → Type 0
Behind old new = (more : List Tree) × (new ≡ old ++ more)

behind-refl : (xs : List Tree) → Behind xs xs
behind-refl xs = ([], sym (append-nil xs))

pub behind-trans : (xs ys zs : List Tree) → Behind xs ys → Behind ys zs → Behind xs zs
behind-trans xs ys zs p q = (p.0 ++ q.0, q.1 ∙ ap (λ l. l ++ q.0) p.1 ∙ append_assoc xs p.0 q.0)

behind-new : (ks : List Tree) (t : Tree) → Behind ks (with_new ks t)
behind-new ks t = elim (bool_cases (is_in ks t)) [
  | inl e ↦ rw (with_new-known ks t e) (behind-refl ks)
  | inr e ↦ rw (with_new-fresh ks t e) (t ∷ [], refl)
]

behind-all : (ks xs : List Tree) → Behind ks (with_all ks xs)
behind-all ks [] = behind-refl ks
behind-all ks (x ∷ xs) = behind-trans ks (with_new ks x) _ (behind-new ks x) (behind-all (with_new ks x) xs)

-- ---- the numbers of quarters

large : (rule : Rule) (n : ℕ) → (is_life rule ≡ true → 3 ≤ n) → 1 ≤ n → least_level rule ≤ n
large (Life sets) n high some = high refl
large (Named name) n high some = some

-- the number of a square that is in the list, or needs not be, stays
number-stays : (rule : Rule) (old new : List Tree) (q : Tree) → (is_life rule ≡ true → 3 ≤ depth q) → IsKnown (least_level rule) old q → Behind old new
    → number_of_quarter old q ≡ number_of_quarter new q
number-stays rule old new (point s) high known p = refl
number-stays rule old new (quad a b c d) high known p = elim (bool_cases (is_blank (quad a b c d))) [
  | inl e ↦ number-blank old a b c d e ∙ sym (number-blank new a b c d e)
  | inr e ↦
      number-place old a b c d e
      ∙ ap suc (sym (place-append old p.0 (quad a b c d)
      (known (not_small (least_level rule) (quad a b c d) (depth (quad a b c d)) refl (large rule _ high (omega arith)) e))))
      ∙ ap (λ l. suc (place l (quad a b c d))) (sym p.1)
      ∙ sym (number-place new a b c d e)
]

-- a new square's number is that of its place, the last one
pub number-last : (all : List Tree) (t : Tree) → 1 ≤ depth t → is_blank t ≡ false → is_in all t ≡ false → number_of_quarter (all ++ t ∷ []) t ≡ length all + 1
number-last all (point s) some shown absent = absurd (omega arith)
number-last all (quad a b c d) some shown absent =
    number-place (all ++ quad a b c d ∷ []) a b c d shown ∙ ap suc (place-last all (quad a b c d) absent) ∙ omega arith

-- ---- a square is not in the walks of its quarters

pub fresh : (m : ℕ) (all new : List Tree) (q t : Tree) → new ≡ with_all all (walk q m) → IsFull q → depth q < depth t → is_in all t ≡ false
    → is_in new t ≡ false
fresh m all new q t e full less h = elim (bool_cases (is_in new t)) [
  | inl f ↦ elim (with_all-from all (walk q m) t (subst (λ l. is_in l t ≡ true) e f)) [
    | inl g ↦ absurd (true_false _ g h)
    | inr g ↦ let d = walk-level m t (full-depth q full) g in absurd (omega (arith, d, less))
  ]
  | inr f ↦ f
]

-- ---- what is taken

prefix-more : (old new rest all : List Tree) (p : Behind old new) → all ≡ new ++ rest → all ≡ old ++ (p.0 ++ rest)
prefix-more old new rest all p e = e ∙ ap (λ l. l ++ rest) p.1 ∙ append_assoc old p.0 rest

module _ {A : Type 0} (took broke : A → A → List Line → Type 0) (rule : Rule) {a b : A} (old mid : List Tree) where
  -- a walk that breaks after a call
  pub breaks-then : {c : A} (ws far : List Tree) → TakesOn took rule a b old mid → BreaksIn took broke rule b c mid (with_all mid ws)
      → Behind (with_all mid ws) far
      → BreaksIn took broke rule a c old far
  breaks-then ws far u v q = λ start all rest e w.
      let p = behind-all mid ws in
      let more = prefix-more (with_all mid ws) far rest all q e in
      v start all (q.0 ++ rest) more (u start all (p.0 ++ (q.0 ++ rest)) (prefix-more mid (with_all mid ws) (q.0 ++ rest) all p more) w)

  -- a line after a call
  takes-line : {c : A} (new : List Tree) (t : Tree) (line : Line) → new ≡ mid ++ t ∷ [] → TakesOn took rule a b old mid
      → TakesNodeLine took b c line
      → ((all rest : List Tree) → all ≡ (mid ++ t ∷ []) ++ rest → line ≡ line_of rule all t) → TakesOn took rule a c old new
  takes-line {c = c} new t line n u v is = subst (TakesOn took rule a c old) (sym n) (λ start all rest e w.
      subst (took start c) (ap (λ r. map (line_of rule all) mid ++ r ∷ []) (is all rest e) ∙ sym (map-append (line_of rule all) mid (t ∷ [])))
      (v start (map (line_of rule all) mid) (u start all (t ∷ rest) (e ∙ append_assoc mid (t ∷ []) rest) w)))

  -- a line that breaks after a call
  breaks-line : {c : A} (far : List Tree) → TakesOn took rule a b old mid → BreaksOff took broke b c → Behind mid far
      → BreaksIn took broke rule a c old far
  breaks-line {c = c} far u v p = λ start all rest e w.
      let more = prefix-more mid far rest all p e in
      subst (broke start c) (sym (map-append (line_of rule all) mid (p.0 ++ rest)) ∙ ap (map (line_of rule all)) (sym more))
      (v start (map (line_of rule all) mid) (map (line_of rule all) (p.0 ++ rest)) (u start all (p.0 ++ rest) more w))

-- nothing is taken
pub takes-none : {A : Type 0} (took : A → A → List Line → Type 0) (rule : Rule) {a : A} (old : List Tree) → TakesOn took rule a a old old
takes-none took rule old = λ start all rest e w. w

-- ---- the number of an Id is that of its square

module _ (content : Id → Tree) (id : Id) (keys : List Id) (inj : All (λ a. content a ≡ content id → a ≡ id) keys) where
  pub number-keys : (r : Option ℕ) → AllPairs ◌≢◌ keys → 1 ≤ depth (content id) → is_blank (content id) ≡ false
      → MatchOption r (¬ Contains keys id) (λ n. slice_get keys (n - 1) ≡ Some id)
      → IfSome r (λ n. 1 ≤ n) → MatchOption r ((1 ≤ depth (content id)) × (is_blank (content id) ≡ false))
      (λ n. n ≡ number_of_quarter (map content keys) (content id))
  number-keys None once some shown at counted = (some, shown)
  number-keys (Some n) once some shown at counted =
      let p : place (map content keys) (content id) ≡ n - 1 = place-keys content id keys (n - 1) inj once at in
      let q = number-place_of (map content keys) (content id) some shown in
      omega (arith, p, q, counted)

  pub there-keys : (r : Option ℕ) → MatchOption r (¬ Contains keys id) (λ n. slice_get keys (n - 1) ≡ Some id)
      → MatchOption r (is_in (map content keys) (content id) ≡ false) (λ _. (is_small 1 (content id) ≡ true) ⊎ (is_in (map content keys) (content id) ≡ true))
  there-keys None absent = elim (bool_cases (is_in (map content keys) (content id))) [ inl h ↦ absurd (absent ((in-keys content id keys inj).0 h)) | inr h ↦ h ]
  there-keys (Some n) at = inr ((in-keys content id keys inj).1 (n - 1, slice_get_within keys (n - 1) id at, get_or_from_slice_get keys (n - 1) id id at))

  -- no square of the list is its square, so the Id is not there
  pub absent-keys : is_in (map content keys) (content id) ≡ false → ¬ Contains keys id
  absent-keys h = λ c. true_false _ ((in-keys content id keys inj).1 c) h

-- ---- the walk of a square

-- nothing is left to write for a square that is small or has a number
pub known-skip : (rule : Rule) (all : List Tree) (t : Tree) → IsClosed (least_level rule) all → (is_small 1 t ≡ true) ⊎ (is_in all t ≡ true)
    → all ≡ with_all all (walk t (least_level rule))
known-skip rule all t h (inl e) = skip all t (least_level rule) (least-one rule) h (inl (smaller (least_level rule) t (least-one rule) e))
  where
    smaller : (m : ℕ) (t : Tree) → 1 ≤ m → is_small 1 t ≡ true → is_small m t ≡ true
    smaller m t le e = grind (arith, nat_tests)
known-skip rule all t h (inr e) = skip all t (least_level rule) (least-one rule) h (inr e)

pub walk-prefix : (ks xs ys : List Tree) → Behind (with_all ks xs) (with_all ks (xs ++ ys))
walk-prefix ks xs ys = rw (with_all-append ks xs ys) (behind-all (with_all ks xs) ys)

-- What was walked up to each quarter stands at the beginning of the whole walk.
pub record Prefixes (m : ℕ) (b c d : Tree) (all1 all2 all3 far : List Tree) : Type 0 where
  pub one : Behind all1 far
  pub two : Behind (with_all all1 (walk b m)) far
  pub three : Behind (with_all all2 (walk c m)) far
  pub four : Behind (with_all all3 (walk d m)) far

pub prefixes : (m : ℕ) (t a b c d : Tree) (all all1 all2 all3 : List Tree) → is_small m t ≡ false → t ≡ quad a b c d → all1 ≡ with_all all (walk a m)
    → all2 ≡ with_all all1 (walk b m) → all3 ≡ with_all all2 (walk c m) → Prefixes m b c d all1 all2 all3 (with_all all (walk t m))
prefixes m t a b c d all all1 all2 all3 s e p1 p2 p3 =
    let s' : is_small m (quad a b c d) ≡ false = subst (λ v. is_small m v ≡ false) e s in
    let end = quad a b c d ∷ [] in
    let q : with_all all (walk t m) ≡ with_all all1 (walk b m ++ (walk c m ++ (walk d m ++ end))) =
    ap (λ v. with_all all (walk v m)) e ∙ ap (with_all all) (walk-big a b c d m s')
    ∙ with_all-append all (walk a m) (walk b m ++ (walk c m ++ (walk d m ++ end)))
    ∙ ap (λ l. with_all l (walk b m ++ (walk c m ++ (walk d m ++ end)))) (sym p1) in
    let q2 : with_all all (walk t m) ≡ with_all all2 (walk c m ++ (walk d m ++ end)) =
    q ∙ with_all-append all1 (walk b m) (walk c m ++ (walk d m ++ end)) ∙ ap (λ l. with_all l (walk c m ++ (walk d m ++ end))) (sym p2) in
    let q3 : with_all all (walk t m) ≡ with_all all3 (walk d m ++ end) =
    q2 ∙ with_all-append all2 (walk c m) (walk d m ++ end) ∙ ap (λ l. with_all l (walk d m ++ end)) (sym p3) in
    record {
      one = rw q (behind-all all1 (walk b m ++ (walk c m ++ (walk d m ++ end))));
      two = rw q (walk-prefix all1 (walk b m) (walk c m ++ (walk d m ++ end)));
      three = rw q2 (walk-prefix all2 (walk c m) (walk d m ++ end));
      four = rw q3 (walk-prefix all3 (walk d m) end);
    }

-- a quarter of a square above the level of a leaf has that level at least
pub quarter-life : (rule : Rule) (d q : ℕ) → (is_life rule ≡ true → 3 ≤ d) → (is_life rule && d == 3) ≡ false → d ≡ q + 1 → is_life rule ≡ true → 3 ≤ q
quarter-life (Life sets) d q h other e r = let k = h refl in grind (arith, nat_tests)
quarter-life (Named name) d q h other e r = absurd (true_false false r refl)

-- the line of a square whose quarters have numbers
pub quad-line : (rule : Rule) (t a b c d : Tree) (level na nb nc nd : ℕ) (all all1 all2 all3 all4 whole rest : List Tree) → t ≡ quad a b c d → IsFull t
    → (is_life rule ≡ true → 3 ≤ depth t) → (is_life rule && depth t == 3) ≡ false → level ≡ depth t → IsClosed (least_level rule) all
    → all1 ≡ with_all all (walk a (least_level rule)) → all2 ≡ with_all all1 (walk b (least_level rule)) → all3 ≡ with_all all2 (walk c (least_level rule))
    → all4 ≡ with_all all3 (walk d (least_level rule))
    → na ≡ number_of_quarter all1 a → nb ≡ number_of_quarter all2 b → nc ≡ number_of_quarter all3 c → nd ≡ number_of_quarter all4 d → whole ≡ (all4 ++ t ∷ [])
    ++ rest
    → Quad level na nb nc nd ≡ line_of rule whole t
quad-line rule t a b c d level na nb nc nd all all1 all2 all3 all4 whole rest e full high other l h p1 p2 p3 p4 ea eb ec ed w =
    let m = least_level rule in
    let le = least-one rule in
    let f = subst IsFull e full in
    let k1 = subst (λ x. IsWalked m x a) (sym p1) (walked a m all le h) in
    let k2 = subst (λ x. IsWalked m x b) (sym p2) (walked b m all1 le k1.closed) in
    let k3 = subst (λ x. IsWalked m x c) (sym p3) (walked c m all2 le k2.closed) in
    let k4 = subst (λ x. IsWalked m x d) (sym p4) (walked d m all3 le k3.closed) in
    let b4 : Behind all4 whole = (t ∷ [] ++ rest, w ∙ append_assoc all4 (t ∷ []) rest) in
    let b3 : Behind all3 whole = behind-trans all3 all4 whole (subst (Behind all3) (sym p4) (behind-all all3 (walk d m))) b4 in
    let b2 : Behind all2 whole = behind-trans all2 all3 whole (subst (Behind all2) (sym p3) (behind-all all2 (walk c m))) b3 in
    let b1 : Behind all1 whole = behind-trans all1 all2 whole (subst (Behind all1) (sym p2) (behind-all all1 (walk b m))) b2 in
    let deep : depth t ≡ depth a + 1 = ap depth e ∙ omega arith in
    let ha = quarter-life rule (depth t) (depth a) high other deep in
    let na' = ea ∙ number-stays rule all1 whole a ha k1.known b1 in
    let nb' = eb ∙ number-stays rule all2 whole b (λ r. subst (λ n. 3 ≤ n) (sym f.4) (ha r)) k2.known b2 in
    let nc' = ec ∙ number-stays rule all3 whole c (λ r. subst (λ n. 3 ≤ n) (sym f.5) (ha r)) k3.known b3 in
    let nd' = ed ∙ number-stays rule all4 whole d (λ r. subst (λ n. 3 ≤ n) (sym f.6) (ha r)) k4.known b4 in
    let high' : level ≡ depth (quad a b c d) = l ∙ ap depth e in
    let line : Quad level na nb nc nd ≡ quad_line whole (quad a b c d) = cc in
    rw other (line ∙ ap (quad_line whole) (sym e))

-- ---- the two ways to end

big : (rule : Rule) (t : Tree) (level : ℕ) → level ≡ depth t → (is_life rule ≡ true → 3 ≤ level) → (1 ≤ depth t) × (is_blank t ≡ false)
    → is_small (least_level rule) t ≡ false
big rule t level l high p = not_small (least_level rule) t (depth t) refl (large rule (depth t) (λ r. subst (λ n. 3 ≤ n) l (high r)) p.0) p.1

leaf-level : (rule : Rule) (t : Tree) (level : ℕ) → level ≡ depth t → (is_life rule && level == 3) ≡ true → depth t ≡ least_level rule
leaf-level (Life sets) t level l h = grind (arith, nat_tests)
leaf-level (Named name) t level l h = absurd (true_false false h refl)

leaf-line : (rule : Rule) (t : Tree) (level : ℕ) (line : Line) (all : List Tree) → level ≡ depth t → (is_life rule && level == 3) ≡ true
    → line ≡ Leaf (rows_of t) → line ≡ line_of rule all t
leaf-line rule t level line all l h e =
    let q : (is_life rule && depth t == 3) ≡ true = ap (λ n. is_life rule && n == 3) (sym l) ∙ h in
    rw q e

pub no-leaf : (rule : Rule) (t : Tree) (level : ℕ) → level ≡ depth t → (is_life rule && level == 3) ≡ false → (is_life rule && depth t == 3) ≡ false
no-leaf rule t level l h = ap (λ n. is_life rule && n == 3) (sym l) ∙ h

-- a square of the least level is added alone
leaf-walk : (rule : Rule) (t : Tree) (all new : List Tree) → is_small (least_level rule) t ≡ false → IsFull t → depth t ≡ least_level rule
    → is_in all t ≡ false
    → new ≡ all ++ t ∷ [] → new ≡ with_all all (walk t (least_level rule))
leaf-walk rule t all new small full l absent e = least-step t (least_level rule) all new (least-one rule) small full l (e ∙ sym (with_new-fresh all t absent))

-- a square isn't there after its quarters
pub absent-still : (m : ℕ) (t a b c d : Tree) (all all1 all2 all3 all4 : List Tree) → IsFull t → t ≡ quad a b c d → all1 ≡ with_all all (walk a m)
    → all2 ≡ with_all all1 (walk b m)
    → all3 ≡ with_all all2 (walk c m) → all4 ≡ with_all all3 (walk d m) → is_in all t ≡ false → is_in all4 t ≡ false
absent-still m t a b c d all all1 all2 all3 all4 full e p1 p2 p3 p4 absent =
    let f = subst IsFull e full in
    let deep : depth t ≡ depth a + 1 = ap depth e ∙ omega arith in
    fresh m all3 all4 d t p4 f.3 (omega (arith, deep, f.6))
    (fresh m all2 all3 c t p3 f.2 (omega (arith, deep, f.5))
    (fresh m all1 all2 b t p2 f.1 (omega (arith, deep, f.4)) (fresh m all all1 a t p1 f.0 (omega (arith, deep)) absent)))

-- it is added after them
pub quad-walk : (rule : Rule) (t a b c d : Tree) (all all1 all2 all3 all4 new : List Tree) → is_small (least_level rule) t ≡ false → t ≡ quad a b c d
    → all1 ≡ with_all all (walk a (least_level rule)) → all2 ≡ with_all all1 (walk b (least_level rule)) → all3 ≡ with_all all2 (walk c (least_level rule))
    → all4 ≡ with_all all3 (walk d (least_level rule))
    → is_in all4 t ≡ false → new ≡ all4 ++ t ∷ [] → new ≡ with_all all (walk t (least_level rule))
quad-walk rule t a b c d all all1 all2 all3 all4 new small e p1 p2 p3 p4 absent n =
    step t a b c d (least_level rule) all all1 all2 all3 all4 new small e p1 p2 p3 p4 (n ∙ sym (with_new-fresh all4 t absent))

module _ {K : Type 0} (content : K → Tree) (ids new : List K) (id : K) (added : new ≡ ids ++ id ∷ []) where
  trees-more : map content new ≡ map content ids ++ content id ∷ []
  trees-more = ap (map content) added ∙ map-append content ids (id ∷ [])

  number-pushed : (n : ℕ) → n ≡ length new → (1 ≤ depth (content id)) × (is_blank (content id) ≡ false) → is_in (map content ids) (content id) ≡ false
      → n ≡ number_of_quarter (map content new) (content id)
  number-pushed n e p absent =
      let long : length new ≡ length (map content ids) + 1 = sym (length-map new content) ∙ ap length trees-more
      ∙ length-append (map content ids) (content id ∷ []) in
      e ∙ long ∙ sym (number-last (map content ids) (content id) p.0 p.1 absent) ∙ ap (λ l. number_of_quarter l (content id)) (sym trees-more)

-- ---- what a walk leaves

-- a call broke that walked over the square of an Id
abbrev Broke : {A : Type 0} → (A → A → List Line → Type 0) → (A → A → List Line → Type 0) → (Id → Tree) → Rule → Id → A → A → List Id → Type 0
Broke took broke content rule q a b old = BreaksIn took broke rule a b (map content old) (with_all (map content old) (walk (content q) (least_level rule)))

module _ {A : Type 0} {knows : Id → Type 0} {took broke : A → A → List Line → Type 0} {content : Id → Tree} {rule : Rule} {id : Id} {a c : A}
    {old new : List Id} where
  -- an error that is passed on, once a part of the lines was taken
  refused-walk : (e : Kind) (r : Result ℕ Kind) → IsErrAnd r (λ k. k ≡ e) → Broke took broke content rule id a c old
      → Walked knows content took broke rule id a c old new r
  refused-walk e (Ok n) h p = absurd h
  refused-walk e (Err k) h p = record { wrote = tt; number = tt; part = p; numbers = tt; closed = tt }

  -- an error at the line of the square itself, before any other
  pub refused-first : (e : Kind) (r : Result ℕ Kind) → IsErrAnd r (λ k. k ≡ e) → BreaksOff took broke a c
      → Walked knows content took broke rule id a c old new r
  refused-first e r h z =
      let all = map content old in
      let ws = walk (content id) (least_level rule) in
      refused-walk e r h (breaks-line took broke rule all all (with_all all ws) (takes-none took rule all) z (behind-all all ws))

  -- an error in the walk over a quarter
  refused-behind : {b : A} {q : Id} {mid far : List Id} {e : Kind} {r : Result ℕ Kind} → TakesOn took rule a b (map content old) (map content mid)
      → Walked knows content took broke rule q b c mid far (Err e)
      → Behind (with_all (map content mid) (walk (content q) (least_level rule))) (with_all (map content old) (walk (content id) (least_level rule)))
      → IsErrAnd r (λ k. k ≡ e) → Walked knows content took broke rule id a c old new r
  refused-behind {q = q} {mid = mid} u p b h =
      refused-walk _ _ h (breaks-then took broke rule (map content old) (map content mid) (walk (content q) (least_level rule)) _ u p.part b)

  -- a square that got the next number
  walked-on : {level n : ℕ} (mid : List Id) → MayWalk knows content rule level id old → (1 ≤ depth (content id)) × (is_blank (content id) ≡ false)
      → All knows mid → is_in (map content mid) (content id) ≡ false → new ≡ mid ++ id ∷ [] → n ≡ length new → TakesWalk took content rule id a c old new
      → Walked knows content took broke rule id a c old new (Ok n)
  walked-on {n = n} mid may shown all absent added count wrote = record {
    wrote = wrote;
    number = number-pushed content mid new id added n count shown absent;
    part = tt;
    numbers = subst (All knows) (sym added) (All-push knows mid id all may.known);
    closed = still-closed (content id) (least_level rule) (map content old) (map content new) (least-one rule) may.closed wrote.walked;
  }

  -- a leaf
  pub walked-leaf : {level n : ℕ} → MayWalk knows content rule level id old → (1 ≤ depth (content id)) × (is_blank (content id) ≡ false)
      → IsFull (content id) → is_in (map content old) (content id) ≡ false → (is_life rule && level == 3) ≡ true → new ≡ old ++ id ∷ [] → n ≡ length new
      → TakesNodeLine took a c (Leaf (rows_of (content id))) → Walked knows content took broke rule id a c old new (Ok n)
  walked-leaf {level = level} may shown full absent is added count z =
      let t = content id in
      let all = map content old in
      let more = trees-more content old new id added in
      walked-on old may shown may.numbers absent added count (record {
        walked = leaf-walk rule t all (map content new) (big rule t level may.level may.high shown) full (leaf-level rule t level may.level is) absent more;
        lines =
            takes-line took broke rule all all (map content new) t (Leaf (rows_of t)) more (takes-none took rule all) z
            (λ whole rest e. leaf-line rule t level (Leaf (rows_of t)) whole may.level is refl);
      })

-- ---- a square above the leaves: its quarters are walked one after the other, and then it is added

-- a walk after another
both : {A : Type 0} {knows : Id → Type 0} {took broke : A → A → List Line → Type 0} {content : Id → Tree} {rule : Rule} {a b c : A} {q : Id}
    {mid new : List Id} {n : ℕ} (old : List Id) → Walked knows content took broke rule q b c mid new (Ok n)
    → TakesOn took rule a b (map content old) (map content mid) → TakesOn took rule a c (map content old) (map content new)
both {content = content} {rule = rule} {q = q} {mid = mid} {new = new} old v u = λ start all rest e w.
    let b = subst (Behind (map content mid)) (sym v.wrote.walked) (behind-all (map content mid) (walk (content q) (least_level rule))) in
    v.wrote.lines start all rest e (u start all (b.0 ++ rest) (prefix-more (map content mid) (map content new) rest all b e) w)

begun : {knows : Id → Type 0} {content : Id → Tree} {rule : Rule} {level : ℕ} {id nw ne sw se : Id} {old : List Id} (all1 all2 all3 : List Tree)
    → MayWalk knows content rule level id old → (1 ≤ depth (content id)) × (is_blank (content id) ≡ false)
    → content id ≡ quad (content nw) (content ne) (content sw) (content se) → all1 ≡ with_all (map content old) (walk (content nw) (least_level rule))
    → all2 ≡ with_all all1 (walk (content ne) (least_level rule)) → all3 ≡ with_all all2 (walk (content sw) (least_level rule))
    → Prefixes (least_level rule) (content ne) (content sw) (content se) all1 all2 all3 (with_all (map content old) (walk (content id) (least_level rule)))
begun {content = content} {rule = rule} {level = level} {id = id} {old = old} all1 all2 all3 may shown square =
    prefixes (least_level rule) (content id) _ _ _ _ (map content old) all1 all2 all3 (big rule (content id) level may.level may.high shown) square

module _ {A : Type 0} {knows : Id → Type 0} {took broke : A → A → List Line → Type 0} {content : Id → Tree} {rule : Rule} {level : ℕ} {id nw ne sw se : Id}
    {old : List Id} (may : MayWalk knows content rule level id old) (shown : (1 ≤ depth (content id)) × (is_blank (content id) ≡ false))
    (square : content id ≡ quad (content nw) (content ne) (content sw) (content se)) where
  module _ {a b : A} {one new : List Id} {f : Kind} {r : Result ℕ Kind} where
    pub refused-nw : Walked knows content took broke rule nw a b old one (Err f) → IsErrAnd r (λ k. k ≡ f)
        → Walked knows content took broke rule id a b old new r
    refused-nw p h = refused-behind (takes-none took rule (map content old)) p (begun _ _ _ may shown square refl refl refl).one h

    pub refused-ne : {c : A} {two : List Id} {na : ℕ} → Walked knows content took broke rule nw a b old one (Ok na)
        → Walked knows content took broke rule ne b c one two (Err f) → IsErrAnd r (λ k. k ≡ f) → Walked knows content took broke rule id a c old new r
    refused-ne u p h = refused-behind u.wrote.lines p (begun _ _ _ may shown square u.wrote.walked refl refl).two h

    pub refused-sw : {c d : A} {two three : List Id} {na nb : ℕ} → Walked knows content took broke rule nw a b old one (Ok na)
        → Walked knows content took broke rule ne b c one two (Ok nb) → Walked knows content took broke rule sw c d two three (Err f)
        → IsErrAnd r (λ k. k ≡ f) → Walked knows content took broke rule id a d old new r
    refused-sw u v p h = refused-behind (both old v u.wrote.lines) p (begun _ _ _ may shown square u.wrote.walked v.wrote.walked refl).three h

    pub refused-se : {c d e : A} {two three four : List Id} {na nb nc : ℕ} → Walked knows content took broke rule nw a b old one (Ok na)
        → Walked knows content took broke rule ne b c one two (Ok nb) → Walked knows content took broke rule sw c d two three (Ok nc)
        → Walked knows content took broke rule se d e three four (Err f) → IsErrAnd r (λ k. k ≡ f) → Walked knows content took broke rule id a e old new r
    refused-se u v w p h =
        refused-behind (both old w (both old v u.wrote.lines)) p (begun _ _ _ may shown square u.wrote.walked v.wrote.walked w.wrote.walked).four h

  module _ {a b c d e : A} {one two three four : List Id} {na nb nc nd : ℕ} (u : Walked knows content took broke rule nw a b old one (Ok na))
      (v : Walked knows content took broke rule ne b c one two (Ok nb)) (w : Walked knows content took broke rule sw c d two three (Ok nc))
      (x : Walked knows content took broke rule se d e three four (Ok nd)) where
    took-four : TakesOn took rule a e (map content old) (map content four)
    took-four = both old x (both old w (both old v u.wrote.lines))

    pub absent-own : IsFull (content id) → is_in (map content old) (content id) ≡ false → is_in (map content four) (content id) ≡ false
    absent-own full absent =
        absent-still (least_level rule) (content id) _ _ _ _ _ _ _ _ _ full square u.wrote.walked v.wrote.walked w.wrote.walked x.wrote.walked absent

    pub refused-own : {f : A} {new : List Id} (k : Kind) (r : Result ℕ Kind) → IsErrAnd r (λ m. m ≡ k)
        → BreaksOff took broke e f → Walked knows content took broke rule id a f old new r
    refused-own k r h z =
        let whole = with_all (map content old) (walk (content id) (least_level rule)) in
        refused-walk k r h (breaks-line took broke rule (map content old) (map content four) whole took-four z
        (subst (λ l. Behind l whole) (sym x.wrote.walked) (begun _ _ _ may shown square u.wrote.walked v.wrote.walked w.wrote.walked).four))

    pub walked-own : {f : A} {n : ℕ} {new : List Id} → IsFull (content id) → is_in (map content old) (content id) ≡ false
        → (is_life rule && level == 3) ≡ false → new ≡ four ++ id ∷ [] → n ≡ length new → TakesNodeLine took e f (Quad level na nb nc nd)
        → Walked knows content took broke rule id a f old new (Ok n)
    walked-own {new = new} full absent other added count z =
        let own = absent-own full absent in
        let more = trees-more content four new id added in
        walked-on four may shown x.numbers own added count (record {
          walked =
              quad-walk rule (content id) _ _ _ _ _ _ _ _ _ _ (big rule (content id) level may.level may.high shown) square
              u.wrote.walked v.wrote.walked w.wrote.walked x.wrote.walked own more;
          lines =
              takes-line took broke rule (map content old) (map content four) (map content new) (content id) (Quad level na nb nc nd) more took-four z
              (λ all rest q. quad-line rule (content id) _ _ _ _ level na nb nc nd _ _ _ _ _ all rest square full
              (λ r. subst (λ n. 3 ≤ n) may.level (may.high r)) (no-leaf rule (content id) level may.level other) may.level may.closed
              u.wrote.walked v.wrote.walked w.wrote.walked x.wrote.walked u.number v.number w.number x.number q);
        })

-- ---- a whole pattern, from no squares on

pub none-numbered : (rule : Rule) (old : List Tree) → old ≡ [] → IsClosed (least_level rule) old
none-numbered rule old e = rw e (none-closed (least_level rule))

pub root-high : (rule : Rule) (level : ℕ) → least_level rule ≤ level → is_life rule ≡ true → 3 ≤ level
root-high (Life sets) level h e = h
root-high (Named name) level h e = absurd (true_false false e refl)

module _ {A : Type 0} (took broke : A → A → List Line → Type 0) (rule : Rule) (root : Tree) (old : List Tree) (a b : A) (none : old ≡ []) (begins : took a a [])
  where
    begun-none : (all : List Tree) → took a a (map (line_of rule all) old)
    begun-none all = subst (λ l. took a a (map (line_of rule all) l)) (sym none) begins

    pub whole-consumed : (new : List Tree) → new ≡ with_all old (walk root (least_level rule)) → TakesOn took rule a b old new
        → took a b (lines_for rule (listed_squares root (least_level rule)))
    unfolding listed_squares
    whole-consumed new p w =
        let all = with_all [] (walk root (least_level rule)) in
        let n : new ≡ all = p ∙ ap (λ l. with_all l (walk root (least_level rule))) none in
        subst (λ l. took a b (map (line_of rule all) l)) n (w a all [] (sym n ∙ sym (append-nil new)) (begun-none all))

    pub whole-broken : BreaksIn took broke rule a b old (with_all old (walk root (least_level rule)))
        → broke a b (lines_for rule (listed_squares root (least_level rule)))
    unfolding listed_squares
    whole-broken w =
        let all = with_all [] (walk root (least_level rule)) in
        w a all [] (ap (λ l. with_all l (walk root (least_level rule))) (sym none) ∙ sym (append-nil (with_all old (walk root (least_level rule)))))
        (begun-none all)
