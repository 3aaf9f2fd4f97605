-- Several joins, one after the other: what holds after the first of them.
use Rattle.std.proofs.Common.{◌≡◌, ℕ, suc, ◌+◌, ◌≤◌, ◌<◌, ◌⊎◌, inl, inr, List, [], ◌∷◌, length, set, length-set, get_or, map, Result, Err, OnOk, OnErr, refl, sym, ◌∙◌, ap, subst, arith, IfErr, IsErrAnd, get_or-set_same, get_or-set_other}
use Rattle.std.specs.List.{All}
use Rattle.std.proofs.lemmas.Bool.Decides.{eqb_tells}
use Rattle.std.proofs.lemmas.List.{get_or_default, get_or-map, length-map}
use Rattle.life_base.specs.declared.kind.Kind.{Kind}
use Rattle.life_base.specs.declared.kind.Kind.TheVariants.{Memory}
use Rattle.life_base.specs.Tree.{Tree, quad}
use Rattle.life_quad.specs.declared.id.Id.{Id}
use Rattle.life_quad.specs.declared.moves.Quarters.{Quarters}
use Rattle.life_quad.specs.Keeping.{KeepsSquares, AddsOnly, IsShortageKind}
use Rattle.life_quad.specs.Moves.{CanJoin, quad_of, quads_of}
use Rattle.life_quad.specs.Refused.{SomeOf}
use Rattle.life_quad.proofs.MakingLemmas.{Joins}
use Rattle.life_quad.proofs.KeepingLemmas.{keeps-same, keeps-then, still, adds-none, adds-then}
use Rattle.life_base.proofs.Results.{error_is}

-- the quarters in a place beyond all of them
abbrev pub no_quarters : Quarters
no_quarters = record { nw = record { 0 = 0 }; ne = record { 0 = 0 }; sw = record { 0 = 0 }; se = record { 0 = 0 } }

-- two lists whose places have the same images
pub map_same_at : {X Y Z : Type 0} (f : X → Z) (g : Y → Z) (xs : List X) (ys : List Y) → length xs ≡ length ys
    → ((i : ℕ) (x : X) (y : Y) → i < length xs → f (get_or xs i x) ≡ g (get_or ys i y)) → map f xs ≡ map g ys
map_same_at f g [] [] e h = refl
map_same_at f g [] (y ∷ ys) e h = absurd (omega (arith, e))
map_same_at f g (x ∷ xs) [] e h = absurd (omega (arith, e))
map_same_at f g (x ∷ xs) (y ∷ ys) e h =
    let here : f x ≡ g y = h 0 x y (omega arith) in
    let rest = map_same_at f g xs ys (omega (arith, e)) (λ i a b lt. h (suc i) a b (omega (arith, lt))) in
    λ i. here i ∷ rest i

-- one of the squares has a property
pub some_of : (content : Id → Tree) (quarters : List Quarters) {i : ℕ} {q : Quarters} → i < length quarters → q ≡ get_or quarters i q → (P : Tree → Type 0)
    → P (quad_of content q) → SomeOf P (quads_of content quarters)
some_of content quarters {i} {q} lt is P p =
    let f : Quarters → Tree = quad_of content in
    (f q, (i, omega (arith, lt, length-map quarters f), get_or-map f quarters i q (f q) lt ∙ ap f (sym is)), p)

-- Of several times four quarters the first i are joined: each of the Ids before place i is that of its square. A later one is too, or it is one of
-- those that are still to come (`Later`).
pub record AreJoined {S : Type 0} (knows : S → Id → Type 0) (content : S → Id → Tree) (stored : S → List Tree) (most : S → ℕ) (Later : Id → Type 0)
    (old now : S) (quarters : List Quarters) (ids : List Id) (i : ℕ) : Type 0 where
  pub len : length ids ≡ length quarters
  pub each : (j : ℕ) (q : Quarters) (d : Id) → j < length quarters
      → (knows now (get_or ids j d) × (content now (get_or ids j d) ≡ quad_of (content old) (get_or quarters j q))) ⊎ ((i ≤ j) × Later (get_or ids j d))
  pub keeps : KeepsSquares knows content stored most old now
  pub adds : AddsOnly stored (λ P. SomeOf P (quads_of (content old) quarters)) old now

module _ {S : Type 0} {knows : S → Id → Type 0} {content : S → Id → Tree} {stored : S → List Tree} {most : S → ℕ} where
  -- quarters can be joined in a later store too
  pub can_join : {old now : S} {q : Quarters} → KeepsSquares knows content stored most old now → CanJoin (knows old) (content old) q
      → CanJoin (knows now) (content now) q
  can_join keeps can =
      let nw = keeps.contents _ can.nw in
      let ne = keeps.contents _ can.ne in
      let sw = keeps.contents _ can.sw in
      let se = keeps.contents _ can.se in
      record {
        nw = nw.0;
        ne = ne.0;
        sw = sw.0;
        se = se.0;
        ne_level = grind arith;
        sw_level = grind arith;
        se_level = grind arith;
        space = grind arith;
      }

  -- and their square is the same
  pub same_quad : {old now : S} {q : Quarters} → KeepsSquares knows content stored most old now → CanJoin (knows old) (content old) q
      → quad_of (content now) q ≡ quad_of (content old) q
  same_quad keeps can =
      let nw = (keeps.contents _ can.nw).1 in
      let ne = (keeps.contents _ can.ne).1 in
      let sw = (keeps.contents _ can.sw).1 in
      let se = (keeps.contents _ can.se).1 in
      λ i. quad (nw i) (ne i) (sw i) (se i)

  module _ {Later : Id → Type 0} {old now : S} {quarters : List Quarters} {ids : List Id} {i : ℕ} where
    -- one more is joined
    pub joined-next : {new : S} {id : Id} {q : Quarters} → AreJoined knows content stored most Later old now quarters ids i → i < length quarters
        → q ≡ get_or quarters i q → CanJoin (knows old) (content old) q → knows new id → content new id ≡ quad_of (content now) q
        → KeepsSquares knows content stored most now new → AddsOnly stored (λ P. P (quad_of (content now) q)) now new
        → AreJoined knows content stored most Later old new quarters (set ids i id) (i + 1)
    joined-next {new} {id} {q} before lt is can known square keeps adds = let same = same_quad before.keeps can in record {
      len = length-set ids i id ∙ before.len;
      each = λ j e d below. elim (eqb_tells j i) [
        | inl here ↦
            let at : get_or (set ids i id) j d ≡ id = ap (λ n. get_or (set ids i id) n d) here.1 ∙ get_or-set_same ids i id d (omega (arith, lt, before.len)) in
            let from : q ≡ get_or quarters j e = is ∙ get_or_default quarters i q e lt ∙ ap (λ n. get_or quarters n e) (sym here.1) in
            inl (subst (λ z. knows new z × (content new z ≡ quad_of (content old) (get_or quarters j e))) (sym at)
            (known, square ∙ same ∙ ap (quad_of (content old)) from))
        | inr other ↦
            let at : get_or (set ids i id) j d ≡ get_or ids j d = get_or-set_other ids i j id d other.1 in
            elim (before.each j e d below) [
              | inl joined ↦ inl (subst (λ z. knows new z × (content new z ≡ quad_of (content old) (get_or quarters j e))) (sym at)
                  (still keeps joined.0 joined.1))
              | inr later ↦ inr (omega (arith, later.0, other.1), subst Later (sym at) later.1)
            ]
      ];
      keeps = keeps-then before.keeps keeps;
      adds = adds-then _ before.adds adds (λ P a. a) (λ P p. some_of (content old) quarters lt is P (subst P same p));
    }

    -- the next one is no later one
    pub joined-skip : AreJoined knows content stored most Later old now quarters ids i
        → ((d : Id) → ¬ Later (get_or ids i d)) → AreJoined knows content stored most Later old now quarters ids (i + 1)
    joined-skip before there = record {
      len = before.len;
      each = λ j e d below. elim (before.each j e d below) [
        | inl joined ↦ inl joined
        | inr later ↦ elim (eqb_tells j i) [
          | inl here ↦ absurd (there d (subst (λ n. Later (get_or ids n d)) here.1 later.1))
          | inr other ↦ inr (omega (arith, later.0, other.1), later.1)
        ]
      ];
      keeps = before.keeps;
      adds = before.adds;
    }

    -- all are joined
    pub joined-all : AreJoined knows content stored most Later old now quarters ids i → length quarters ≤ i
        → All (knows now) ids × (map (content now) ids ≡ quads_of (content old) quarters)
    joined-all before over = (
      λ j d lt. (at j (record { nw = d; ne = d; sw = d; se = d }) d (omega (arith, lt, before.len))).0,
      map_same_at (content now) (quad_of (content old)) ids quarters before.len (λ j d q lt. (at j q d (omega (arith, lt, before.len))).1),
    )
      where
        at : (j : ℕ) (q : Quarters) (d : Id) → j < length quarters
            → knows now (get_or ids j d) × (content now (get_or ids j d) ≡ quad_of (content old) (get_or quarters j q))
        at j q d lt = elim (before.each j q d lt) [ inl joined ↦ joined | inr later ↦ absurd (let l = later.0 in omega (arith, l, lt, over)) ]

  -- none is joined
  pub joined-none : {Later : Id → Type 0} (old : S) (quarters : List Quarters) (ids : List Id) → length ids ≡ length quarters
      → ((j : ℕ) (q : Quarters) (d : Id) → j < length quarters
      → (knows old (get_or ids j d) × (content old (get_or ids j d) ≡ quad_of (content old) (get_or quarters j q))) ⊎ Later (get_or ids j d))
      → AreJoined knows content stored most Later old old quarters ids 0
  joined-none old quarters ids len each = record {
    len = len;
    each = λ j q d lt. elim (each j q d lt) [ inl joined ↦ inl joined | inr later ↦ inr (omega arith, later) ];
    keeps = keeps-same old;
    adds = adds-none _ old;
  }

  -- the next one is refused, and this is passed on
  module _ (needs : S → Tree → Type 0) {Later : Id → Type 0} {old now new : S} {quarters : List Quarters} {ids : List Id} {i : ℕ} {q : Quarters} {e : Kind}
      {T : Type 0} where
    pub joined-refused : (others : List Id) (r : Result T Kind) → AreJoined knows content stored most Later old now quarters ids i → i < length quarters
        → q ≡ get_or quarters i q → CanJoin (knows old) (content old) q → IsErrAnd r (λ f. f ≡ e)
        → Joins knows content stored most needs now new (quad_of (content now) q) (Err e)
        → record {
          known : OnOk r (All (knows new) others);
          square : OnOk r (map (content new) others ≡ quads_of (content old) quarters);
          keeps : KeepsSquares knows content stored most old new;
          adds : AddsOnly stored (λ P. SomeOf P (quads_of (content old) quarters)) old new;
          space : r ≡ Err Memory → length (stored new) < most new;
          refusals : IfErr r (IsShortageKind (stored new) (most new));
          needed : OnErr r (SomeOf (needs new) (quads_of (content old) quarters));
        }
    joined-refused others r before lt is can reported join =
        let p = error_is r reported in
        let same = same_quad before.keeps can in
        record {
          known = rw p tt;
          square = rw p tt;
          keeps = keeps-then before.keeps join.keeps;
          adds = adds-then _ before.adds join.adds (λ P a. a) (λ P a. some_of (content old) quarters lt is P (subst P same a));
          space = λ f. join.space (ap Err (reported_memory (sym p ∙ f)));
          refusals = rw p join.refusals;
          needed = rw p
              (some_of (content old) quarters lt is (needs new)
              (subst (needs new) same (subst (λ s. needs s (quad_of (content now) q)) (sym join.unchanged) join.needed)));
        }
      where
        reported_memory : ◌≡◌ {A = Result T Kind} (Err e) (Err Memory) → e ≡ Memory
        reported_memory same = cc
