-- Squares of which the same part is seen: by their quarters, and in a block.
use Rattle.std.proofs.Common.{◌≡◌, ◌⊎◌, inl, inr, ℕ, zero, suc, ◌+◌, ◌-◌, ◌*◌, ◌/◌, ◌%◌, ◌^◌, ◌<◌, ◌≤◌, Bool, true, false, ℤ, pos, neg_ℤ, ◌+ℤ◌, ◌≤ℤ◌, ◌<ℤ◌, refl, sym, ◌∙◌, ap, subst, arith, if◌then◌else◌, ◌==◌, unsigned_abs}
use Rattle.std.proofs.lemmas.Int.{ints, by_lt_z}
use Rattle.std.proofs.lemmas.Nat.{mod-pow-add}
use Rattle.std.proofs.lemmas.Bool.{cases_lt}
use Rattle.life_base.specs.Tree.{Tree, quad, depth, state_at, IsFull}
use Rattle.life_base.proofs.Basics.{double}
use Rattle.life_base.proofs.Squares.{state_nw, state_ne, state_sw, state_se}
use Rattle.life_quad.specs.declared.id.Id.{Id}
use Rattle.life_quad.specs.declared.moves.Quarters.{Quarters}
use Rattle.life_pieces.specs.Pieces.{IsPiece, step_ahead}
use Rattle.life_pieces.proofs.RootLemmas.{cells-of_piece, piece-of_cells}
use Rattle.life_slide.specs.Margins.{IsSeenAs}
use Rattle.life_slide.specs.Parts.{AreAlike, AreFirstsByFour, AreFirstsBySquare, IsLike, IsSeenOn, TableGives, first_side, key_of_quarters, second_side}
use Rattle.life_slide.specs.Pieces.{InBlock, IsBlock}
use Rattle.life_slide.specs.declared.sides.Side.{Side}
use Rattle.life_slide.specs.declared.sides.Side.TheVariants.{All, From, Until, Nothing}
use Rattle.life_slide.specs.declared.table.Key.{Key}
use Rattle.life_slide.specs.declared.table.Table.{Table}
use Rattle.life_slide.proofs.SeenLemmas.{square-agrees}
use Rattle.life_slide.proofs.SlideLemmas.{rest-less}

-- ---- one side

-- the offset in a square by its highest digit and that in a half
digit-rest : (later : Bool) (offset k : ℕ) → later ≡ (offset / 2 ^ k % 2 == 1) → offset % 2 ^ suc k ≡ (if later then 2 ^ k else 0) + offset % 2 ^ k
digit-rest later offset k e =
    by (offset / 2 ^ k % 2) (omega arith) (mod-pow-add offset 1 k) ∙ ap (λ b. (if b then 2 ^ k else 0) + offset % 2 ^ k) (sym e)
  where
    by : (d : ℕ) → d < 2 → offset % 2 ^ (1 + k) ≡ d * 2 ^ k + offset % 2 ^ k → offset % 2 ^ suc k ≡ (if d == 1 then 2 ^ k else 0) + offset % 2 ^ k
    by zero l e = let same : offset % 2 ^ suc k ≡ offset % 2 ^ (1 + k) = ap (λ n. offset % 2 ^ n) (omega arith) in omega (arith, e, same)
    by (suc zero) l e = let same : offset % 2 ^ suc k ≡ offset % 2 ^ (1 + k) = ap (λ n. offset % 2 ^ n) (omega arith) in omega (arith, e, same)
    by (suc (suc d)) l e = absurd (omega (arith, l))

-- what is seen in a half
seen-first : (side : Side) (later : Bool) (whole rest half i : ℕ) → whole ≡ (if later then half else 0) + rest → i < half → IsSeenOn side whole i
    → IsSeenOn (first_side side later) rest i
seen-first All later whole rest half i e l s = refl
seen-first From true whole rest half i e l s = absurd (omega (arith, e, l, s))
seen-first From false whole rest half i e l s = omega (arith, e, s)
seen-first Until true whole rest half i e l s = refl
seen-first Until false whole rest half i e l s = omega (arith, e, s)
seen-first Nothing later whole rest half i e l s = s

seen-second : (side : Side) (later : Bool) (whole rest half i : ℕ) → whole ≡ (if later then half else 0) + rest → rest < half → IsSeenOn side whole (half + i)
    → IsSeenOn (second_side side later) rest i
seen-second All later whole rest half i e l s = refl
seen-second From true whole rest half i e l s = omega (arith, e, s)
seen-second From false whole rest half i e l s = refl
seen-second Until true whole rest half i e l s = omega (arith, e, s)
seen-second Until false whole rest half i e l s = absurd (omega (arith, e, l, s))
seen-second Nothing later whole rest half i e l s = omega (arith, s)

-- ---- two squares

pub alike-self : (columns rows : ℕ) (east south : Side) (t u : Tree) → t ≡ u → AreAlike columns rows east south t u
alike-self columns rows east south t u e = record { level = ap depth (sym e); same = λ i j li lj si sj. ap (λ s. state_at s i j) e }

pub alike-back : (columns rows : ℕ) (east south : Side) (t u : Tree) → AreAlike columns rows east south t u → AreAlike columns rows east south u t
alike-back columns rows east south t u a =
    record {
      level = sym a.level;
      same = λ i j li lj si sj.
          sym (subst (λ n. i < 2 ^ n → j < 2 ^ n → IsSeenOn east (columns % 2 ^ n) i → IsSeenOn south (rows % 2 ^ n) j → state_at t i j ≡ state_at u i j)
          (sym a.level) (a.same i j) li lj si sj);
    }

pub alike-then : (columns rows : ℕ) (east south : Side) (t u v : Tree) → AreAlike columns rows east south t u → AreAlike columns rows east south u v
    → AreAlike columns rows east south t v
alike-then columns rows east south t u v a b =
    record {
      level = b.level ∙ a.level;
      same = λ i j li lj si sj.
          a.same i j li lj si sj
          ∙ subst (λ n. i < 2 ^ n → j < 2 ^ n → IsSeenOn east (columns % 2 ^ n) i → IsSeenOn south (rows % 2 ^ n) j → state_at u i j ≡ state_at v i j)
          a.level (b.same i j) li lj si sj;
    }

-- ---- by quarters

module _ (columns rows : ℕ) (east south : Side) (h v : Bool) (a b c d p q r s : Tree) (full : IsFull (quad a b c d)) (whole : IsFull (quad p q r s))
    (column : h ≡ (columns / 2 ^ depth a % 2 == 1)) (row : v ≡ (rows / 2 ^ depth a % 2 == 1))
    (nw : AreAlike columns rows (first_side east h) (first_side south v) a p) (ne : AreAlike columns rows (second_side east h) (first_side south v) b q)
    (sw : AreAlike columns rows (first_side east h) (second_side south v) c r)
    (se : AreAlike columns rows (second_side east h) (second_side south v) d s) where
  n : ℕ
  n = depth a

  ec : columns % 2 ^ suc (depth a) ≡ (if h then 2 ^ depth a else 0) + columns % 2 ^ depth a
  ec = digit-rest h columns (depth a) column

  er : rows % 2 ^ suc (depth a) ≡ (if v then 2 ^ depth a else 0) + rows % 2 ^ depth a
  er = digit-rest v rows (depth a) row

  -- what a quarter of this level says of its cells
  at : (e f : Side) (t u : Tree) → depth t ≡ depth a → AreAlike columns rows e f t u → (i j : ℕ) → i < 2 ^ depth a → j < 2 ^ depth a
      → IsSeenOn e (columns % 2 ^ depth a) i → IsSeenOn f (rows % 2 ^ depth a) j → state_at t i j ≡ state_at u i j
  at e f t u level like i j =
      subst (λ k. i < 2 ^ k → j < 2 ^ k → IsSeenOn e (columns % 2 ^ k) i → IsSeenOn f (rows % 2 ^ k) j → state_at t i j ≡ state_at u i j) level (like.same i j)

  pw : 2 ^ depth p ≡ 2 ^ depth a
  pw = ap (λ k. 2 ^ k) nw.level

  each : (i j : ℕ) → i < 2 ^ suc (depth a) → j < 2 ^ suc (depth a) → IsSeenOn east (columns % 2 ^ suc (depth a)) i
      → IsSeenOn south (rows % 2 ^ suc (depth a)) j → (i < 2 ^ depth a) ⊎ (2 ^ depth a ≤ i) → (j < 2 ^ depth a) ⊎ (2 ^ depth a ≤ j)
      → state_at (quad a b c d) i j ≡ state_at (quad p q r s) i j
  each i j li lj si sj (inl ki) (inl kj) =
      state_nw a b c d full i j ki kj
      ∙ at _ _ a p refl nw i j ki kj (seen-first east h _ _ _ i ec ki si) (seen-first south v _ _ _ j er kj sj)
      ∙ sym (state_nw p q r s whole i j (omega (arith, ki, pw)) (omega (arith, kj, pw)))
  each i j li lj si sj (inr ki) (inl kj) =
      let m = i - 2 ^ depth a in
      let d2 = double (depth a) in
      let is : i ≡ 2 ^ depth a + m = omega (arith, ki) in
      let lm : m < 2 ^ depth a = omega (arith, li, ki, d2) in
      let sb : 2 ^ depth b ≡ 2 ^ depth a = ap (λ k. 2 ^ k) full.4 in
      let sq : 2 ^ depth q ≡ 2 ^ depth p = ap (λ k. 2 ^ k) whole.4 in
      state_ne a b c d full i m j is (omega (arith, kj, sb))
      ∙ at _ _ b q full.4 ne m j lm kj
      (seen-second east h _ _ _ m ec (rest-less columns (depth a)) (subst (IsSeenOn east (columns % 2 ^ suc (depth a))) is si))
      (seen-first south v _ _ _ j er kj sj)
      ∙ sym (state_ne p q r s whole i m j (omega (arith, is, pw)) (omega (arith, kj, sq, pw)))
  each i j li lj si sj (inl ki) (inr kj) =
      let m = j - 2 ^ depth a in
      let d2 = double (depth a) in
      let is : j ≡ 2 ^ depth a + m = omega (arith, kj) in
      let lm : m < 2 ^ depth a = omega (arith, lj, kj, d2) in
      let sc : 2 ^ depth c ≡ 2 ^ depth a = ap (λ k. 2 ^ k) full.5 in
      let sr : 2 ^ depth r ≡ 2 ^ depth p = ap (λ k. 2 ^ k) whole.5 in
      state_sw a b c d full i j m is (omega (arith, ki, sc))
      ∙ at _ _ c r full.5 sw i m ki lm (seen-first east h _ _ _ i ec ki si)
      (seen-second south v _ _ _ m er (rest-less rows (depth a)) (subst (IsSeenOn south (rows % 2 ^ suc (depth a))) is sj))
      ∙ sym (state_sw p q r s whole i j m (omega (arith, is, pw)) (omega (arith, ki, sr, pw)))
  each i j li lj si sj (inr ki) (inr kj) =
      let m = i - 2 ^ depth a in
      let o = j - 2 ^ depth a in
      let d2 = double (depth a) in
      let is : i ≡ 2 ^ depth a + m = omega (arith, ki) in
      let js : j ≡ 2 ^ depth a + o = omega (arith, kj) in
      state_se a b c d full i m j o is js
      ∙ at _ _ d s full.6 se m o (omega (arith, li, ki, d2)) (omega (arith, lj, kj, d2))
      (seen-second east h _ _ _ m ec (rest-less columns (depth a)) (subst (IsSeenOn east (columns % 2 ^ suc (depth a))) is si))
      (seen-second south v _ _ _ o er (rest-less rows (depth a)) (subst (IsSeenOn south (rows % 2 ^ suc (depth a))) js sj))
      ∙ sym (state_se p q r s whole i m j o (omega (arith, is, pw)) (omega (arith, js, pw)))

  pub alike-joined : AreAlike columns rows east south (quad a b c d) (quad p q r s)
  alike-joined =
      record {
        level = ap suc nw.level;
        same = λ i j li lj si sj. each i j li lj si sj (cases_lt i (2 ^ depth a)) (cases_lt j (2 ^ depth a));
      }

-- ---- a block

-- a number from the place to a column or row
ahead-by : (x u : ℤ) → x ≤ℤ u → (n : ℕ) × (u ≡ x +ℤ pos n)
ahead-by x u l = (unsigned_abs (u +ℤ neg_ℤ x), grind (arith, ints, l))

-- the plane of a square that begins at a place
abbrev plane_of : Tree → ℤ → ℤ → ℤ → ℤ → ℕ
plane_of t x y u v = state_at t (unsigned_abs (u +ℤ neg_ℤ x)) (unsigned_abs (v +ℤ neg_ℤ y))

back-by : (x : ℤ) (n : ℕ) → unsigned_abs ((x +ℤ pos n) +ℤ neg_ℤ x) ≡ n
back-by x n = let e : (x +ℤ pos n) +ℤ neg_ℤ x ≡ pos n = omega (arith, ints) in ap unsigned_abs e

plane-piece : (t : Tree) (x y : ℤ) → IsFull t → IsPiece (plane_of t x y) x y t
plane-piece t x y full = piece-of_cells (plane_of t x y) t x y full (λ i j li lj. λ z. state_at t (sym (back-by x i) z) (sym (back-by y j) z))

-- the cell of two squares that are alike
module _ (f g : ℤ → ℤ → ℕ) (k columns rows : ℕ) (east south : Side) (t u : Tree) (level : depth t ≡ k) (full : IsFull t) (whole : IsFull u) (x y : ℤ)
    (p : IsPiece f x y t) (q : IsPiece g x y u) (like : AreAlike columns rows east south t u) where
  cell-alike : (i j : ℕ) (a b : ℤ) → a ≡ x +ℤ pos i → b ≡ y +ℤ pos j → i < 2 ^ k → j < 2 ^ k → IsSeenOn east (columns % 2 ^ k) i
      → IsSeenOn south (rows % 2 ^ k) j → f a b ≡ g a b
  cell-alike i j a b ea eb li lj si sj =
      let d : 2 ^ depth t ≡ 2 ^ k = ap (λ n. 2 ^ n) level in
      let e : 2 ^ depth u ≡ 2 ^ k = ap (λ n. 2 ^ n) (like.level ∙ level) in
      (λ z. f (ea z) (eb z))
      ∙ sym (cells-of_piece f t x y full p i j (omega (arith, li, d)) (omega (arith, lj, d)))
      ∙ subst (λ n. i < 2 ^ n → j < 2 ^ n → IsSeenOn east (columns % 2 ^ n) i → IsSeenOn south (rows % 2 ^ n) j → state_at t i j ≡ state_at u i j)
      level (like.same i j) li lj si sj
      ∙ cells-of_piece g u x y whole q i j (omega (arith, li, e)) (omega (arith, lj, e))
      ∙ (λ z. g (sym ea z) (sym eb z))

module _ (content : Id → Tree) (cells : ℤ → ℤ → ℕ) (columns rows k : ℕ) (x y : ℤ) (q r : Quarters)
    (full : InBlock (λ id. IsFull (content id) × (depth (content id) ≡ k)) q) (whole : InBlock (λ id. IsFull (content id) × (depth (content id) ≡ k)) r)
    (h : IsBlock content cells (2 ^ k) x y q) (nw : AreAlike columns rows From From (content q.nw) (content r.nw))
    (ne : AreAlike columns rows Until From (content q.ne) (content r.ne)) (sw : AreAlike columns rows From Until (content q.sw) (content r.sw))
    (se : AreAlike columns rows Until Until (content q.se) (content r.se)) where
  joined : Tree
  joined = quad (content r.nw) (content r.ne) (content r.sw) (content r.se)

  joined-full : IsFull joined
  unfolding joined
  joined-full = (
    whole.nw.0,
    whole.ne.0,
    whole.sw.0,
    whole.se.0,
    whole.ne.1 ∙ sym whole.nw.1,
    whole.sw.1 ∙ sym whole.nw.1,
    whole.se.1 ∙ sym whole.nw.1,
  )

  other : ℤ → ℤ → ℕ
  other = plane_of joined x y

  are : IsBlock content other (2 ^ k) x y r
  unfolding joined other
  are =
      let p = plane-piece joined x y joined-full in
      let d : 2 ^ depth (content r.nw) ≡ 2 ^ k = ap (λ n. 2 ^ n) whole.nw.1 in
      record {
        nw = p.0;
        ne = subst (λ n. IsPiece other (step_ahead x n) y (content r.ne)) d p.1;
        sw = subst (λ n. IsPiece other x (step_ahead y n) (content r.sw)) d p.2;
        se = subst (λ n. IsPiece other (step_ahead x n) (step_ahead y n) (content r.se)) d p.3;
      }

  same-cell : (u v : ℤ) → step_ahead x (columns % 2 ^ k) ≤ℤ u → u <ℤ step_ahead (step_ahead x (columns % 2 ^ k)) (2 ^ k)
      → step_ahead y (rows % 2 ^ k) ≤ℤ v → v <ℤ step_ahead (step_ahead y (rows % 2 ^ k)) (2 ^ k) → other u v ≡ cells u v
  same-cell u v w e n s =
      let lc = rest-less columns k in
      let lr = rest-less rows k in
      sym (by_lt_z u (step_ahead x (2 ^ k))
      (λ lu. by_lt_z v (step_ahead y (2 ^ k))
      (λ lv.
      let a = ahead-by x u (omega (arith, ints, w)) in
      let b = ahead-by y v (omega (arith, ints, n)) in
      let ea = a.1 in let eb = b.1 in
      cell-alike cells other k columns rows From From _ _ full.nw.1 full.nw.0 whole.nw.0 x y h.nw are.nw nw a.0 b.0 u v ea eb
      (omega (arith, ints, lu, ea)) (omega (arith, ints, lv, eb)) (omega (arith, ints, w, ea)) (omega (arith, ints, n, eb)))
      (λ lv.
      let a = ahead-by x u (omega (arith, ints, w)) in
      let b = ahead-by (step_ahead y (2 ^ k)) v lv in
      let ea = a.1 in let eb = b.1 in
      cell-alike cells other k columns rows From Until _ _ full.sw.1 full.sw.0 whole.sw.0 x _ h.sw are.sw sw a.0 b.0 u v ea eb
      (omega (arith, ints, lu, ea)) (omega (arith, ints, s, lr, eb)) (omega (arith, ints, w, ea)) (omega (arith, ints, s, eb))))
      (λ lu. by_lt_z v (step_ahead y (2 ^ k))
      (λ lv.
      let a = ahead-by (step_ahead x (2 ^ k)) u lu in
      let b = ahead-by y v (omega (arith, ints, n)) in
      let ea = a.1 in let eb = b.1 in
      cell-alike cells other k columns rows Until From _ _ full.ne.1 full.ne.0 whole.ne.0 _ y h.ne are.ne ne a.0 b.0 u v ea eb
      (omega (arith, ints, e, lc, ea)) (omega (arith, ints, lv, eb)) (omega (arith, ints, e, ea)) (omega (arith, ints, n, eb)))
      (λ lv.
      let a = ahead-by (step_ahead x (2 ^ k)) u lu in
      let b = ahead-by (step_ahead y (2 ^ k)) v lv in
      let ea = a.1 in let eb = b.1 in
      cell-alike cells other k columns rows Until Until _ _ full.se.1 full.se.0 whole.se.0 _ _ h.se are.se se a.0 b.0 u v ea eb
      (omega (arith, ints, e, lc, ea)) (omega (arith, ints, s, lr, eb)) (omega (arith, ints, e, ea)) (omega (arith, ints, s, eb)))))

  pub seen-alike : IsSeenAs content cells columns rows k x y r
  seen-alike = record { other = other; are = are; same = square-agrees other cells k _ _ same-cell }

-- ---- tables

module _ (knows : Id → Type 0) (content : Id → Tree) (columns rows : ℕ) (old new : Table) (east south : Side) (key : Key) (id : Id)
    (put : (other : Key) (next : Id) → TableGives new other next → TableGives old other next ⊎ ((other ≡ key) × (next ≡ id))) where
  abbrev like-key : Key → Id → Type 0
  like-key k = IsLike knows content columns rows k.columns k.rows (quad (content k.nw) (content k.ne) (content k.sw) (content k.se))

  -- one more square for four
  pub first-more : (q : Quarters) → key ≡ key_of_quarters east south q → AreFirstsByFour knows content columns rows old
      → IsLike knows content columns rows east south (quad (content q.nw) (content q.ne) (content q.sw) (content q.se)) id
      → AreFirstsByFour knows content columns rows new
  first-more q is right like e s r first h = by (put (key_of_quarters e s r) first h)
    where
      by : TableGives old (key_of_quarters e s r) first ⊎ ((key_of_quarters e s r ≡ key) × (first ≡ id)) → like-key (key_of_quarters e s r) first
      by (inl there) = right e s r first there
      by (inr here) = subst (like-key (key_of_quarters e s r)) (sym here.1) (subst (λ k. like-key k id) (sym (here.0 ∙ is)) like)

  -- one more square for another one
  pub found-more : (own : Id) → key ≡ key_of_quarters east south (record { nw = own; ne = own; sw = own; se = own })
      → AreFirstsBySquare knows content columns rows old → IsLike knows content columns rows east south (content own) id
      → AreFirstsBySquare knows content columns rows new
  found-more own is right like e s q first h = by (put (one e s q) first h)
    where
      one : Side → Side → Id → Key
      one e s q = key_of_quarters e s (record { nw = q; ne = q; sw = q; se = q })

      by : TableGives old (one e s q) first ⊎ ((one e s q ≡ key) × (first ≡ id)) → IsLike knows content columns rows e s (content q) first
      by (inl there) = right e s q first there
      by (inr here) =
          subst (IsLike knows content columns rows e s (content q)) (sym here.1)
          (subst (λ (k : Key). IsLike knows content columns rows k.columns k.rows (content k.nw) id) (sym (here.0 ∙ is)) like)
