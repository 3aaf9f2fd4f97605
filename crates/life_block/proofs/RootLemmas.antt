-- A square about the middle of the plane, its pieces, and the four corners of the square one level higher.
use Rattle.std.proofs.Common.{◌≡◌, ◌≢◌, ◌⊎◌, inl, inr, ℕ, suc, ◌+◌, ◌-◌, ◌^◌, ◌<◌, ◌≤◌, false, ℤ, pos, neg_ℤ, ◌≤ℤ◌, ◌<ℤ◌, List, refl, sym, ◌∙◌, ap, subst, arith, add-one}
use Rattle.std.proofs.lemmas.Int.{ints}
use Rattle.std.proofs.lemmas.Bool.{cases_eq}
use Rattle.std.proofs.Math.Pow.{pow_pos}
use Rattle.life_base.specs.Rules.{has_digit}
use Rattle.life_base.specs.Sets.{OuterTotalistic}
use Rattle.life_base.specs.Tree.{Tree, quad, depth, blank, half_side, tree_cell, IsFull}
use Rattle.life_base.proofs.Squares.{Inside}
use Rattle.life_base.proofs.Basics.{halves}
use Rattle.life_quad.specs.Keeping.{KeepsSquares}
use Rattle.life_quad.specs.Refused.{SomePart}
use Rattle.life_quad.specs.declared.id.Id.{Id}
use Rattle.life_quad.specs.declared.moves.Quarters.{Quarters}
use Rattle.life_block.specs.declared.corner.Corner.TheVariants.{NorthWest, NorthEast, SouthWest, SouthEast}
use Rattle.life_pieces.specs.declared.grid.Four.{Four}
use Rattle.life_next.specs.Generation.{one_before, one_after, next_life}
use Rattle.life_block.specs.Needed.{HasClearEdge}
use Rattle.life_pieces.specs.Pieces.{square_from, Sixteen, IsPiece, IsOfLevel, InFour, InSixteen, AreFour, AreSixteen, step_back, step_ahead, four_of}
use Rattle.life_block.specs.Corners.{at_corner, in_middle}
use Rattle.life_pieces.proofs.NeedLemmas.{SomeOfFour, quarter-part}
use Rattle.life_pieces.proofs.PieceLemmas.{twice, IsPiece-moved, AreFour-moved, IsAt-kept, IsPiece-kept, blank-of_zero}
use Rattle.life_next.proofs.NextLemmas.{next-zero}
use Rattle.life_pieces.proofs.RootLemmas.{corner, piece-of_root, cell-outside, cells-of_root, IsAlone, alone-root}

-- the north-western corner of the square one level higher
abbrev pub outer : Tree → ℤ
outer t = neg_ℤ (pos (2 ^ depth t))

-- a square one level higher whose piece of the next states is the whole of it
pub root-next : (rule : OuterTotalistic) (t r : Tree) → has_digit rule.sets.births 0 ≡ false → 1 ≤ depth t → IsFull r → depth r ≡ depth t + 1
    → IsPiece (next_life rule (tree_cell t)) (outer t) (outer t) r → (x y : ℤ) → tree_cell r x y ≡ next_life rule (tree_cell t) x y
root-next rule t r quiet high full level piece =
    cells-of_root (next_life rule (tree_cell t)) r (outer t) full (omega arith) (ap (λ n. neg_ℤ (pos (2 ^ n))) (sym same)) piece outside
  where
    same : depth r - 1 ≡ depth t
    same = omega arith

    sides : half_side r ≡ half_side t + half_side t
    sides = ap (λ n. 2 ^ n) same ∙ sym (halves (depth t) high)

    some : 0 < half_side t
    some = pow_pos (depth t - 1)

    outside : (x y : ℤ) → (Inside (half_side r) x y → ⊥) → next_life rule (tree_cell t) x y ≡ 0
    outside x y apart = next-zero rule (tree_cell t) x y quiet (λ u v a b c d. cell-outside t u v (λ i. apart (record {
      west = omega (arith, ints, sides, some, i.west, b);
      east = omega (arith, ints, sides, some, i.east, a);
      north = omega (arith, ints, sides, some, i.north, d);
      south = omega (arith, ints, sides, some, i.south, c);
    })))

-- outside a square whose edge is clear the next states are 0
pub next-outside : (rule : OuterTotalistic) (t : Tree) → has_digit rule.sets.births 0 ≡ false → HasClearEdge t → (x y : ℤ)
    → (Inside (half_side t) x y → ⊥) → next_life rule (tree_cell t) x y ≡ 0
next-outside rule t quiet clear x y apart = next-zero rule (tree_cell t) x y quiet (λ u v a b c d. by u v a b c d (cases_eq (tree_cell t u v) 0))
  where
    by : (u v : ℤ) → one_before x ≤ℤ u → u ≤ℤ one_after x → one_before y ≤ℤ v → v ≤ℤ one_after y → (tree_cell t u v ≡ 0) ⊎ (tree_cell t u v ≢ 0)
        → tree_cell t u v ≡ 0
    by u v a b c d (inl e) = e
    by u v a b c d (inr n) =
        let i = clear u v n in
        let west = i.0 in
        let east = i.1 in
        let north = i.2 in
        let south = i.3 in
        absurd (apart (record {
          west = omega (arith, ints, west, b);
          east = omega (arith, ints, east, a);
          north = omega (arith, ints, north, d);
          south = omega (arith, ints, south, c);
        }))

-- a square whose edge is clear, with the next states of its own places
pub plane-next : (rule : OuterTotalistic) (t r : Tree) → has_digit rule.sets.births 0 ≡ false → 1 ≤ depth t → IsFull r → depth r ≡ depth t → HasClearEdge t
    → IsPiece (next_life rule (tree_cell t)) (corner t) (corner t) r → (x y : ℤ) → tree_cell r x y ≡ next_life rule (tree_cell t) x y
plane-next rule t r quiet high full level clear piece =
    cells-of_root (next_life rule (tree_cell t)) r (corner t) full (omega (arith, high, level)) (ap (λ n. neg_ℤ (pos n)) halves) piece
    (λ x y apart. next-outside rule t quiet clear x y (λ i. apart (subst (λ n. Inside n x y) halves i)))
  where
    halves : half_side t ≡ half_side r
    halves = ap (λ n. 2 ^ (n - 1)) (sym level)

-- ---- the quarters of a square in a corner of sixteen squares

-- known squares of one level: the four quarters of a square that begins in this column and row, and a blank one
pub record AreQuarters (knows : Id → Type 0) (content : Id → Tree) (cells : ℤ → ℤ → ℕ) (k : ℕ) (start : ℤ) (q : Quarters) (other : Id) : Type 0 where
  pub known_nw : IsOfLevel knows content k q.nw
  pub known_ne : IsOfLevel knows content k q.ne
  pub known_sw : IsOfLevel knows content k q.sw
  pub known_se : IsOfLevel knows content k q.se
  pub known_other : IsOfLevel knows content k other
  pub nw : IsPiece cells start start (content q.nw)
  pub ne : IsPiece cells (step_ahead start (2 ^ k)) start (content q.ne)
  pub sw : IsPiece cells start (step_ahead start (2 ^ k)) (content q.sw)
  pub se : IsPiece cells (step_ahead start (2 ^ k)) (step_ahead start (2 ^ k)) (content q.se)
  pub blank_other : content other ≡ blank k

pub AreQuarters-kept : {S : Type 0} {knows : S → Id → Type 0} {content : S → Id → Tree} {stored : S → List Tree} {most : S → ℕ} {old new : S}
    {cells : ℤ → ℤ → ℕ} {k : ℕ} {start : ℤ} {q : Quarters} {other : Id}
    → KeepsSquares knows content stored most old new → AreQuarters (knows old) (content old) cells k start q other
    → AreQuarters (knows new) (content new) cells k start q other
AreQuarters-kept keeps h =
    record {
      known_nw = IsAt-kept keeps h.known_nw;
      known_ne = IsAt-kept keeps h.known_ne;
      known_sw = IsAt-kept keeps h.known_sw;
      known_se = IsAt-kept keeps h.known_se;
      known_other = IsAt-kept keeps h.known_other;
      nw = IsPiece-kept keeps _ _ _ h.known_nw h.nw;
      ne = IsPiece-kept keeps _ _ _ h.known_ne h.ne;
      sw = IsPiece-kept keeps _ _ _ h.known_sw h.sw;
      se = IsPiece-kept keeps _ _ _ h.known_se h.se;
      blank_other = (keeps.contents _ h.known_other.known).1 ∙ h.blank_other;
    }

-- a square's quarters, and a blank one of their level
pub quarters-at : (knows : Id → Type 0) (content : Id → Tree) (t : Tree) (q : Quarters) (b : Id) (k : ℕ) → IsFull t → depth t ≡ k + 1
    → t ≡ quad (content q.nw) (content q.ne) (content q.sw) (content q.se) → knows q.nw → knows q.ne → knows q.sw → knows q.se → knows b → content b ≡ blank k
    → depth (content b) ≡ k
    → AreQuarters knows content (tree_cell t) k (corner t) q b
quarters-at knows content t q b k full level is nw ne sw se known_b blank_b level_b =
    let whole : IsFull (quad (content q.nw) (content q.ne) (content q.sw) (content q.se)) = subst IsFull is full in
    let deep : suc (depth (content q.nw)) ≡ k + 1 = ap depth (sym is) ∙ level in
    let one : depth (content q.nw) ≡ k = omega (arith, deep) in
    let e : step_ahead (corner t) (2 ^ depth (content q.nw)) ≡ step_ahead (corner t) (2 ^ k) = ap (λ n. step_ahead (corner t) (2 ^ n)) one in
    let pieces : IsPiece (tree_cell t) (corner t) (corner t) (quad (content q.nw) (content q.ne) (content q.sw) (content q.se)) = subst
    (IsPiece (tree_cell t) (corner t) (corner t)) is (piece-of_root t full (omega (arith, level))) in
    record {
      known_nw = record { known = nw; level = one };
      known_ne = record { known = ne; level = whole.4 ∙ one };
      known_sw = record { known = sw; level = whole.5 ∙ one };
      known_se = record { known = se; level = whole.6 ∙ one };
      known_other = record { known = known_b; level = level_b };
      nw = pieces.0;
      ne = IsPiece-moved _ _ _ _ _ _ e refl pieces.1;
      sw = IsPiece-moved _ _ _ _ _ _ refl e pieces.2;
      se = IsPiece-moved _ _ _ _ _ _ e e pieces.3;
      blank_other = blank_b;
    }

in-four : {T : Type 0} {P : T → Type 0} {a b c d : T} → P a → P b → P c → P d → InFour P (four_of a b c d)
in-four a b c d = record { first = a; second = b; third = c; fourth = d }

module _ {knows : Id → Type 0} {content : Id → Tree} {cells : ℤ → ℤ → ℕ} {k : ℕ} {start : ℤ} {q : Quarters} {b : Id}
    (h : AreQuarters knows content cells k start q b) where
  abbrev InAll : Sixteen → Type 0
  InAll s = InSixteen (IsOfLevel knows content k) s

  none : InFour (IsOfLevel knows content k) (four_of b b b b)
  none = in-four h.known_other h.known_other h.known_other h.known_other

  -- two squares at the western end of a row, and at the eastern end
  west-end : {a c : Id} → IsOfLevel knows content k a → IsOfLevel knows content k c → InFour (IsOfLevel knows content k) (four_of a c b b)
  west-end a c = in-four a c h.known_other h.known_other

  east-end : {a c : Id} → IsOfLevel knows content k a → IsOfLevel knows content k c → InFour (IsOfLevel knows content k) (four_of b b a c)
  east-end a c = in-four h.known_other h.known_other a c

  pub known-south_east : {s : Sixteen} → s ≡ at_corner SouthEast q b → InAll s
  known-south_east e = subst InAll (sym e) (in-four none none (east-end h.known_nw h.known_ne) (east-end h.known_sw h.known_se))

  pub known-south_west : {s : Sixteen} → s ≡ at_corner SouthWest q b → InAll s
  known-south_west e = subst InAll (sym e) (in-four none none (west-end h.known_nw h.known_ne) (west-end h.known_sw h.known_se))

  pub known-north_east : {s : Sixteen} → s ≡ at_corner NorthEast q b → InAll s
  known-north_east e = subst InAll (sym e) (in-four (east-end h.known_nw h.known_ne) (east-end h.known_sw h.known_se) none none)

  pub known-north_west : {s : Sixteen} → s ≡ at_corner NorthWest q b → InAll s
  known-north_west e = subst InAll (sym e) (in-four (west-end h.known_nw h.known_ne) (west-end h.known_sw h.known_se) none none)

module _ (knows : Id → Type 0) (content : Id → Tree) (cells : ℤ → ℤ → ℕ) (k : ℕ) (start : ℤ) (q : Quarters) (b : Id)
    (h : AreQuarters knows content cells k start q b) (alone : IsAlone cells start (2 ^ k)) where
  nothing : (x y : ℤ) → ((u v : ℤ) → x ≤ℤ u → u <ℤ step_ahead x (2 ^ k) → y ≤ℤ v → v <ℤ step_ahead y (2 ^ k) → cells u v ≡ 0) → IsPiece cells x y (content b)
  nothing x y zero_at = subst (IsPiece cells x y) (sym h.blank_other) (blank-of_zero cells k x y (record { zero_at = λ u v a b c d. zero_at u v a b c d }))

  to-west : (x y : ℤ) → step_ahead x (2 ^ k) ≤ℤ start → IsPiece cells x y (content b)
  to-west x y l = nothing x y (λ u v a e n s. alone.west u v (omega (arith, ints, l, e)))

  to-east : (x y : ℤ) → step_ahead (step_ahead start (2 ^ k)) (2 ^ k) ≤ℤ x → IsPiece cells x y (content b)
  to-east x y l = nothing x y (λ u v a e n s. alone.east u v (omega (arith, ints, l, a)))

  no-north : (x y : ℤ) → step_ahead y (2 ^ k) ≤ℤ start → AreFour content cells (2 ^ k) x y (four_of b b b b)
  no-north x y l =
      let at : (z : ℤ) → IsPiece cells z y (content b) = (λ z. nothing z y (λ u v a e n s. alone.north u v (omega (arith, ints, l, s)))) in
      record { first = at _; second = at _; third = at _; fourth = at _ }

  no-south : (x y : ℤ) → step_ahead (step_ahead start (2 ^ k)) (2 ^ k) ≤ℤ y → AreFour content cells (2 ^ k) x y (four_of b b b b)
  no-south x y l =
      let at : (z : ℤ) → IsPiece cells z y (content b) = (λ z. nothing z y (λ u v a e n s. alone.south u v (omega (arith, ints, l, n)))) in
      record { first = at _; second = at _; third = at _; fourth = at _ }

  -- two squares side by side, with nothing west or east of them
  east-row : (y : ℤ) (a c : Id) → IsPiece cells start y (content a) → IsPiece cells (step_ahead start (2 ^ k)) y (content c)
      → AreFour content cells (2 ^ k) (step_back start (2 ^ k)) y (four_of b b a c)
  east-row y a c pa pc =
      let e : start ≡ step_ahead (step_back start (2 ^ k)) (2 ^ k) = omega (arith, ints) in
      record {
        first = to-west _ y (omega (arith, ints));
        second = to-west _ y (omega (arith, ints));
        third = IsPiece-moved cells start _ y y _ e refl pa;
        fourth = IsPiece-moved cells _ _ y y _ (ap (λ z. step_ahead z (2 ^ k)) e) refl pc;
      }

  west-row : (y : ℤ) (a c : Id) → IsPiece cells start y (content a) → IsPiece cells (step_ahead start (2 ^ k)) y (content c)
      → AreFour content cells (2 ^ k) (step_ahead start (2 ^ k)) y (four_of a c b b)
  west-row y a c pa pc =
      let e : start ≡ step_back (step_ahead start (2 ^ k)) (2 ^ k) = omega (arith, ints) in
      record {
        first = IsPiece-moved cells start _ y y _ e refl pa;
        second = pc;
        third = to-east _ y (omega (arith, ints));
        fourth = to-east _ y (omega (arith, ints));
      }

  southern : start ≡ step_ahead (step_back start (2 ^ k)) (2 ^ k)
  southern = omega (arith, ints)

  northern : start ≡ step_back (step_ahead start (2 ^ k)) (2 ^ k)
  northern = omega (arith, ints)

  -- two rows with the quarters, and nothing north of them, or south
  in_south : (x : ℤ) (upper lower : Four Id) → AreFour content cells (2 ^ k) x start upper → AreFour content cells (2 ^ k) x (step_ahead start (2 ^ k)) lower
      → AreSixteen content cells (2 ^ k) x (step_back start (2 ^ k))
      (four_of (four_of b b b b) (four_of b b b b) upper lower)
  in_south x upper lower north south =
      record {
        first = no-north _ _ (omega (arith, ints));
        second = no-north _ _ (omega (arith, ints));
        third = AreFour-moved content cells southern north;
        fourth = AreFour-moved content cells (ap (λ z. step_ahead z (2 ^ k)) southern) south;
      }

  in_north : (x : ℤ) (upper lower : Four Id) → AreFour content cells (2 ^ k) x start upper → AreFour content cells (2 ^ k) x (step_ahead start (2 ^ k)) lower
      → AreSixteen content cells (2 ^ k) x (step_ahead start (2 ^ k))
      (four_of upper lower (four_of b b b b) (four_of b b b b))
  in_north x upper lower north south =
      record {
        first = AreFour-moved content cells northern north;
        second = south;
        third = no-south _ _ (omega (arith, ints));
        fourth = no-south _ _ (omega (arith, ints));
      }

  pieces-south_east : AreSixteen content cells (2 ^ k) (step_back start (2 ^ k)) (step_back start (2 ^ k)) (at_corner SouthEast q b)
  pieces-south_east = in_south _ _ _ (east-row _ _ _ h.nw h.ne) (east-row _ _ _ h.sw h.se)

  pieces-south_west : AreSixteen content cells (2 ^ k) (step_ahead start (2 ^ k)) (step_back start (2 ^ k)) (at_corner SouthWest q b)
  pieces-south_west = in_south _ _ _ (west-row _ _ _ h.nw h.ne) (west-row _ _ _ h.sw h.se)

  pieces-north_east : AreSixteen content cells (2 ^ k) (step_back start (2 ^ k)) (step_ahead start (2 ^ k)) (at_corner NorthEast q b)
  pieces-north_east = in_north _ _ _ (east-row _ _ _ h.nw h.ne) (east-row _ _ _ h.sw h.se)

  pieces-north_west : AreSixteen content cells (2 ^ k) (step_ahead start (2 ^ k)) (step_ahead start (2 ^ k)) (at_corner NorthWest q b)
  pieces-north_west = in_north _ _ _ (west-row _ _ _ h.nw h.ne) (west-row _ _ _ h.sw h.se)

  -- two squares in the middle of a row
  middle-row : (y : ℤ) (a c : Id) → IsPiece cells start y (content a) → IsPiece cells (step_ahead start (2 ^ k)) y (content c)
      → AreFour content cells (2 ^ k) start y (four_of b a c b)
  middle-row y a c pa pc =
      record { first = to-west _ y (omega (arith, ints)); second = pa; third = pc; fourth = to-east _ y (omega (arith, ints)) }

  pieces-in_middle : AreSixteen content cells (2 ^ k) start start (in_middle q b)
  pieces-in_middle =
      record {
        first = no-north _ _ (omega (arith, ints));
        second = middle-row _ _ _ h.nw h.ne;
        third = middle-row _ _ _ h.sw h.se;
        fourth = no-south _ _ (omega (arith, ints));
      }

-- ---- the square one level higher

-- a square, its quarters, and a blank square of their level
pub record IsDivided (knows : Id → Type 0) (content : Id → Tree) (t : Tree) (k : ℕ) (q : Quarters) (b : Id) : Type 0 where
  pub level : depth t ≡ k + 1
  pub quarters : AreQuarters knows content (tree_cell t) k (corner t) q b

pub IsDivided-kept : {S : Type 0} {knows : S → Id → Type 0} {content : S → Id → Tree} {stored : S → List Tree} {most : S → ℕ} {old new : S} {t : Tree} {k : ℕ}
    {q : Quarters} {b : Id}
    → KeepsSquares knows content stored most old new → IsDivided (knows old) (content old) t k q b → IsDivided (knows new) (content new) t k q b
IsDivided-kept keeps d = record { level = d.level; quarters = AreQuarters-kept keeps d.quarters }

module _ {knows : Id → Type 0} {content : Id → Tree} {t : Tree} {k : ℕ} {q : Quarters} {b : Id} (d : IsDivided knows content t k q b) where
  half : half_side t ≡ 2 ^ k
  half = let level = d.level in let e : depth t - 1 ≡ k = omega (arith, level) in ap (λ n. 2 ^ n) e

  whole : 2 ^ depth t ≡ 2 ^ k + 2 ^ k
  whole = ap (λ n. 2 ^ n) d.level ∙ twice k

  near : step_back (corner t) (2 ^ k) ≡ outer t
  near = let e = half in let f = whole in omega (arith, ints, e, f)

  middle : step_ahead (corner t) (2 ^ k) ≡ step_ahead (outer t) (2 ^ depth t)
  middle = let e = half in let f = whole in omega (arith, ints, e, f)

  alone : IsAlone (tree_cell t) (corner t) (2 ^ k)
  alone = subst (IsAlone (tree_cell t) (corner t)) half (alone-root t)

  at : {s r : Sixteen} {x y z w : ℤ} → r ≡ s → x ≡ z → y ≡ w → AreSixteen content (tree_cell t) (2 ^ k) x y s → AreSixteen content (tree_cell t) (2 ^ k) z w r
  at {s = s} {x = x} {z = z} {w = w} e ex ey p =
      subst (AreSixteen content (tree_cell t) (2 ^ k) z w) (sym e)
      (subst (λ u. AreSixteen content (tree_cell t) (2 ^ k) u w s) ex (subst (λ u. AreSixteen content (tree_cell t) (2 ^ k) x u s) ey p))

  -- the quarters amid blank squares, about each corner of the square
  pub around-north_west : {s : Sixteen} → s ≡ at_corner SouthEast q b → AreSixteen content (tree_cell t) (2 ^ k) (outer t) (outer t) s
  around-north_west e = at e near near (pieces-south_east knows content (tree_cell t) k (corner t) q b d.quarters alone)

  pub around-north_east : {s : Sixteen} → s ≡ at_corner SouthWest q b
      → AreSixteen content (tree_cell t) (2 ^ k) (step_ahead (outer t) (2 ^ depth t)) (outer t) s
  around-north_east e = at e middle near (pieces-south_west knows content (tree_cell t) k (corner t) q b d.quarters alone)

  pub around-south_west : {s : Sixteen} → s ≡ at_corner NorthEast q b
      → AreSixteen content (tree_cell t) (2 ^ k) (outer t) (step_ahead (outer t) (2 ^ depth t)) s
  around-south_west e = at e near middle (pieces-north_east knows content (tree_cell t) k (corner t) q b d.quarters alone)

  pub around-south_east : {s : Sixteen} → s ≡ at_corner NorthWest q b → AreSixteen content (tree_cell t) (2 ^ k) (step_ahead (outer t) (2 ^ depth t))
      (step_ahead (outer t) (2 ^ depth t)) s
  around-south_east e = at e middle middle (pieces-north_west knows content (tree_cell t) k (corner t) q b d.quarters alone)

  -- and about its own middle
  pub around-in_middle : {s : Sixteen} → s ≡ in_middle q b → AreSixteen content (tree_cell t) (2 ^ k) (corner t) (corner t) s
  around-in_middle e = at e refl refl (pieces-in_middle knows content (tree_cell t) k (corner t) q b d.quarters alone)

  -- a part of a square about each corner is one of the square one level higher
  pub corner-part : (P : Tree → Type 0) (f : ℤ → ℤ → ℕ) → SomeOfFour P f (suc k) (2 ^ depth t) (outer t) (outer t)
      → SomePart P (square_from f (suc (depth t)) (outer t) (outer t))
  corner-part P f s = quarter-part P f (depth t) (outer t) (outer t)
      (subst (λ n. SomeOfFour P f n (2 ^ depth t) (outer t) (outer t)) (sym (add-one k) ∙ sym d.level) s)
