-- Squares whose cells have a property of their places, and those of next states by a law.
use Rattle.std.proofs.Common.{◌≡◌, ◌≢◌, ◌⊎◌, ℕ, zero, suc, ◌+◌, ◌-◌, ◌^◌, ◌<◌, ◌≤◌, Bool, true, false, true≢false, inl, inr, ℤ, pos, neg_ℤ, ◌≤ℤ◌, ◌<ℤ◌, List, [], ◌∷◌, Option, Some, None, Result, Ok, Err, IfOk, IfSome, refl, sym, ◌∙◌, ap, subst, arith, add-one}
use Rattle.std.specs.Result.{result_ok}
use Rattle.std.proofs.lemmas.Int.{ints, by_lt_z}
use Rattle.std.proofs.Math.Pow.{pow_pos}
use Rattle.life_base.specs.Tree.{Tree, point, quad, depth, blank, half_side, tree_cell, IsFull}
use Rattle.life_base.proofs.Squares.{Inside, is_inside, inside_facts, inside_test, cell_outside, depth-blank}
use Rattle.life_base.proofs.Basics.{double, halves}
use Rattle.life_quad.specs.Keeping.{KeepsSquares}
use Rattle.life_quad.specs.Memory.{Recalls}
use Rattle.life_quad.specs.declared.id.Id.{Id}
use Rattle.life_quad.specs.declared.memory.Slot.{Slot}
use Rattle.life_quad.proofs.KeepingLemmas.{keeps-then}
use Rattle.life_next.specs.Generation.{one_before, one_after}
use Rattle.life_sweep.specs.Generation.{states_at, zeros}
use Rattle.life_table.specs.Meaning.{Answer, Becomes}
use Rattle.life_pieces.specs.declared.grid.Three.{Three}
use Rattle.life_block.specs.Laws.{IsPieceBy, IsNextAt, IsAnswerBy, RemembersBy}
use Rattle.life_block.specs.Needed.{HasClearEdge}
use Rattle.life_pieces.specs.Pieces.{Nine, IsPiece, IsOfLevel, InThree, InNine, AreThree, AreNine, step_back, step_ahead, ids_of_nine}
use Rattle.life_pieces.proofs.PieceLemmas.{IsAt-kept, zero-of_blank}
use Rattle.life_pieces.proofs.RootLemmas.{cell-outside, corner, piece-of_root}
use Rattle.life_block.proofs.RootLemmas.{outer}

-- what a call's answer has, it has as an option
pub if-some : {T E : Type 0} (P : T → Type 0) (r : Result T E) {o : Option T} → o ≡ result_ok r → IfOk r P → IfSome o P
if-some P (Ok x) e h = subst (λ o. IfSome o P) (sym e) h
if-some P (Err x) e h = subst (λ o. IfSome o P) (sym e) tt

pub of-some : {T E : Type 0} (P : T → Type 0) (r : Result T E) {x : T} → Some x ≡ result_ok r → IfOk r P → P x
of-some P (Ok y) {x = x} e h = let same : y ≡ x = cc in subst P same h
of-some P (Err y) e h = absurd (cc)

pub both-some : {T : Type 0} {P Q R : T → Type 0} (o : Option T) → ((x : T) → P x → Q x → R x) → IfSome o P → IfSome o Q → IfSome o R
both-some (Some x) f p q = f x p q
both-some None f p q = tt

-- ---- pieces

module _ (Fits : ℤ → ℤ → ℕ → Type 0) where
  moved : (x z y w : ℤ) (t : Tree) → x ≡ z → y ≡ w → IsPieceBy Fits x y t → IsPieceBy Fits z w t
  moved x z y w t e f h = subst (λ u. IsPieceBy Fits u w t) e (subst (λ u. IsPieceBy Fits x u t) f h)

  -- four pieces are one
  joined : (x y : ℤ) (a b c d t : Tree) (k : ℕ) → depth a ≡ k → t ≡ quad a b c d → IsPieceBy Fits x y a → IsPieceBy Fits (step_ahead x (2 ^ k)) y b
      → IsPieceBy Fits x (step_ahead y (2 ^ k)) c → IsPieceBy Fits (step_ahead x (2 ^ k)) (step_ahead y (2 ^ k)) d → IsPieceBy Fits x y t
  joined x y a b c d t k level is pa pb pc pd =
      let side : 2 ^ k ≡ 2 ^ depth a = ap (λ n. 2 ^ n) (sym level) in
      let ex : step_ahead x (2 ^ k) ≡ step_ahead x (2 ^ depth a) = ap (step_ahead x) side in
      let ey : step_ahead y (2 ^ k) ≡ step_ahead y (2 ^ depth a) = ap (step_ahead y) side in
      subst (IsPieceBy Fits x y) (sym is) (pa, moved _ _ y y b ex refl pb, moved x x _ _ c refl ey pc, moved _ _ _ _ d ex ey pd)

  -- a blank piece, where each of its places may be 0
  blank-piece : (k : ℕ) (x y : ℤ) → ((u v : ℤ) → x ≤ℤ u → u <ℤ step_ahead x (2 ^ k) → y ≤ℤ v → v <ℤ step_ahead y (2 ^ k) → Fits u v 0)
      → IsPieceBy Fits x y (blank k)
  blank-piece zero x y h = h x y (omega (arith, ints)) (omega (arith, ints)) (omega (arith, ints)) (omega (arith, ints))
  blank-piece (suc k) x y h =
      let twice = double k in
      let part : (u v : ℤ) → x ≤ℤ u → step_ahead u (2 ^ k) ≤ℤ step_ahead x (2 ^ suc k) → y ≤ℤ v → step_ahead v (2 ^ k) ≤ℤ step_ahead y (2 ^ suc k)
      → IsPieceBy Fits u v (blank k) = (λ u v w e n s. blank-piece k u v (λ i j a b c d.
      h i j (omega (arith, ints, w, a)) (omega (arith, ints, e, b)) (omega (arith, ints, n, c)) (omega (arith, ints, s, d)))) in
      joined x y _ _ _ _ _ k (depth-blank k) refl
      (part x y (omega (arith, ints)) (omega (arith, ints, twice)) (omega (arith, ints)) (omega (arith, ints, twice)))
      (part (step_ahead x (2 ^ k)) y (omega (arith, ints)) (omega (arith, ints, twice)) (omega (arith, ints)) (omega (arith, ints, twice)))
      (part x (step_ahead y (2 ^ k)) (omega (arith, ints)) (omega (arith, ints, twice)) (omega (arith, ints)) (omega (arith, ints, twice)))
      (part (step_ahead x (2 ^ k)) (step_ahead y (2 ^ k)) (omega (arith, ints)) (omega (arith, ints, twice)) (omega (arith, ints)) (omega (arith, ints, twice)))

  -- the state of a place in a piece fits the place
  fits-at : (f : ℤ → ℤ → ℕ) (t : Tree) (x y : ℤ) → IsFull t → IsPiece f x y t → IsPieceBy Fits x y t
      → (u v : ℤ) → x ≤ℤ u → u <ℤ step_ahead x (2 ^ depth t) → y ≤ℤ v → v <ℤ step_ahead y (2 ^ depth t) → Fits u v (f u v)
  fits-at f (point s) x y full is fits u v w e n h =
      let eu : x ≡ u = omega (arith, ints, w, e) in
      let ev : y ≡ v = omega (arith, ints, n, h) in
      subst (λ m. Fits u v m) (is ∙ (λ i. f (eu i) (ev i))) (subst (λ z. Fits z v s) eu (subst (λ z. Fits x z s) ev fits))
  fits-at f (quad a b c d) x y full is fits u v w e n h =
      let twice = double (depth a) in
      let sb : 2 ^ depth b ≡ 2 ^ depth a = ap (λ k. 2 ^ k) full.4 in
      let sc : 2 ^ depth c ≡ 2 ^ depth a = ap (λ k. 2 ^ k) full.5 in
      let sd : 2 ^ depth d ≡ 2 ^ depth a = ap (λ k. 2 ^ k) full.6 in
      let east = step_ahead x (2 ^ depth a) in
      let south = step_ahead y (2 ^ depth a) in
      by_lt_z v south
      (λ north. by_lt_z u east
      (λ west. fits-at f a x y full.0 is.0 fits.0 u v w west n north)
      (λ far. fits-at f b east y full.1 is.1 fits.1 u v far (omega (arith, ints, e, twice, sb)) n (omega (arith, ints, north, sb))))
      (λ below. by_lt_z u east
      (λ west. fits-at f c x south full.2 is.2 fits.2 u v w (omega (arith, ints, west, sc)) below (omega (arith, ints, h, twice, sc)))
      (λ far. fits-at f d east south full.3 is.3 fits.3 u v far (omega (arith, ints, e, twice, sd)) below (omega (arith, ints, h, twice, sd))))

  -- the state of each pair, where a square is the piece about the middle, and pairs outside it may be 0
  pub cells-fit : (r : Tree) (start : ℤ) → IsFull r → 1 ≤ depth r → start ≡ corner r → IsPieceBy Fits start start r
      → ((x y : ℤ) → (Inside (half_side r) x y → ⊥) → Fits x y 0) → (x y : ℤ) → Fits x y (tree_cell r x y)
  cells-fit r start full high from piece outside x y = by (is_inside (half_side r) x y) refl
    where
      by : (b : Bool) → is_inside (half_side r) x y ≡ b → Fits x y (tree_cell r x y)
      by true e =
          let whole = halves (depth r) high in
          let i = inside_facts (half_side r) x y e in
          let west = i.west in
          let east = i.east in
          let north = i.north in
          let south = i.south in
          fits-at (tree_cell r) r (corner r) (corner r) full (piece-of_root r full high) (moved start _ start _ r from from piece) x y
          west (omega (arith, ints, whole, east)) north (omega (arith, ints, whole, south))
      by false e =
          subst (λ n. Fits x y n) (sym (cell_outside r x y e)) (outside x y (λ i. true≢false (sym (inside_test (half_side r) x y i) ∙ e)))

-- the states of a full square are bytes
bytes : (t : Tree) (x y : ℤ) → IsFull t → IsPieceBy (λ u v s. s < 256) x y t
bytes (point s) x y full = full
bytes (quad a b c d) x y full = (bytes a x y full.0, bytes b _ y full.1, bytes c x _ full.2, bytes d _ _ full.3)

pub cell-small : (r : Tree) → IsFull r → 1 ≤ depth r → (x y : ℤ) → tree_cell r x y < 256
cell-small r full high = cells-fit (λ u v s. s < 256) r (corner r) full high refl (bytes r _ _ full) (λ x y apart. omega arith)

-- ---- the next states of cells

-- nine cells of state 0
states-zero : (cells : ℤ → ℤ → ℕ) (x y : ℤ)
    → ((u v : ℤ) → one_before x ≤ℤ u → u ≤ℤ one_after x → one_before y ≤ℤ v → v ≤ℤ one_after y → cells u v ≡ 0) → states_at cells x y ≡ zeros
states-zero cells x y h =
    let w : (z : ℤ) → (one_before z ≤ℤ one_before z) × (one_before z ≤ℤ one_after z) = λ z. (omega (arith, ints), omega (arith, ints)) in
    let m : (z : ℤ) → (one_before z ≤ℤ z) × (z ≤ℤ one_after z) = λ z. (omega (arith, ints), omega (arith, ints)) in
    let e : (z : ℤ) → (one_before z ≤ℤ one_after z) × (one_after z ≤ℤ one_after z) = λ z. (omega (arith, ints), omega (arith, ints)) in
    let at : (u v : ℤ) → (one_before x ≤ℤ u) × (u ≤ℤ one_after x) → (one_before y ≤ℤ v) × (v ≤ℤ one_after y) → cells u v
    ≡ 0 = λ u v a b. h u v a.0 a.1 b.0 b.1 in
    let c0 = at x y (m x) (m y) in
    let c1 = at x (one_before y) (m x) (w y) in
    let c2 = at (one_after x) (one_before y) (e x) (w y) in
    let c3 = at (one_after x) y (e x) (m y) in
    let c4 = at (one_after x) (one_after y) (e x) (e y) in
    let c5 = at x (one_after y) (m x) (e y) in
    let c6 = at (one_before x) (one_after y) (w x) (e y) in
    let c7 = at (one_before x) y (w x) (m y) in
    let c8 = at (one_before x) (one_before y) (w x) (w y) in
    (λ i. c0 i ∷ c1 i ∷ c2 i ∷ c3 i ∷ c4 i ∷ c5 i ∷ c6 i ∷ c7 i ∷ c8 i ∷ [])

module _ (answers : List ℕ → Answer → Type 0) (bound : ℕ) (positive : 0 < bound) (quiet : answers zeros (Becomes 0)) where
  -- a cell among cells of state 0
  next-zero : (cells : ℤ → ℤ → ℕ) (x y : ℤ)
      → ((u v : ℤ) → one_before x ≤ℤ u → u ≤ℤ one_after x → one_before y ≤ℤ v → v ≤ℤ one_after y → cells u v ≡ 0) → IsNextAt answers bound cells x y 0
  next-zero cells x y h =
      record {
        below = subst (λ n. n < bound) (sym (h x y (omega (arith, ints)) (omega (arith, ints)) (omega (arith, ints)) (omega (arith, ints)))) positive;
        answer = subst (λ v. answers v (Becomes 0)) (sym (states-zero cells x y h)) quiet;
      }

  -- nine blank squares
  pub next-of_blanks : (content : Id → Tree) (cells : ℤ → ℤ → ℕ) (k : ℕ) (x y : ℤ) (id : Id) (nine : Nine) → content id ≡ blank k
      → InNine (λ other. other ≡ id) nine → AreNine content cells (2 ^ k) x y nine → IsPieceBy (IsNextAt answers bound cells) x y (blank k)
  next-of_blanks content cells k x y id nine is all h = blank-piece (IsNextAt answers bound cells) k x y (λ u v w e n s.
      next-zero cells u v (λ i j a b c d.
      zero i j (omega (arith, ints, some, w, a)) (omega (arith, ints, some, e, b)) (omega (arith, ints, some, n, c)) (omega (arith, ints, some, s, d))))
    where
      some : 0 < 2 ^ k
      some = pow_pos k

      zero_at : (u v : ℤ) (other : Id) → other ≡ id → IsPiece cells u v (content other)
          → (i j : ℤ) → u ≤ℤ i → i <ℤ step_ahead u (2 ^ k) → v ≤ℤ j → j <ℤ step_ahead v (2 ^ k) → cells i j ≡ 0
      zero_at u v other e p = (zero-of_blank cells k u v (subst (IsPiece cells u v) (ap content e ∙ is) p)).zero_at

      row : (v : ℤ) (three : Three Id) → InThree (λ other. other ≡ id) three → AreThree content cells (2 ^ k) x v three
          → (i j : ℤ) → step_back x (2 ^ k) ≤ℤ i → i <ℤ step_ahead (step_ahead x (2 ^ k)) (2 ^ k) → v ≤ℤ j → j <ℤ step_ahead v (2 ^ k) → cells i j ≡ 0
      row v three all h i j w e n s =
          by_lt_z i x (λ l. zero_at _ v _ all.before h.before i j w (omega (arith, ints, l)) n s)
          (λ g. by_lt_z i (step_ahead x (2 ^ k)) (λ l. zero_at x v _ all.here h.here i j g l n s) (λ l. zero_at _ v _ all.after h.after i j l e n s))

      zero : (i j : ℤ) → step_back x (2 ^ k) ≤ℤ i → i <ℤ step_ahead (step_ahead x (2 ^ k)) (2 ^ k) → step_back y (2 ^ k) ≤ℤ j
          → j <ℤ step_ahead (step_ahead y (2 ^ k)) (2 ^ k)
          → cells i j ≡ 0
      zero i j w e n s =
          by_lt_z j y (λ l. row _ _ all.before h.before i j w e n (omega (arith, ints, l)))
          (λ g. by_lt_z j (step_ahead y (2 ^ k)) (λ l. row y _ all.here h.here i j w e g l) (λ l. row _ _ all.after h.after i j w e l s))

  -- a square one level higher whose cells are the next states of a square's, each at its place
  pub square-next : (t r : Tree) → 1 ≤ depth t → IsFull r → depth r ≡ depth t + 1
      → IsPieceBy (IsNextAt answers bound (tree_cell t)) (outer t) (outer t) r → (x y : ℤ) → IsNextAt answers bound (tree_cell t) x y (tree_cell r x y)
  square-next t r high full level piece =
      cells-fit (IsNextAt answers bound (tree_cell t)) r (outer t) full (omega (arith, level)) (ap (λ n. neg_ℤ (pos (2 ^ n))) (sym same)) piece
      (λ x y apart. next-zero (tree_cell t) x y (λ u v a b c d. cell-outside t u v (λ i.
      let west = i.west in
      let east = i.east in
      let north = i.north in
      let south = i.south in
      apart (record {
        west = omega (arith, ints, whole, some, west, b);
        east = omega (arith, ints, whole, some, east, a);
        north = omega (arith, ints, whole, some, north, d);
        south = omega (arith, ints, whole, some, south, c);
      }))))
    where
      same : depth r - 1 ≡ depth t
      same = omega (arith, level)

      whole : half_side r ≡ half_side t + half_side t
      whole = ap (λ n. 2 ^ n) same ∙ sym (halves (depth t) high)

      some : 0 < half_side t
      some = pow_pos (depth t - 1)

  -- the same on its own places, where its edge is clear
  pub plane-next : (t r : Tree) → 1 ≤ depth t → IsFull r → depth r ≡ depth t → HasClearEdge t
      → IsPieceBy (IsNextAt answers bound (tree_cell t)) (corner t) (corner t) r → (x y : ℤ) → IsNextAt answers bound (tree_cell t) x y (tree_cell r x y)
  plane-next t r high full level clear piece =
      cells-fit (IsNextAt answers bound (tree_cell t)) r (corner t) full (omega (arith, high, level)) (ap (λ n. neg_ℤ (pos n)) same) piece
      (λ x y apart. next-zero (tree_cell t) x y (λ u v a b c d. by x y apart u v a b c d (zero-or-not (tree_cell t u v))))
    where
      same : half_side t ≡ half_side r
      same = ap (λ n. 2 ^ (n - 1)) (sym level)

      zero-or-not : (n : ℕ) → (n ≡ 0) ⊎ (n ≢ 0)
      zero-or-not n = grind arith

      by : (x y : ℤ) → (Inside (half_side r) x y → ⊥) → (u v : ℤ) → one_before x ≤ℤ u → u ≤ℤ one_after x → one_before y ≤ℤ v → v ≤ℤ one_after y
          → (tree_cell t u v ≡ 0) ⊎ (tree_cell t u v ≢ 0) → tree_cell t u v ≡ 0
      by x y apart u v a b c d (inl e) = e
      by x y apart u v a b c d (inr n) =
          let i = clear u v n in
          let west = i.0 in
          let east = i.1 in
          let north = i.2 in
          let south = i.3 in
          absurd (apart (record {
            west = omega (arith, ints, same, west, b);
            east = omega (arith, ints, same, east, a);
            north = omega (arith, ints, same, north, d);
            south = omega (arith, ints, same, south, c);
          }))

-- ---- answers of calls

-- by an equal law
module _ {A : Type 0} (answers : A → List ℕ → Answer → Type 0) (bound : A → ℕ) {a b : A} (same : b ≡ a) where
  pub piece-by : (cells : ℤ → ℤ → ℕ) (x y : ℤ) (t : Tree) → IsPieceBy (IsNextAt (answers b) (bound b) cells) x y t
      → IsPieceBy (IsNextAt (answers a) (bound a) cells) x y t
  piece-by cells x y t h = subst (λ l. IsPieceBy (IsNextAt (answers l) (bound l) cells) x y t) same h

  pub remembers-by : {knows knows_next : Id → Type 0} {content next : Id → Tree} {memory : List Slot}
      → RemembersBy knows content knows_next next (answers b) (bound b) memory → RemembersBy knows content knows_next next (answers a) (bound a) memory
  remembers-by {knows = knows} {knows_next = knows_next} {content = content} {next = next} {memory = memory} h =
      subst (λ l. RemembersBy knows content knows_next next (answers l) (bound l) memory) same h

module _ {X : Type 0} {knows : X → Id → Type 0} {content : X → Id → Tree} {stored : X → List Tree} {most : X → ℕ} where
  piece-kept : {old new : X} {k : ℕ} {q : Id} (Fits : ℤ → ℤ → ℕ → Type 0) (x y : ℤ) → KeepsSquares knows content stored most old new
      → IsOfLevel (knows old) (content old) k q → IsPieceBy Fits x y (content old q) → IsPieceBy Fits x y (content new q)
  piece-kept Fits x y keeps at h = subst (IsPieceBy Fits x y) (sym (keeps.contents _ at.known).1) h

  -- four answers of calls after one another, joined
  pub joined-pieces : {s t u v : X} {a b c d : Id} {n : ℕ} (tree : Tree) (Fits : ℤ → ℤ → ℕ → Type 0) (k : ℕ) (x y : ℤ) → n ≡ k
      → KeepsSquares knows content stored most s t → KeepsSquares knows content stored most t u → KeepsSquares knows content stored most u v
      → IsOfLevel (knows s) (content s) n a → IsOfLevel (knows t) (content t) n b → IsOfLevel (knows u) (content u) n c
      → IsPieceBy Fits x y (content s a) → IsPieceBy Fits (step_ahead x (2 ^ k)) y (content t b) → IsPieceBy Fits x (step_ahead y (2 ^ k)) (content u c)
      → IsPieceBy Fits (step_ahead x (2 ^ k)) (step_ahead y (2 ^ k)) (content v d)
      → tree ≡ quad (content v a) (content v b) (content v c) (content v d) → IsPieceBy Fits x y tree
  joined-pieces tree Fits k x y level st tu uv aa ab ac pa pb pc pd is =
      let all = keeps-then st (keeps-then tu uv) in
      joined Fits x y _ _ _ _ tree k ((IsAt-kept all aa).level ∙ level) is
      (piece-kept Fits x y all aa pa) (piece-kept Fits _ y (keeps-then tu uv) ab pb) (piece-kept Fits x _ uv ac pc) pd

  -- the square that is joined is one level higher
  pub joined-level : {s t u v : X} {a b c d : Id} {n : ℕ} (tree : Tree)
      → KeepsSquares knows content stored most s t → KeepsSquares knows content stored most t u → KeepsSquares knows content stored most u v
      → IsOfLevel (knows s) (content s) n a → tree ≡ quad (content v a) (content v b) (content v c) (content v d) → depth tree ≡ n + 1
  joined-level {n = n} tree st tu uv aa is = ap depth is ∙ ap suc (IsAt-kept (keeps-then st (keeps-then tu uv)) aa).level ∙ sym (add-one n)

module _ {knows : Id → Type 0} {content : Id → Tree} {answers : List ℕ → Answer → Type 0} {bound : ℕ} where
  module _ {X : Type 0} {knows_in : X → Id → Type 0} {content_in : X → Id → Tree} {stored : X → List Tree} {most : X → ℕ} {old new : X}
      (keeps : KeepsSquares knows_in content_in stored most old new) where
    answer-kept : {nine : Nine} {answer : Id} → IsAnswerBy knows content (knows_in old) (content_in old) answers bound nine answer
        → IsAnswerBy knows content (knows_in new) (content_in new) answers bound nine answer
    answer-kept h =
        record {
          level = h.level;
          known = h.known;
          at = IsAt-kept keeps h.at;
          right = λ cells x y p. piece-kept (IsNextAt answers bound cells) x y keeps h.at (h.right cells x y p);
        }

    pub RemembersBy-kept : {memory : List Slot} → RemembersBy knows content (knows_in old) (content_in old) answers bound memory
        → RemembersBy knows content (knows_in new) (content_in new) answers bound memory
    RemembersBy-kept h = record { answers_by = λ nine answer r. answer-kept (h.answers_by nine answer r) }

  module _ {knows_next : Id → Type 0} {next : Id → Tree} where
    -- a memory without answers
    pub RemembersBy-none : {memory : List Slot} → ((ids : List Id) (answer : Id) → ¬ Recalls memory ids answer)
        → RemembersBy knows content knows_next next answers bound memory
    RemembersBy-none none = record { answers_by = λ nine answer r. absurd (none (ids_of_nine nine) answer r) }

    -- one more answer
    pub RemembersBy-more : {old new : List Slot} {nine : Nine} {answer : Id} → IsAnswerBy knows content knows_next next answers bound nine answer
        → ((other : Nine) (q : Id) → Recalls new (ids_of_nine other) q → Recalls old (ids_of_nine other) q ⊎ ((other ≡ nine) × (q ≡ answer)))
        → RemembersBy knows content knows_next next answers bound old → RemembersBy knows content knows_next next answers bound new
    RemembersBy-more {old = old} {nine = nine} {answer = answer} here put h = record { answers_by = λ other q r. by other q (put other q r) }
      where
        by : (other : Nine) (q : Id) → Recalls old (ids_of_nine other) q ⊎ ((other ≡ nine) × (q ≡ answer))
            → IsAnswerBy knows content knows_next next answers bound other q
        by other q (inl r) = h.answers_by other q r
        by other q (inr e) =
            subst (λ n. IsAnswerBy knows content knows_next next answers bound n q) (sym e.0)
            (subst (λ a. IsAnswerBy knows content knows_next next answers bound nine a) (sym e.1) here)
