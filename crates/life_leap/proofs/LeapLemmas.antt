-- A leap: nine squares in the middle of blocks of sixteen, and four in the middle of blocks of nine, whose generations add up.
use Rattle.std.proofs.Common.{◌≡◌, ◌⊎◌, inl, inr, ℕ, ◌+◌, ◌-◌, ◌^◌, ◌<◌, ◌≤◌, false, ℤ, List, Option, Some, None, refl, sym, ◌∙◌, ap, subst, arith, min}
use Rattle.std.proofs.lemmas.Int.{ints}
use Rattle.std.proofs.lemmas.Option.{none-some, same_Some}
use Rattle.life_base.proofs.Basics.{halves}
use Rattle.life_base.specs.Rules.{has_digit}
use Rattle.life_base.specs.Sets.{OuterTotalistic}
use Rattle.life_base.specs.Tree.{Tree, quad, depth, blank}
use Rattle.life_quad.specs.Keeping.{KeepsSquares}
use Rattle.life_quad.specs.declared.id.Id.{Id}
use Rattle.life_quad.specs.declared.moves.Quarters.{Quarters}
use Rattle.life_pieces.specs.Pieces.{IsPiece, IsOfLevel, step_ahead}
use Rattle.life_pieces.proofs.PieceLemmas.{IsAt-kept, IsPiece-kept, IsPiece-joined, IsPiece-moved, twice, zero-of_blank, blank-of_zero}
use Rattle.life_leap.specs.declared.grid.Triple.{Triple}
use Rattle.life_leap.specs.declared.grid.Row.{Row}
use Rattle.life_leap.specs.After.{after, leap_length}
use Rattle.life_leap.specs.Grid.{NineIds, SixteenIds, InFourIds, AreSixteenSquares, western_block, eastern_block, blocks_of_rows}
use Rattle.life_leap.specs.Leaps.{IsMiddleAfter, IsMiddleOfNine, IsMiddleOfBlock, AreMiddlesOfRows, AreMiddlesOfSixteen, IsFirstPart, IsLeapAnswer, IsRememberedLeap, RemembersLeaps}
use Rattle.life_leap.proofs.AfterLemmas.{after-adds, after-binary, zero-later}
use Rattle.life_leap.proofs.GridLemmas.{at-first, at-second, at-third, at-western, at-eastern, joined-at, block-kept, three-moved}

pub swapped : (x : ℤ) (a b : ℕ) → step_ahead (step_ahead x a) b ≡ step_ahead (step_ahead x b) a
swapped x a b = omega (arith, ints)

-- ---- blocks

-- the middle of a block in a store that has grown
pub middle-before : {S : Type 0} {knows : S → Id → Type 0} {content : S → Id → Tree} {stored : S → List Tree} {most : S → ℕ} {old new : S}
    (keeps : KeepsSquares knows content stored most old new) {rule : OuterTotalistic} {n side k : ℕ} {block : Quarters} {u : Tree}
    → InFourIds (IsOfLevel (knows old) (content old) k) block → IsMiddleOfBlock rule n side (content new) k block u
    → IsMiddleOfBlock rule n side (content old) k block u
middle-before keeps known h = record { later = λ cells x y binary p. h.later cells x y binary (block-kept keeps cells known p) }

-- and of an answer in one that grows on
pub middle-still : {S : Type 0} {knows : S → Id → Type 0} {content : S → Id → Tree} {stored : S → List Tree} {most : S → ℕ} {old new : S}
    (keeps : KeepsSquares knows content stored most old new) {rule : OuterTotalistic} {n side k : ℕ} {from : Id → Tree} {block : Quarters} {answer : Id}
    {l : ℕ} → IsOfLevel (knows old) (content old) l answer → IsMiddleOfBlock rule n side from k block (content old answer)
    → IsMiddleOfBlock rule n side from k block (content new answer)
middle-still keeps {rule = rule} {n = n} at h =
    record { later = λ cells x y binary p. IsPiece-kept keeps (after rule n cells) _ _ at (h.later cells x y binary p) }

-- the middle of a block by that of the square of its four squares
pub block-of_joined : {rule : OuterTotalistic} {n side k : ℕ} {content : Id → Tree} {block : Quarters} {t u : Tree} → depth (content block.nw) ≡ k
    → t ≡ quad (content block.nw) (content block.ne) (content block.sw) (content block.se) → IsMiddleAfter rule n side t u
    → IsMiddleOfBlock rule n side content k block u
block-of_joined {k = k} {content = content} {block = block} {t = t} level is h =
    record { later = λ cells x y binary p. h.later cells x y binary (joined-at content cells k x y block t level is p) }

-- ---- three squares of two rows, and nine of four rows

pub rows-of_blocks : (rule : OuterTotalistic) (n side k : ℕ) (content next : Id → Tree) (north south : Row Id) (a b c : Id)
    → IsMiddleOfBlock rule n side content k (blocks_of_rows north south).first (next a)
    → IsMiddleOfBlock rule n side content k (blocks_of_rows north south).second (next b)
    → IsMiddleOfBlock rule n side content k (blocks_of_rows north south).third (next c)
    → AreMiddlesOfRows rule n side content next k north south (record { first = a; second = b; third = c })
rows-of_blocks rule n side k content next north south a b c first second third =
    record {
      later = λ cells x y binary hn hs.
          let one = step_ahead x (2 ^ k) in
          let two = step_ahead one (2 ^ k) in
          let e : step_ahead one side ≡ step_ahead (step_ahead x side) (2 ^ k) = swapped x (2 ^ k) side in
          let f : step_ahead two side ≡ step_ahead (step_ahead (step_ahead x side) (2 ^ k)) (2 ^ k) = omega (arith, ints) in
          record {
            first = first.later cells x y binary (at-first content cells (2 ^ k) x y hn hs);
            second = IsPiece-moved _ _ _ _ _ _ e refl (second.later cells one y binary (at-second content cells (2 ^ k) x y hn hs));
            third = IsPiece-moved _ _ _ _ _ _ f refl (third.later cells two y binary (at-third content cells (2 ^ k) x y hn hs));
          };
    }

pub nine-of_rows : (rule : OuterTotalistic) (n side k : ℕ) (content next : Id → Tree) (s : SixteenIds) (a b c : Triple Id)
    → AreMiddlesOfRows rule n side content next k s.first s.second a → AreMiddlesOfRows rule n side content next k s.second s.third b
    → AreMiddlesOfRows rule n side content next k s.third s.fourth c
    → AreMiddlesOfSixteen rule n side content next k s (record { first = a; second = b; third = c })
nine-of_rows rule n side k content next s a b c first second third =
    record {
      later = λ cells x y binary h.
          let one = step_ahead y (2 ^ k) in
          let two = step_ahead one (2 ^ k) in
          let e : step_ahead one side ≡ step_ahead (step_ahead y side) (2 ^ k) = swapped y (2 ^ k) side in
          let f : step_ahead two side ≡ step_ahead (step_ahead (step_ahead y side) (2 ^ k)) (2 ^ k) = omega (arith, ints) in
          record {
            first = first.later cells x y binary h.first h.second;
            second = three-moved next _ (2 ^ k) _ _ _ b e (second.later cells x one binary h.second h.third);
            third = three-moved next _ (2 ^ k) _ _ _ c f (third.later cells x two binary h.third h.fourth);
          };
    }

-- ---- one square of nine

pub nine-joined : (rule : OuterTotalistic) (n side k : ℕ) (content : Id → Tree) (nine : NineIds) (a b c d t : Tree) → depth a ≡ k → t ≡ quad a b c d
    → IsMiddleOfBlock rule n side content k (western_block nine.first nine.second) a
    → IsMiddleOfBlock rule n side content k (eastern_block nine.first nine.second) b
    → IsMiddleOfBlock rule n side content k (western_block nine.second nine.third) c
    → IsMiddleOfBlock rule n side content k (eastern_block nine.second nine.third) d
    → IsMiddleOfNine rule n side content k nine t
nine-joined rule n side k content nine a b c d t level is nw ne sw se =
    record {
      later = λ cells x y binary h.
          let s = 2 ^ k in
          let ex : step_ahead (step_ahead x s) side ≡ step_ahead (step_ahead x side) s = swapped x s side in
          let ey : step_ahead (step_ahead y s) side ≡ step_ahead (step_ahead y side) s = swapped y s side in
          IsPiece-joined (after rule n cells) _ _ a b c d t k level is
          (nw.later cells x y binary (at-western content cells s x y h.first h.second))
          (IsPiece-moved _ _ _ _ _ b ex refl (ne.later cells (step_ahead x s) y binary (at-eastern content cells s x y h.first h.second)))
          (IsPiece-moved _ _ _ _ _ c refl ey (sw.later cells x (step_ahead y s) binary (at-western content cells s x (step_ahead y s) h.second h.third)))
          (IsPiece-moved _ _ _ _ _ d ex ey
          (se.later cells (step_ahead x s) (step_ahead y s) binary (at-eastern content cells s x (step_ahead y s) h.second h.third)));
    }

-- ---- the generations of a leap

pub slow-length : (pace k : ℕ) → 1 ≤ k → pace < k → leap_length pace (k + 1) + 0 ≡ leap_length pace (k + 2)
slow-length pace k low slow =
    let e : min pace (k + 1 - 2) ≡ min pace (k + 2 - 2) = omega (arith, low, slow) in
    let f : 2 ^ min pace (k + 1 - 2) ≡ 2 ^ min pace (k + 2 - 2) = ap (λ n. 2 ^ n) e in
    omega (arith, f)

pub fast-length : (pace k : ℕ) → 1 ≤ k → k ≤ pace → leap_length pace (k + 1) + leap_length pace (k + 1) ≡ leap_length pace (k + 2)
fast-length pace k low fast =
    let e : min pace (k + 1 - 2) ≡ k - 1 = omega (arith, low, fast) in
    let f : min pace (k + 2 - 2) ≡ k = omega (arith, fast) in
    let g : 2 ^ min pace (k + 1 - 2) ≡ 2 ^ (k - 1) = ap (λ n. 2 ^ n) e in
    let h : 2 ^ min pace (k + 2 - 2) ≡ 2 ^ k = ap (λ n. 2 ^ n) f in
    let w = halves k low in
    omega (arith, g, h, w)

-- the doubling step
pub leap-of_parts : (rule : OuterTotalistic) (pace k : ℕ) (old next : Id → Tree) (t u : Tree) (sixteen : SixteenIds) (nine : NineIds) → 1 ≤ k
    → ((cells : ℤ → ℤ → ℕ) (x y : ℤ) → IsPiece cells x y t → AreSixteenSquares old cells (2 ^ k) x y sixteen)
    → IsFirstPart rule pace old next k sixteen nine
    → IsMiddleOfNine rule (leap_length pace (k + 1)) (2 ^ (k - 1)) next k nine u
    → IsMiddleAfter rule (leap_length pace (k + 2)) (2 ^ k) t u
leap-of_parts rule pace k old next t u sixteen nine low pieces first second =
    record {
      later = λ cells x y binary p.
          let h = 2 ^ (k - 1) in
          let w = halves k low in
          let ex : step_ahead (step_ahead x h) h ≡ step_ahead x (2 ^ k) = omega (arith, ints, w) in
          let ey : step_ahead (step_ahead y h) h ≡ step_ahead y (2 ^ k) = omega (arith, ints, w) in
          let n = first.generations in
          let half = first.middles.later cells x y binary (pieces cells x y p) in
          let whole = second.later (after rule n cells) (step_ahead x h) (step_ahead y h) (after-binary rule n cells binary) half in
          let e : after rule (leap_length pace (k + 1)) (after rule n cells) ≡ after rule (leap_length pace (k + 2)) cells =
          sym (after-adds rule (leap_length pace (k + 1)) n cells) ∙ ap (λ m. after rule m cells) first.rest in
          subst (λ (f : ℤ → ℤ → ℕ). IsPiece f (step_ahead x (2 ^ k)) (step_ahead y (2 ^ k)) u) e (IsPiece-moved _ _ _ _ _ u ex ey whole);
    }

-- ---- a blank square

pub leap-of_blank : (rule : OuterTotalistic) (n k : ℕ) (t u : Tree) → has_digit rule.sets.births 0 ≡ false → n ≤ 2 ^ k → t ≡ blank (k + 2)
    → u ≡ blank (k + 1)
    → IsMiddleAfter rule n (2 ^ k) t u
leap-of_blank rule n k t u quiet short is will =
    record {
      later = λ cells x y binary p.
          let z = zero-of_blank cells (k + 2) x y (subst (IsPiece cells x y) is p) in
          let zero_at = z.zero_at in
          let e = twice k in
          let f = twice (k + 1) in
          let g : k + 1 + 1 ≡ k + 2 = omega arith in
          let w : 2 ^ (k + 1 + 1) ≡ 2 ^ (k + 2) = ap (λ i. 2 ^ i) g in
          subst (IsPiece (after rule n cells) (step_ahead x (2 ^ k)) (step_ahead y (2 ^ k))) (sym will)
          (blank-of_zero (after rule n cells) (k + 1) (step_ahead x (2 ^ k)) (step_ahead y (2 ^ k))
          (zero-later rule n cells _ _ _ _ quiet (record {
            zero_at = λ i j a b c l.
                zero_at i j (omega (arith, ints, short, a)) (omega (arith, ints, short, b, e, f, w)) (omega (arith, ints, short, c))
                (omega (arith, ints, short, l, e, f, w));
          })));
    }

-- ---- what is remembered

module _ {S : Type 0} {knows : S → Id → Type 0} {content : S → Id → Tree} {stored : S → List Tree} {most : S → ℕ} {old new : S}
    (keeps : KeepsSquares knows content stored most old new) where
  answer-kept : {rule : OuterTotalistic} {pace : ℕ} {id answer : Id} → IsLeapAnswer (knows old) (content old) rule pace id answer
      → IsLeapAnswer (knows new) (content new) rule pace id answer
  answer-kept {rule = rule} {pace = pace} {id = id} {answer = answer} h =
      let a = IsAt-kept keeps h.known in
      let same = (keeps.contents _ h.known.known).1 in
      let same_answer = (keeps.contents _ h.at.known).1 in
      record {
        level = h.level;
        known = a;
        at = IsAt-kept keeps h.at;
        right = subst (λ t. IsMiddleAfter rule (leap_length pace (h.level + 2)) (2 ^ h.level) t (content new answer)) (sym same)
            (subst (λ u. IsMiddleAfter rule (leap_length pace (h.level + 2)) (2 ^ h.level) (content old id) u) (sym same_answer) h.right);
      }

  pub leaps-kept : {rule : OuterTotalistic} {pace : ℕ} {memory : Id → Option Id} → RemembersLeaps (knows old) (content old) rule pace memory
      → RemembersLeaps (knows new) (content new) rule pace memory
  leaps-kept h id answer is = answer-kept (h id answer is)

module _ {knows : Id → Type 0} {content : Id → Tree} {rule : OuterTotalistic} {pace : ℕ} where
  -- an answer that is put
  leap-put : (id answer : Id) → IsLeapAnswer knows content rule pace id answer → IsRememberedLeap knows content rule pace id (Some answer)
  leap-put id answer here other is = subst (IsLeapAnswer knows content rule pace id) (same_Some answer other is) here

  -- what is remembered once the answer for an Id is put and no other is changed
  pub leaps-put : (old new : Id → Option Id) (id answer : Id) → RemembersLeaps knows content rule pace old
      → ((q : Id) → (new q ≡ old q) ⊎ ((q ≡ id) × (new q ≡ Some answer))) → IsLeapAnswer knows content rule pace id answer
      → RemembersLeaps knows content rule pace new
  leaps-put old new id answer each only here q = by (only q)
    where
      by : (new q ≡ old q) ⊎ ((q ≡ id) × (new q ≡ Some answer)) → IsRememberedLeap knows content rule pace q (new q)
      by (inl e) = subst (IsRememberedLeap knows content rule pace q) (sym e) (each q)
      by (inr (e, f)) =
          subst (λ i. IsRememberedLeap knows content rule pace i (new q)) (sym e)
          (subst (IsRememberedLeap knows content rule pace id) (sym f) (leap-put id answer here))

  -- a memory without answers
  pub no-leaps : (memory : Id → Option Id) → ((id : Id) → memory id ≡ None) → RemembersLeaps knows content rule pace memory
  no-leaps memory none id answer is = absurd (none-some answer (sym (none id) ∙ is))

  -- what is recalled for a square of a level
  pub recalled-leap : (memory : Id → Option Id) (id answer : Id) (k : ℕ) → RemembersLeaps knows content rule pace memory → memory id ≡ Some answer
      → IsOfLevel knows content k id
      → IsOfLevel knows content (k - 1) answer × IsMiddleAfter rule (leap_length pace k) (2 ^ (k - 2)) (content id) (content answer)
  recalled-leap memory id answer k h is known =
      let a = h id answer is in
      let at = a.known.level in
      let here = known.level in
      let e : a.level + 2 ≡ k = omega (arith, at, here) in
      let f : a.level + 1 ≡ k - 1 = omega (arith, e) in
      let l : a.level ≡ k - 2 = omega (arith, e) in (
        subst (λ n. IsOfLevel knows content n answer) f a.at,
        subst (λ n. IsMiddleAfter rule (leap_length pace k) (2 ^ n) (content id) (content answer)) l
            (subst (λ n. IsMiddleAfter rule (leap_length pace n) (2 ^ a.level) (content id) (content answer)) e a.right),
      )

  pub new-leap : (id answer : Id) (k : ℕ) → 2 ≤ k → IsOfLevel knows content k id → IsOfLevel knows content (k - 1) answer
      → IsMiddleAfter rule (leap_length pace k) (2 ^ (k - 2)) (content id) (content answer) → IsLeapAnswer knows content rule pace id answer
  new-leap id answer k low known at right =
      let e : k ≡ k - 2 + 2 = omega (arith, low) in
      let f : k - 1 ≡ k - 2 + 1 = omega (arith, low) in
      record {
        level = k - 2;
        known = subst (λ n. IsOfLevel knows content n id) e known;
        at = subst (λ n. IsOfLevel knows content n answer) f at;
        right = subst (λ n. IsMiddleAfter rule (leap_length pace n) (2 ^ (k - 2)) (content id) (content answer)) e right;
      }
