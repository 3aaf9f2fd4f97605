-- Squares that are made one after another, in a store that grows meanwhile.
use Rattle.std.proofs.Common.{◌≡◌, ℕ, ◌-◌, ◌^◌, List, ◌∙◌, ap, subst, sym}
use Rattle.life_base.specs.Sets.{OuterTotalistic}
use Rattle.life_base.specs.Tree.{Tree, quad, depth}
use Rattle.life_quad.specs.Keeping.{KeepsSquares}
use Rattle.life_quad.specs.Moves.{quad_of}
use Rattle.life_quad.proofs.KeepingLemmas.{keeps-same, keeps-then}
use Rattle.life_quad.specs.declared.id.Id.{Id}
use Rattle.life_quad.specs.declared.moves.Quarters.{Quarters}
use Rattle.life_pieces.specs.Pieces.{IsOfLevel, IsPiece, step_ahead}
use Rattle.life_leap.specs.declared.grid.Triple.{Triple}
use Rattle.life_leap.specs.declared.grid.Row.{Row}
use Rattle.life_leap.specs.Grid.{western_block, eastern_block, NineIds, SixteenIds, NineBlocks, nine_blocks_of, InTriple, InRow, InFourIds, AreThreeInner, AreThreeJoined, AreNineJoined, AreFourJoined, IsInnerBlock, blocks_of_rows}
use Rattle.life_leap.specs.Leaps.{IsMiddleAfter, IsMiddleOfBlock, IsMiddleOfNine, AreThreeMiddles, AreMiddlesOfRows, AreMiddlesOfSixteen}
use Rattle.life_leap.proofs.AfterLemmas.{after-none}
use Rattle.life_leap.proofs.GridLemmas.{in-western, in-eastern, in-four, in-row, in-triple, joined-at}
use Rattle.life_leap.proofs.LeapLemmas.{middle-before, middle-still, block-of_joined, rows-of_blocks, nine-of_rows, nine-joined}

module _ {S : Type 0} {knows : S → Id → Type 0} {content : S → Id → Tree} {stored : S → List Tree} {most : S → ℕ} where
  -- the middle of a square of a store that has grown, and then the store grows on
  pub after-still : {s1 sm sn s4 : S} → KeepsSquares knows content stored most s1 sm → KeepsSquares knows content stored most sn s4
      → (rule : OuterTotalistic) (n side l : ℕ) (id answer : Id)
      → knows s1 id → IsOfLevel (knows sn) (content sn) l answer → IsMiddleAfter rule n side (content sm id) (content sn answer)
      → IsMiddleAfter rule n side (content s1 id) (content s4 answer)
  after-still {s1 = s1} {sm = sm} {sn = sn} {s4 = s4} k1 k2 rule n side l id answer known at h =
      subst (λ t. IsMiddleAfter rule n side t (content s4 answer)) (k1.contents id known).1
      (subst (λ u. IsMiddleAfter rule n side (content sm id) u) (sym (k2.contents answer at.known).1) h)

  pub triple-still : {s1 sm sn s4 : S} → KeepsSquares knows content stored most s1 sm → KeepsSquares knows content stored most sn s4
      → (rule : OuterTotalistic) (n side l m : ℕ)
      (ids answers : Triple Id) → InTriple (IsOfLevel (knows s1) (content s1) l) ids → InTriple (IsOfLevel (knows sn) (content sn) m) answers
      → AreThreeMiddles rule n side (content sm) (content sn) ids answers → AreThreeMiddles rule n side (content s1) (content s4) ids answers
  triple-still k1 k2 rule n side l m ids answers known at h =
      record {
        first = after-still k1 k2 rule n side m ids.first answers.first known.first.known at.first h.first;
        second = after-still k1 k2 rule n side m ids.second answers.second known.second.known at.second h.second;
        third = after-still k1 k2 rule n side m ids.third answers.third known.third.known at.third h.third;
      }

-- the middles of the squares of three blocks
pub rows-later : (rule : OuterTotalistic) (n side k : ℕ) (content middle next : Id → Tree) (north south : Row Id) (ids answers : Triple Id)
    → InRow (λ id. depth (content id) ≡ k) north
    → AreThreeJoined content middle (blocks_of_rows north south) ids → AreThreeMiddles rule n side middle next ids answers
    → AreMiddlesOfRows rule n side content next k north south answers
rows-later rule n side k content middle next north south ids answers level is h =
    rows-of_blocks rule n side k content next north south answers.first answers.second answers.third
    (block-of_joined level.first is.first h.first) (block-of_joined level.second is.second h.second) (block-of_joined level.third is.third h.third)

pub nine-later : (rule : OuterTotalistic) (n side k : ℕ) (content middle next : Id → Tree) (s : SixteenIds) (ids : NineIds) (a b c : Triple Id)
    → InRow (InRow (λ id. depth (content id) ≡ k)) s
    → AreNineJoined content middle (nine_blocks_of s) ids → AreThreeMiddles rule n side middle next ids.first a
    → AreThreeMiddles rule n side middle next ids.second b → AreThreeMiddles rule n side middle next ids.third c
    → AreMiddlesOfSixteen rule n side content next k s (record { first = a; second = b; third = c })
nine-later rule n side k content middle next s ids a b c level is first second third =
    nine-of_rows rule n side k content next s a b c
    (rows-later rule n side k content middle next s.first s.second ids.first a level.first is.first first)
    (rows-later rule n side k content middle next s.second s.third ids.second b level.second is.second second)
    (rows-later rule n side k content middle next s.third s.fourth ids.third c level.third is.third third)

-- four squares in the middle of nine, and their square
pub whole-later : (rule : OuterTotalistic) (n side k : ℕ) (content middle next : Id → Tree) (nine : NineIds) (ids : Quarters) (a b c d : Id) (t : Tree)
    → InTriple (InTriple (λ id. depth (content id) ≡ k)) nine → depth (next a) ≡ k → t ≡ quad (next a) (next b) (next c) (next d)
    → AreFourJoined content middle nine ids
    → IsMiddleAfter rule n side (middle ids.nw) (next a) → IsMiddleAfter rule n side (middle ids.ne) (next b)
    → IsMiddleAfter rule n side (middle ids.sw) (next c) → IsMiddleAfter rule n side (middle ids.se) (next d)
    → IsMiddleOfNine rule n side content k nine t
whole-later rule n side k content middle next nine ids a b c d t level at is joined nw ne sw se =
    nine-joined rule n side k content nine (next a) (next b) (next c) (next d) t at is
    (block-of_joined level.first.first joined.nw nw) (block-of_joined level.first.second joined.ne ne)
    (block-of_joined level.second.first joined.sw sw) (block-of_joined level.second.second joined.se se)

-- ---- in the same generation

pub centre-of_inner : (rule : OuterTotalistic) (k : ℕ) (content : Id → Tree) (block inner : Quarters) (t : Tree) → depth (content inner.nw) ≡ k - 1
    → IsInnerBlock content k block inner → t ≡ quad_of content inner → IsMiddleOfBlock rule 0 (2 ^ (k - 1)) content k block t
centre-of_inner rule k content block inner t level h is =
    record {
      later = λ cells x y binary p.
          let u = 2 ^ (k - 1) in
          subst (λ f. IsPiece f (step_ahead x u) (step_ahead y u) t) (sym (after-none rule cells))
          (joined-at content cells (k - 1) (step_ahead x u) (step_ahead y u) inner t level is (h.at cells x y p));
    }

rows-inner : (rule : OuterTotalistic) (k : ℕ) (content next : Id → Tree) (north south : Row Id) (inner : Triple Quarters) (ids : Triple Id)
    → InTriple (InFourIds (λ id. depth (content id) ≡ k - 1)) inner
    → AreThreeInner content k (blocks_of_rows north south) inner → AreThreeJoined content next inner ids
    → AreMiddlesOfRows rule 0 (2 ^ (k - 1)) content next k north south ids
rows-inner rule k content next north south inner ids level h is =
    rows-of_blocks rule 0 (2 ^ (k - 1)) k content next north south ids.first ids.second ids.third
    (centre-of_inner rule k content _ inner.first _ level.first.nw h.first is.first)
    (centre-of_inner rule k content _ inner.second _ level.second.nw h.second is.second)
    (centre-of_inner rule k content _ inner.third _ level.third.nw h.third is.third)

pub nine-inner : (rule : OuterTotalistic) (k : ℕ) (knows : Id → Type 0) (content next : Id
    → Tree) (s : SixteenIds) (blocks inner : NineBlocks) (ids : NineIds) → blocks ≡ nine_blocks_of s
    → InTriple (InTriple (InFourIds (IsOfLevel knows content (k - 1)))) inner
    → AreThreeInner content k blocks.first inner.first → AreThreeInner content k blocks.second inner.second → AreThreeInner content k blocks.third inner.third
    → AreNineJoined content next inner ids → AreMiddlesOfSixteen rule 0 (2 ^ (k - 1)) content next k s ids
nine-inner rule k knows content next s blocks inner ids e known first second third is =
    let level = in-triple (λ t h. in-triple (λ b f. in-four (λ id at. at.level) f) h) known in
    nine-of_rows rule 0 (2 ^ (k - 1)) k content next s ids.first ids.second ids.third
    (rows-inner rule k content next s.first s.second inner.first ids.first level.first
    (subst (λ (q : NineBlocks). AreThreeInner content k q.first inner.first) e first) is.first)
    (rows-inner rule k content next s.second s.third inner.second ids.second level.second
    (subst (λ (q : NineBlocks). AreThreeInner content k q.second inner.second) e second) is.second)
    (rows-inner rule k content next s.third s.fourth inner.third ids.third level.third
    (subst (λ (q : NineBlocks). AreThreeInner content k q.third inner.third) e third) is.third)

-- ---- in one store after the other

module _ {S : Type 0} {knows : S → Id → Type 0} {content : S → Id → Tree} {stored : S → List Tree} {most : S → ℕ} where
  pub nine-of_joined : {s0 s1 s2 s3 s4 : S} → KeepsSquares knows content stored most s1 s2 → KeepsSquares knows content stored most s2 s3
      → KeepsSquares knows content stored most s3 s4
      → (rule : OuterTotalistic) (n i k l m : ℕ) (s : SixteenIds) (blocks : NineBlocks) (ids : NineIds) (a b c : Triple Id) → i ≡ k - 1
      → blocks ≡ nine_blocks_of s
      → InRow (InRow (IsOfLevel (knows s0) (content s0) k)) s → InTriple (InTriple (IsOfLevel (knows s1) (content s1) l)) ids
      → InTriple (IsOfLevel (knows s2) (content s2) m) a → InTriple (IsOfLevel (knows s3) (content s3) m) b → InTriple (IsOfLevel (knows s4) (content s4) m) c
      → AreNineJoined (content s0) (content s1) blocks ids → AreThreeMiddles rule n (2 ^ i) (content s1) (content s2) ids.first a
      → AreThreeMiddles rule n (2 ^ i) (content s2) (content s3) ids.second b → AreThreeMiddles rule n (2 ^ i) (content s3) (content s4) ids.third c
      → AreMiddlesOfSixteen rule n (2 ^ (k - 1)) (content s0) (content s4) k s (record { first = a; second = b; third = c })
  nine-of_joined {s0 = s0} {s1 = s1} {s4 = s4} k2 k3 k4 rule n i k l m s blocks ids a b c o e known at at-a at-b at-c is first second third =
      let side = 2 ^ i in
      subst (λ j. AreMiddlesOfSixteen rule n (2 ^ j) (content s0) (content s4) k s (record { first = a; second = b; third = c })) o
      (nine-later rule n side k (content s0) (content s1) (content s4) s ids a b c (in-row (λ r h. in-row (λ id f. f.level) h) known)
      (subst (λ (q : NineBlocks). AreNineJoined (content s0) (content s1) q ids) e is)
      (triple-still (keeps-same s1) (keeps-then k3 k4) rule n side l m ids.first a at.first at-a first)
      (triple-still k2 k4 rule n side l m ids.second b at.second at-b second)
      (triple-still (keeps-then k2 k3) (keeps-same s4) rule n side l m ids.third c at.third at-c third))

  pub whole-of_joined : {s0 s1 s2 s3 s4 s5 : S} → KeepsSquares knows content stored most s1 s2 → KeepsSquares knows content stored most s2 s3
      → KeepsSquares knows content stored most s3 s4
      → KeepsSquares knows content stored most s4 s5
      → (rule : OuterTotalistic) (n i k l m : ℕ) (nine : NineIds) (ids : Quarters) (a b c d : Id) (t : Tree) → i ≡ k - 1 → m ≡ k
      → InTriple (InTriple (IsOfLevel (knows s0) (content s0) k)) nine → InFourIds (IsOfLevel (knows s1) (content s1) l) ids
      → IsOfLevel (knows s2) (content s2) m a → IsOfLevel (knows s3) (content s3) m b → IsOfLevel (knows s4) (content s4) m c
      → IsOfLevel (knows s5) (content s5) m d
      → t ≡ quad (content s5 a) (content s5 b) (content s5 c) (content s5 d) → AreFourJoined (content s0) (content s1) nine ids
      → IsMiddleAfter rule n (2 ^ i) (content s1 ids.nw) (content s2 a) → IsMiddleAfter rule n (2 ^ i) (content s2 ids.ne) (content s3 b)
      → IsMiddleAfter rule n (2 ^ i) (content s3 ids.sw) (content s4 c) → IsMiddleAfter rule n (2 ^ i) (content s4 ids.se) (content s5 d)
      → IsMiddleOfNine rule n (2 ^ (k - 1)) (content s0) k nine t
  whole-of_joined {s0 = s0} {s1 = s1} {s5 = s5} k2 k3 k4 k5 rule n i k l m nine ids a b c d t o e known at at-a at-b at-c at-d is joined nw ne sw se =
      let side = 2 ^ i in
      let k35 = keeps-then (keeps-then k3 k4) k5 in
      let same = (k35.contents a at-a.known).1 in
      subst (λ j. IsMiddleOfNine rule n (2 ^ j) (content s0) k nine t) o
      (whole-later rule n side k (content s0) (content s1) (content s5) nine ids a b c d t (in-triple (λ r h. in-triple (λ id f. f.level) h) known)
      (ap depth same ∙ at-a.level ∙ e) is joined
      (after-still (keeps-same s1) k35 rule n side m ids.nw a at.nw.known at-a nw)
      (after-still k2 (keeps-then k4 k5) rule n side m ids.ne b at.ne.known at-b ne)
      (after-still (keeps-then k2 k3) k5 rule n side m ids.sw c at.sw.known at-c sw)
      (after-still (keeps-then (keeps-then k2 k3) k4) (keeps-same s5) rule n side m ids.se d at.se.known at-d se))

  -- ---- four squares in the middle of nine one after the other

  module _ {s0 s1 s2 s3 : S} (k1 : KeepsSquares knows content stored most s0 s1) (k2 : KeepsSquares knows content stored most s1 s2)
      (k3 : KeepsSquares knows content stored most s2 s3) (rule : OuterTotalistic) (n side k l : ℕ) where
    pub whole-inner : {s4 : S} (k4 : KeepsSquares knows content stored most s3 s4) (nine : NineIds) (q r u v : Quarters) (a b c d : Id) (t : Tree)
        → q ≡ western_block nine.first nine.second
        → r ≡ eastern_block nine.first nine.second → u ≡ western_block nine.second nine.third → v ≡ eastern_block nine.second nine.third
        → InTriple (InTriple (IsOfLevel (knows s0) (content s0) k)) nine → IsOfLevel (knows s1) (content s1) k a → IsOfLevel (knows s2) (content s2) k b
        → IsOfLevel (knows s3) (content s3) k c → t ≡ quad (content s4 a) (content s4 b) (content s4 c) (content s4 d)
        → IsMiddleOfBlock rule n side (content s0) k q (content s1 a) → IsMiddleOfBlock rule n side (content s1) k r (content s2 b)
        → IsMiddleOfBlock rule n side (content s2) k u (content s3 c) → IsMiddleOfBlock rule n side (content s3) k v (content s4 d)
        → IsMiddleOfNine rule n side (content s0) k nine t
    whole-inner {s4 = s4} k4 nine q r u v a b c d t eq er eu ev h at-a at-b at-c is nw ne sw se =
        let three = keeps-then (keeps-then k2 k3) k4 in
        let e = three.contents a at-a.known in
        nine-joined rule n side k (content s0) nine (content s4 a) (content s4 b) (content s4 c) (content s4 d) t
        ((λ i. depth (e.1 i)) ∙ at-a.level) is
        (middle-still three at-a (subst (λ p. IsMiddleOfBlock rule n side (content s0) k p (content s1 a)) eq nw))
        (middle-still (keeps-then k3 k4) at-b (middle-before k1 (in-eastern h.first h.second)
        (subst (λ p. IsMiddleOfBlock rule n side (content s1) k p (content s2 b)) er ne)))
        (middle-still k4 at-c (middle-before (keeps-then k1 k2) (in-western h.second h.third)
        (subst (λ p. IsMiddleOfBlock rule n side (content s2) k p (content s3 c)) eu sw)))
        (middle-before (keeps-then (keeps-then k1 k2) k3) (in-eastern h.second h.third)
        (subst (λ p. IsMiddleOfBlock rule n side (content s3) k p (content s4 d)) ev se))
