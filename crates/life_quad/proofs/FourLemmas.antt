-- The four quarters of a square, which calls make one after the other.
use Rattle.std.proofs.Common.{◌≡◌, ℕ, List, Result, Ok, Err, IsErrAnd, inl, inr, subst}
use Rattle.life_base.specs.Tree.{Tree, quad}
use Rattle.life_base.specs.declared.kind.Kind.{Kind}
use Rattle.life_quad.specs.Keeping.{KeepsSquares, AddsOnly, MakesOneSquare}
use Rattle.life_quad.specs.Refused.{SomePart}
use Rattle.life_quad.specs.declared.id.Id.{Id}
use Rattle.life_quad.proofs.KeepingLemmas.{keeps-same, keeps-then, still, adds-none, adds-as, adds-then}
use Rattle.life_quad.proofs.MakingLemmas.{Joins, joined-only, refused-behind}

abbrev of_four : (ℕ → Tree) → ℕ → ℕ → ℕ → ℕ → Tree
of_four square i j k l = quad (square i) (square j) (square k) (square l)

module _ {S : Type 0} (knows : S → Id → Type 0) (content : S → Id → Tree) (stored : S → List Tree) (most : S → ℕ) where
  -- four Ids name the quarters of a square, and the store has got no square but parts of it
  pub record FourMade (old new : S) (a b c d : Id) (p q r s : Tree) : Type 0 where
    pub nw : knows new a × (content new a ≡ p)
    pub ne : knows new b × (content new b ≡ q)
    pub sw : knows new c × (content new c ≡ r)
    pub se : knows new d × (content new d ≡ s)
    pub keeps : KeepsSquares knows content stored most old new
    pub adds : AddsOnly stored (λ P. SomePart P (quad p q r s)) old new

  -- a call makes one of the quarters
  abbrev Makes : (S → Tree → Type 0) → (Tree → (Tree → Type 0) → Type 0) → S → S → Tree → Result Id Kind → Type 0
  Makes needs Needs old new t x = MakesOneSquare knows content stored most needs old new t (Needs t) x

  -- all calls together make the square
  abbrev MakesWhole : (S → Tree → Type 0) → S → S → Tree → Result Id Kind → Type 0
  MakesWhole needs old new t x = MakesOneSquare knows content stored most needs old new t (λ P. SomePart P t) x

module _ {S : Type 0} {knows : S → Id → Type 0} {content : S → Id → Tree} {stored : S → List Tree} {most : S → ℕ} {needs : S → Tree → Type 0} where
  -- The quarters are squares by some numbers. `Needs` says what a call that makes one needs: parts of it.
  module _ (square : ℕ → Tree) (Needs : Tree → (Tree → Type 0) → Type 0)
      (parts : (n : ℕ) (P : Tree → Type 0) → Needs (square n) P → SomePart P (square n)) {i j k l : ℕ} where
    -- a call that is refused, after others
    pub refused-nw : {o s_1 : S} {e : Kind} (x : Result Id Kind) → IsErrAnd x (λ f. f ≡ e)
        → Makes knows content stored most needs Needs o s_1 (square i) (Err e) → MakesWhole knows content stored most needs o s_1 (of_four square i j k l) x
    refused-nw {o = o} x reported call = refused-behind _ x reported (keeps-same o) (adds-none _ o) call (λ P n. inr (inl (parts i P n)))

    module _ {o s_1 : S} {a : Id} (nw : Makes knows content stored most needs Needs o s_1 (square i) (Ok a)) where
      pub refused-ne : {s_2 : S} {e : Kind} (x : Result Id Kind) → IsErrAnd x (λ f. f ≡ e)
          → Makes knows content stored most needs Needs s_1 s_2 (square j) (Err e) → MakesWhole knows content stored most needs o s_2 (of_four square i j k l) x
      refused-ne x reported call =
          refused-behind _ x reported nw.keeps (adds-as _ nw.adds (λ P n. inr (inl (parts i P n)))) call (λ P n. inr (inr (inl (parts j P n))))

      module _ {s_2 : S} {b : Id} (ne : Makes knows content stored most needs Needs s_1 s_2 (square j) (Ok b)) where
        adds_2 : AddsOnly stored (λ P. SomePart P (of_four square i j k l)) o s_2
        adds_2 = adds-then _ nw.adds ne.adds (λ P n. inr (inl (parts i P n))) (λ P n. inr (inr (inl (parts j P n))))

        pub refused-sw : {s_3 : S} {e : Kind} (x : Result Id Kind) → IsErrAnd x (λ f. f ≡ e)
            → Makes knows content stored most needs Needs s_2 s_3 (square k) (Err e)
            → MakesWhole knows content stored most needs o s_3 (of_four square i j k l) x
        refused-sw x reported call =
            refused-behind _ x reported (keeps-then nw.keeps ne.keeps) adds_2 call (λ P n. inr (inr (inr (inl (parts k P n)))))

        module _ {s_3 : S} {c : Id} (sw : Makes knows content stored most needs Needs s_2 s_3 (square k) (Ok c)) where
          adds_3 : AddsOnly stored (λ P. SomePart P (of_four square i j k l)) o s_3
          adds_3 = adds-then _ adds_2 sw.adds (λ P a. a) (λ P n. inr (inr (inr (inl (parts k P n)))))

          pub refused-se : {s_4 : S} {e : Kind} (x : Result Id Kind) → IsErrAnd x (λ f. f ≡ e)
              → Makes knows content stored most needs Needs s_3 s_4 (square l) (Err e)
              → MakesWhole knows content stored most needs o s_4 (of_four square i j k l) x
          refused-se x reported call =
              refused-behind _ x reported (keeps-then (keeps-then nw.keeps ne.keeps) sw.keeps) adds_3 call
              (λ P n. inr (inr (inr (inr (parts l P n)))))

          -- or none is refused
          pub four-made : {s_4 : S} {d : Id} → Makes knows content stored most needs Needs s_3 s_4 (square l) (Ok d)
              → FourMade knows content stored most o s_4 a b c d (square i) (square j) (square k) (square l)
          four-made se =
              let later = keeps-then sw.keeps se.keeps in
              record {
                nw = still (keeps-then ne.keeps later) nw.known nw.square;
                ne = still later ne.known ne.square;
                sw = still se.keeps sw.known sw.square;
                se = (se.known, se.square);
                keeps = keeps-then nw.keeps (keeps-then ne.keeps later);
                adds = adds-then _ adds_3 se.adds (λ P a. a) (λ P n. inr (inr (inr (inr (parts l P n)))));
              }

module _ {S : Type 0} {knows : S → Id → Type 0} {content : S → Id → Tree} {stored : S → List Tree} {most : S → ℕ} where
  -- the square of the four
  pub four-square : {old new : S} {a b c d : Id} {p q r s : Tree} → FourMade knows content stored most old new a b c d p q r s
      → quad (content new a) (content new b) (content new c) (content new d) ≡ quad p q r s
  four-square four i = quad (four.nw.1 i) (four.ne.1 i) (four.sw.1 i) (four.se.1 i)

  -- and the four are joined
  pub joined-four : {needs : S → Tree → Type 0} {old mid new : S} {a b c d : Id} {p q r s : Tree} (x : Result Id Kind)
      → FourMade knows content stored most old mid a b c d p q r s
      → Joins knows content stored most needs mid new (quad (content mid a) (content mid b) (content mid c) (content mid d)) x
      → MakesWhole knows content stored most needs old new (quad p q r s) x
  joined-four x four join = joined-only _ x four.keeps four.adds join (four-square four) (λ P p. inl (subst P (four-square four) p))
