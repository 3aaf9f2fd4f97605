-- A square that is made of four squares, which are made one after the other, each of its parts alone.
use Rattle.std.proofs.Common.{◌≡◌, ℕ, List, Result, Ok, Err, IfOk, inl, inr, ap, ◌∙◌}
use Rattle.life_base.specs.Tree.{Tree, quad, depth}
use Rattle.life_quad.specs.Keeping.{KeepsSquares, AddsOnly}
use Rattle.life_quad.specs.Refused.{SomePart}
use Rattle.life_base.specs.declared.kind.Kind.{Kind}
use Rattle.life_quad.specs.Store.{eight}
use Rattle.life_pieces.specs.Pieces.{IsOfLevel}
use Rattle.life_quad.specs.declared.id.Id.{Id}
use Rattle.life_quad.proofs.KeepingLemmas.{keeps-then, adds-as, adds-then}

-- the four squares, after the calls that make them
pub quarters-made : {S : Type 0} {knows : S → Id → Type 0} {content : S → Id → Tree} {stored : S → List Tree} {most : S → ℕ} {s t u v : S} {p q r w : Id}
    {a b c d : Tree} → KeepsSquares knows content stored most s t → KeepsSquares knows content stored most t u → KeepsSquares knows content stored most u v
    → knows s p → knows t q → knows u r → content s p ≡ a → content t q ≡ b → content u r ≡ c → content v w ≡ d
    → quad (content v p) (content v q) (content v r) (content v w) ≡ quad a b c d
quarters-made st tu uv kp kq kr ep eq er ew =
    let x = ((keeps-then st (keeps-then tu uv)).contents _ kp).1 ∙ ep in
    let y = ((keeps-then tu uv).contents _ kq).1 ∙ eq in
    let z = (uv.contents _ kr).1 ∙ er in
    (λ i. quad (x i) (y i) (z i) (ew i))

-- what the calls store
module _ {S : Type 0} {stored : S → List Tree} (a b c d : Tree) {s t : S} (nw : AddsOnly stored (λ P. SomePart P a) s t) where
  pub adds_one : AddsOnly stored (λ P. SomePart P (quad a b c d)) s t
  adds_one = adds-as _ nw (λ P p. inr (inl p))

  module _ {u : S} (ne : AddsOnly stored (λ P. SomePart P b) t u) where
    pub adds_two : AddsOnly stored (λ P. SomePart P (quad a b c d)) s u
    adds_two = adds-then _ adds_one ne (λ P p. p) (λ P p. inr (inr (inl p)))

    module _ {v : S} (sw : AddsOnly stored (λ P. SomePart P c) u v) where
      pub adds_three : AddsOnly stored (λ P. SomePart P (quad a b c d)) s v
      adds_three = adds-then _ adds_two sw (λ P p. p) (λ P p. inr (inr (inr (inl p))))

      module _ {w : S} (se : AddsOnly stored (λ P. SomePart P d) v w) where
        pub adds_four : AddsOnly stored (λ P. SomePart P (quad a b c d)) s w
        adds_four = adds-then _ adds_three se (λ P p. p) (λ P p. inr (inr (inr (inr p))))

-- a square of level 3 by its cells
pub made-at : (knows : Id → Type 0) (content : Id → Tree) (n : ℕ) (r : Result Id Kind) → IfOk r knows → IfOk r (λ id. content id ≡ eight n)
    → IfOk r (IsOfLevel knows content 3)
made-at knows content n (Ok id) known is = record { known = known; level = ap depth is }
made-at knows content n (Err e) known is = tt
