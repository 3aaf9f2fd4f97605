-- A strip that becomes one of the next level with the strip below it, and with blank strips.
use Rattle.std.proofs.Common.{◌≡◌, ℕ, suc, List, ◌<◌, ◌≤◌, ◌+◌, ◌*◌, ◌^◌, ◌++◌, ◌∷◌, [], arith, refl, sym, ◌∙◌, ap, subst}
use Rattle.std.specs.List.{All}
use Rattle.std.proofs.Math.Pow.{pow_mono}
use Rattle.life_base.specs.declared.cell.TheConstants.{MAX_LEVEL}
use Rattle.life_base.specs.Tree.{Tree, IsFull}
use Rattle.life_quad.specs.declared.id.Id.{Id}
use Rattle.life_quad.specs.Keeping.{KeepsSquares}
use Rattle.life_strip.specs.declared.spans.Strip.{Strip}
use Rattle.life_strip.specs.Strip.{AreWithin, IsStrip, quad_at, Rise}
use Rattle.life_strip.specs.Picture.{picture, height, AreFalling, AreStacked, IsLowest, IsSoundStrip, IsStack}
use Rattle.life_strip.specs.Needed.{SomeColumn, SomeSquare}
use Rattle.life_strip.proofs.NeededLemmas.{height-divided, picture-below, SomeSquare-pair, SomeSquare-same, SomeSquare-under}
use Rattle.life_strip.proofs.PictureLemmas.{fits_below, all_init, all_last, picture-blank, picture-merge, height-push}
use Rattle.life_strip.proofs.BandPictures.{all-one}
use Rattle.life_base.proofs.Basics.{twice}

-- strips of which the last was made one with a strip below it, of the same level
module _ (xs first : List Strip) (last strip : Strip) (items : xs ≡ first ++ last ∷ []) (same : last.level ≡ strip.level) where
  pub not-greatest : height xs + 2 ^ strip.level ≤ 2 ^ MAX_LEVEL → last.level < MAX_LEVEL
  not-greatest space =
      let h : height xs ≡ height first + 2 ^ last.level = ap height items ∙ height-push first last in
      let w : 2 ^ last.level ≡ 2 ^ strip.level = ap (λ n. 2 ^ n) same in
      fits_below (height first) last.level (omega (arith, h, w, space))

  -- a square that the call to make them one needs is one of theirs
  pub merged-needs : (knows : Id → Type 0) (content : Id → Tree) → ((id : Id) → knows id → IsFull (content id)) → AreStacked knows content xs
      → IsSoundStrip knows content strip → height xs + 2 ^ strip.level ≤ 2 ^ MAX_LEVEL → (P : Tree → Type 0)
      → SomeColumn P (last.level + 1) (quad_at content last.level last.spans.items strip.spans.items)
      → SomeSquare P (height xs + 2 ^ strip.level) (picture content (xs ++ strip ∷ []))
  merged-needs knows content full stacked sound space P n =
      let upper = all_last (IsSoundStrip knows content) first last (subst (All (IsSoundStrip knows content)) items stacked.sound) in
      let lower : IsStrip knows content last.level strip.spans.items = subst (λ n. IsStrip knows content n strip.spans.items) (sym same) sound.squares in
      subst (λ z. SomeSquare P (height z + 2 ^ strip.level) (picture content (z ++ strip ∷ []))) (sym items)
      (SomeSquare-pair knows content last strip upper.squares (sym same) n.0 P first full lower (subst AreFalling items stacked.falling) (not-greatest space)
      n.1 n.2)

  module _ (both : Strip) (level : both.level ≡ suc last.level) where
    pub merged-height : height first + 2 ^ both.level ≡ height xs + 2 ^ strip.level
    merged-height =
        let h : height xs ≡ height first + 2 ^ last.level = ap height items ∙ height-push first last in
        let w : 2 ^ last.level ≡ 2 ^ strip.level = ap (λ n. 2 ^ n) same in
        let v : 2 ^ both.level ≡ 2 * 2 ^ last.level = ap (λ n. 2 ^ n) level ∙ twice last.level in
        omega (arith, h, w, v)

    pub merged-cells : {S : Type 0} {knows : S → Id → Type 0} {content : S → Id → Tree} {stored : S → List Tree} {most : S → ℕ} {old new : S}
        → KeepsSquares knows content stored most old new → All (IsSoundStrip (knows old) (content old)) xs → IsStack (content old) (content new) last strip both
        → (i j : ℕ) → picture (content new) (first ++ both ∷ []) i j ≡ picture (content old) (xs ++ strip ∷ []) i j
    merged-cells {knows = knows} {content = content} {old = old} {new = new} keeps sound stack i j =
        let P = IsSoundStrip (knows old) (content old) in
        picture-merge {knows = knows old} {knows' = knows new} {old = content old} {new = content new} keeps.contents first last strip both
        (all_init P first last (subst (All P) items sound)) (sym same) level stack i j
        ∙ ap (λ z. picture (content old) (z ++ strip ∷ []) i j) (sym items)

-- ---- a strip above blank ones

-- any store knows a blank strip
pub blank-sound : (knows : Id → Type 0) (content : Id → Tree) (s : Strip) → s.spans.items ≡ [] → IsSoundStrip knows content s
blank-sound knows content s e = record {
  squares = subst (IsStrip knows content s.level) (sym e) (λ c id at. absurd cc);
  within = subst (AreWithin s.level) (sym e) (λ k d lt. absurd (omega (arith, lt)));
  rises = subst Rise (sym e) (λ i j d lt within. absurd (omega (arith, within)));
}

pub one-stacked : (knows : Id → Type 0) (content : Id → Tree) (s : Strip) → IsSoundStrip knows content s → AreStacked knows content (s ∷ [])
one-stacked knows content s sound = record {
  sound = all-one (IsSoundStrip knows content) s sound;
  falling = λ i j d lt within. absurd (omega (arith, lt, within));
}

-- the rows of a strip and of a blank one of its level are at most those of a higher level
pub two-fit : (level top : ℕ) → level < top → 2 ^ level + 0 + 2 ^ level ≤ 2 ^ top
two-fit level top lt =
    let more = pow_mono {i = suc level} {j = top} (omega (arith, lt)) in
    let two = twice level in
    omega (arith, more, two)

-- a square that the two need is one of the strip alone
pub raised-needs : (knows : Id → Type 0) (content : Id → Tree) → ((id : Id) → knows id → IsFull (content id)) → (last blank : Strip)
    → blank.level ≡ last.level → blank.spans.items ≡ [] → IsSoundStrip knows content last → (top : ℕ) → last.level < top → top ≤ MAX_LEVEL
    → (P : Tree → Type 0) → SomeColumn P (last.level + 1) (quad_at content last.level last.spans.items blank.spans.items)
    → SomeSquare P (2 ^ top) (picture content (last ∷ []))
raised-needs knows content full last blank same none sound top lower high P n =
    let side : 2 ^ blank.level ≡ 2 ^ last.level = ap (λ n. 2 ^ n) same in
    let fit = two-fit last.level top lower in
    let most = pow_mono {i = top} {j = MAX_LEVEL} high in
    SomeSquare-same (omega (arith, side, fit)) (λ i j. picture-blank content (last ∷ []) blank none i j)
    (merged-needs (last ∷ []) [] last blank refl (sym same) knows content full (one-stacked knows content last sound) (blank-sound knows content blank none)
    (omega (arith, side, fit, most)) P n)

-- a square of a strip is one below strips of its level or a higher one
pub SomeSquare-lower : {P : Tree → Type 0} (content : Id → Tree) (xs ys : List Strip) (top : ℕ) → IsLowest top xs → SomeSquare P (2 ^ top) (picture content ys)
    → SomeSquare P (height xs + 2 ^ top) (picture content (xs ++ ys))
SomeSquare-lower content xs ys top low s =
    let divided = height-divided xs top low in
    SomeSquare-under (height xs) top divided.0 divided.1 (picture-below content xs ys) s
