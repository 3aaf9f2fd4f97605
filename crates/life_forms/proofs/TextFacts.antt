-- The least of the texts of eight images is that of the turned form.
use Rattle.std.proofs.Common.{◌≡◌, ◌⊎◌, inl, inr, ℕ, ◌≤◌, Bool, true, false, true≢false, not, List, [], ◌∷◌, refl, sym, ap, ◌∙◌, subst}
use Rattle.life_writer.specs.Lesser.{IsLesserText, IsUpTo}
use Rattle.life_writer.specs.Listing.{canon_text}
use Rattle.life_pattern.specs.Universe.{Universe, IsSame, IsBlankOutside}
use Rattle.life_writer.proofs.OrderFacts.{up-to-on}
use Rattle.life_forms.specs.Turns.{Turn, image, turn_of}
use Rattle.life_forms.specs.Needed.{HasLargerForm}
use Rattle.life_forms.specs.Images.{AreSmall, IsImageText, IsLeastOfTwo, IsLesserOfTwo, IsTurnedText}
use Rattle.life_forms.proofs.TurnFacts.{image-outside}
use Rattle.life_forms.proofs.ShiftFacts.{same-refl, still, forms-of-shifts}

-- what holds of two bits, of those with the first one other, both other, and the second one other, holds of all
of-four : (P : Bool → Bool → Type 0) (a b : Bool) → P a b → P (not a) b → P (not a) (not b) → P a (not b) → (v w : Bool) → P v w
of-four P false false p q r s false false = p
of-four P false false p q r s true false = q
of-four P false false p q r s true true = r
of-four P false false p q r s false true = s
of-four P true false p q r s true false = p
of-four P true false p q r s false false = q
of-four P true false p q r s false true = r
of-four P true false p q r s true true = s
of-four P true true p q r s true true = p
of-four P true true p q r s false true = q
of-four P true true p q r s false false = r
of-four P true true p q r s true false = s
of-four P false true p q r s false true = p
of-four P false true p q r s true true = q
of-four P false true p q r s true false = r
of-four P false true p q r s false false = s

-- patterns that are the same have one text, on the plane or not
same-text : (top : ℕ) (u v : Universe) → IsSame u v → canon_text top u ≡ canon_text top v
same-text top u v same = ap (canon_text top) (λ i. record { rule = same.rule i; generation = same.generation i; cell = λ x y. same.cells x y i })

-- an image has one text
pub one-text : (top : ℕ) (u : Universe) → 1 ≤ top → IsBlankOutside top u.cell → (turn : Turn) (a b : List ℕ) → IsImageText top u turn a
    → IsImageText top u turn b → a ≡ b
one-text top u some outside turn a b first second =
    first.is
    ∙ same-text top first.form second.form
    (forms-of-shifts top (image turn u) (image turn u) first.form second.form (image-outside top some turn u.cell outside) first.moved second.moved
    (still _ _ (same-refl (image turn u))))
    ∙ sym second.is

module _ (top : ℕ) (u : Universe) (some : 1 ≤ top) (outside : IsBlankOutside top u.cell) where
  -- the text is no greater than each text of this image
  up-to-image : (turn : Turn) (text a : List ℕ) → IsImageText top u turn a → IsUpTo text a → (other : List ℕ) → IsImageText top u turn other → IsUpTo text other
  up-to-image turn text a is up other also = subst (λ (t : List ℕ). IsUpTo text t) (one-text top u some outside turn a other is also) up

  module _ (columns rows : Bool) (a b : List ℕ) (of_image : IsImageText top u (turn_of false columns rows) a)
      (exchanged : IsImageText top u (turn_of true columns rows) b) where
    no-greater : (text : List ℕ) → IsUpTo text a → IsUpTo text b → (also : Bool) (other : List ℕ) → IsImageText top u (turn_of also columns rows) other
        → IsUpTo text other
    no-greater text first second false = up-to-image (turn_of false columns rows) text a of_image first
    no-greater text first second true = up-to-image (turn_of true columns rows) text b exchanged second

    pub lesser-of-two : (best mid text : List ℕ) → IsLesserText best a mid → IsLesserText mid b text → IsLesserOfTwo top u columns rows best text
    lesser-of-two best mid text before is = record {
      one = elim is.one [
        | inl e ↦ (elim before.one as (λ _. (text ≡ best) ⊎ ((exchange : Bool) × IsImageText top u (turn_of exchange columns rows) text)) [
          | inl f ↦ inl (e ∙ f)
          | inr f ↦ inr (false, subst (IsImageText top u (turn_of false columns rows)) (sym (e ∙ f)) of_image)
        ])
        | inr e ↦ inr (true, subst (IsImageText top u (turn_of true columns rows)) (sym e) exchanged)
      ];
      first = up-to-on text mid best is.first before.first;
      second = no-greater text (up-to-on text mid a is.first before.second) is.second;
    }

  still-image : (columns rows : Bool) (best text : List ℕ) → IsLesserOfTwo top u columns rows best text → (turn : Turn) × IsImageText top u turn best
      → (turn : Turn) × IsImageText top u turn text
  still-image columns rows best text is had = elim is.one [
    | inl e ↦ (had.0, subst (IsImageText top u had.0) (sym e) had.1)
    | inr it ↦ (turn_of it.0 columns rows, it.1)
  ]

  -- two images at a time, from any two on
  pub least-of-eight : (columns rows : Bool) (a b c d : List ℕ) → IsLeastOfTwo top u columns rows a → IsLesserOfTwo top u (not columns) rows a b
      → IsLesserOfTwo top u (not columns) (not rows) b c → IsLesserOfTwo top u columns (not rows) c d → IsTurnedText top u d
  least-of-eight columns rows a b c d first second third fourth =
      let two = still-image (not columns) rows a b second (turn_of first.exchange columns rows, first.of_image) in
      let had = still-image columns (not rows) c d fourth (still-image (not columns) (not rows) b c third two) in
      let below = of-four
      (λ (v w : Bool). (exchange : Bool) (other : List ℕ) → IsImageText top u (turn_of exchange v w) other → IsUpTo d other) columns rows
      (λ exchange other is. up-to-on d c other fourth.first (up-to-on c b other third.first (up-to-on b a other second.first (first.least exchange other is))))
      (λ exchange other is. up-to-on d c other fourth.first (up-to-on c b other third.first (second.second exchange other is)))
      (λ exchange other is. up-to-on d c other fourth.first (third.second exchange other is))
      (λ exchange other is. fourth.second exchange other is) in
      record {
        form = had.1.form;
        turned = record {
          turn = had.0;
          moved = had.1.moved;
          least = λ other w moved. subst (λ (t : List ℕ). IsUpTo t (canon_text top w)) had.1.is
              (below other.columns other.rows other.exchange (canon_text top w) (record { form = w; moved = moved; is = refl }));
        };
        is = had.1.is;
      }

-- ---- the sizes of the images

-- two images at a time
pub all-small : (most : ℕ) (u : Universe) (columns rows : Bool) → AreSmall most u columns rows → AreSmall most u (not columns) rows
    → AreSmall most u (not columns) (not rows) → AreSmall most u columns (not rows) → (turn : Turn) → ¬ HasLargerForm most (image turn u)
all-small most u columns rows first second third fourth turn =
    of-four (λ (v w : Bool). AreSmall most u v w) columns rows first second third fourth turn.columns turn.rows turn.exchange

-- ---- the first text

-- no canonical text is so great
above-texts : (top : ℕ) (v : Universe) → IsUpTo (255 ∷ []) (canon_text top v) → ⊥
unfolding canon_text
above-texts top v up = true≢false up.order

-- the lesser of a text above all and those of two images is the lesser of these
pub least-of-lesser : (top : ℕ) (u : Universe) (columns rows : Bool) (best text : List ℕ) → best ≡ 255 ∷ [] → IsLesserOfTwo top u columns rows best text
    → (other : List ℕ) × IsImageText top u (turn_of false columns rows) other → IsLeastOfTwo top u columns rows text
least-of-lesser top u columns rows best text above lesser (other, of_image) = elim lesser.one [
  | inl same ↦ absurd (above-texts top of_image.form
      (subst (λ (t : List ℕ). IsUpTo t (canon_text top of_image.form)) (same ∙ above)
      (subst (λ (t : List ℕ). IsUpTo text t) of_image.is (lesser.second false other of_image))))
  | inr it ↦ record { exchange = it.0; of_image = it.1; least = lesser.second }
]
