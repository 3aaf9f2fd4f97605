-- The texts of turned patterns and of phases.
use Rattle.std.proofs.Common.{◌≡◌, ◌⊎◌, inl, inr, ℕ, ◌+◌, ◌<◌, true, false, true≢false, List, [], refl, sym, ap, subst, append-nil, Ordering, Less, Equal, Greater, is_gt, nat_cmp, arith}
use Rattle.std.specs.Cmp.Lexicographic.{slice_cmp}
use Rattle.std.specs.Ordering.{is_lt}
use Rattle.life_base.specs.Sets.{OuterTotalistic}
use Rattle.life_base.proofs.Basics.{le_or_lt}
use Rattle.life_writer.specs.Lesser.{IsLesserText, IsUpTo}
use Rattle.life_writer.specs.Listing.{canon_text}
use Rattle.life_pattern.specs.Universe.{Universe}
use Rattle.life_writer.proofs.OrderFacts.{old-is-lesser, up-to-itself, up-to-on}
use Rattle.life_pattern.proofs.Sameness.{same-sym}
use Rattle.life_forms.specs.Forms.{IsMoved, IsShift, IsTurnedShift}
use Rattle.life_forms.specs.Images.{IsTurnedText}
use Rattle.life_forms.specs.Turns.{Turn, image, inverse_turn, turn_after}
use Rattle.life_forms.proofs.LeastFacts.{turned-shift-sym}
use Rattle.life_forms.proofs.ShiftFacts.{shift-sym, shift-trans, still}
use Rattle.life_forms.proofs.TurnFacts.{images-keep-shifts, turns-are-closed, turns-have-inverses}
use Rattle.life_leap.proofs.AfterLemmas.{after-none}
use Rattle.life_phase_forms.specs.Phases.{IsLeastOfPhases, begun, phase}

-- ---- texts of patterns that a turn and a shift take to each other

-- each image of the one is a shift of an image of the other
image-too : (u v : Universe) (s : IsTurnedShift u v) (t : Turn) → IsShift (image t u) (image (turn_after (inverse_turn s.turn) t) v)
image-too u v s t =
    let g = s.turn in
    let back = shift-trans _ _ _ (still _ _ (same-sym _ _ (turns-have-inverses g u))) (images-keep-shifts (inverse_turn g) _ _ s.shift) in
    shift-trans _ _ _ (images-keep-shifts t _ _ back) (still _ _ (turns-are-closed (inverse_turn g) t v))

moved-too : (top : ℕ) (u v w : Universe) (s : IsTurnedShift u v) (t : Turn) → IsMoved top (image t u) w
    → IsMoved top (image (turn_after (inverse_turn s.turn) t) v) w
moved-too top u v w s t moved = record { shift = shift-trans _ _ _ (shift-sym _ _ (image-too u v s t)) moved.shift; form = moved.form }

-- so they have the same texts
pub turned-again : (top : ℕ) (u v : Universe) (text : List ℕ) → IsTurnedShift u v → IsTurnedText top u text → IsTurnedText top v text
turned-again top u v text s h =
    let back = turned-shift-sym u v s in
    let t = h.turned in
    record {
      form = h.form;
      turned = record {
        turn = turn_after (inverse_turn s.turn) t.turn;
        moved = moved-too top u v h.form s t.turn t.moved;
        least = λ other w moved. t.least (turn_after (inverse_turn back.turn) other) w (moved-too top v u w back other moved);
      };
      is = h.is;
    }

-- of two texts of a pattern none is greater
pub turned-up-to : (top : ℕ) (u : Universe) (a b : List ℕ) → IsTurnedText top u a → IsTurnedText top u b → IsUpTo a b
turned-up-to top u a b h k =
    let least = h.turned.least k.turned.turn k.form k.turned.moved in
    subst (λ (s : List ℕ). IsUpTo s b) (sym h.is) (subst (IsUpTo (canon_text top h.form)) (sym k.is) least)

-- ---- the lesser of two texts

not-greater : (o : Ordering) → is_lt o ≡ true → is_gt o ≡ false
not-greater Less e = refl
not-greater Equal e = refl
not-greater Greater e = absurd (true≢false (sym e))

pub lesser-second : (first second : List ℕ) → is_lt (slice_cmp nat_cmp second first) ≡ true → IsLesserText first second second
lesser-second first second e = record { one = inr refl; first = record { order = not-greater _ e }; second = up-to-itself second }

pub lesser-first : (first second : List ℕ) → is_lt (slice_cmp nat_cmp second first) ≡ false → IsLesserText first second first
lesser-first first second e = record {
  one = inl refl;
  first = up-to-itself first;
  second = subst (IsUpTo first) (append-nil second) (old-is-lesser second first [] e);
}

-- ---- the least text of the first phases

module _ (top : ℕ) (rule : OuterTotalistic) where
  first-phase : (u : Universe) → phase rule 0 u ≡ begun u
  first-phase u = ap (λ (f : _). record { rule = u.rule; generation = 0; cell = f }) (after-none rule u.cell)

  pub first-least : (u : Universe) (text : List ℕ) → IsTurnedText top (begun u) text → IsLeastOfPhases top rule 1 u text
  first-least u text h =
      let here : IsTurnedText top (phase rule 0 u) text = subst (λ v. IsTurnedText top v text) (sym (first-phase u)) h in
      record {
        number = 0;
        below = omega arith;
        is = here;
        least = λ k other l is.
            let e : k ≡ 0 = omega (arith, l) in
            turned-up-to top (phase rule 0 u) text other here (subst (λ n. IsTurnedText top (phase rule n u) other) e is);
      }

  pub more-least : (n : ℕ) (u : Universe) (best text lesser : List ℕ) → IsLeastOfPhases top rule n u best → IsTurnedText top (phase rule n u) text
      → IsLesserText best text lesser → IsLeastOfPhases top rule (n + 1) u lesser
  more-least n u best text lesser h new is = by is.one
    where
      least : (k : ℕ) (other : List ℕ) → k < n + 1 → IsTurnedText top (phase rule k u) other → IsUpTo lesser other
      least k other l of = elim (le_or_lt n k) [
        | inl above ↦
            let e : k ≡ n = omega (arith, l, above) in
            up-to-on lesser text other is.second
            (turned-up-to top (phase rule n u) text other new (subst (λ m. IsTurnedText top (phase rule m u) other) e of))
        | inr below ↦ up-to-on lesser best other is.first (h.least k other below of)
      ]

      by : (lesser ≡ best) ⊎ (lesser ≡ text) → IsLeastOfPhases top rule (n + 1) u lesser
      by (inl old) = let b = h.below in record {
        number = h.number;
        below = omega (arith, b);
        is = subst (IsTurnedText top (phase rule h.number u)) (sym old) h.is;
        least = least;
      }
      by (inr other) = record {
        number = n;
        below = omega arith;
        is = subst (IsTurnedText top (phase rule n u)) (sym other) new;
        least = least;
      }

  -- patterns whose phases are taken to each other have one least text
  pub least-again : (count : ℕ) (u v : Universe) (text : List ℕ) → ((k : ℕ) → IsTurnedShift (phase rule k u) (phase rule k v))
      → IsLeastOfPhases top rule count u text → IsLeastOfPhases top rule count v text
  least-again count u v text all h = record {
    number = h.number;
    below = h.below;
    is = turned-again top (phase rule h.number u) (phase rule h.number v) text (all h.number) h.is;
    least = λ k other l is.
        h.least k other l (turned-again top (phase rule k v) (phase rule k u) other (turned-shift-sym _ _ (all k)) is);
  }
