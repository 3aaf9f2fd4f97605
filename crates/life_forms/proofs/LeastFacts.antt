-- The turned form: the least of eight texts.
use Rattle.std.proofs.Common.{◌≡◌, ◌⊎◌, inl, inr, ℕ, ◌≤◌, Bool, true, false, List, subst}
use Rattle.life_writer.specs.Lesser.{IsUpTo}
use Rattle.life_pattern.specs.Universe.{Universe, IsSame, IsOnPlane}
use Rattle.life_writer.proofs.OrderFacts.{up-to-itself, up-to-on, up-to-both, either-way}
use Rattle.life_pattern.proofs.Sameness.{same-sym}
use Rattle.life_forms.specs.Forms.{SeparatesPatterns, IsShift, IsTurned, IsTurnedShift}
use Rattle.life_forms.specs.Turns.{Turn, turn_of, image, turn_after, inverse_turn}
use Rattle.life_forms.specs.Laws.{TurnedFormsExist, TurnedFormsAreOnPlane, TurnedTextsTellTurns, TurnedFormsAreFixed}
use Rattle.life_forms.proofs.TurnFacts.{turns-are-closed, turns-have-inverses, images-keep-shifts, images-stay-on-plane}
use Rattle.life_forms.proofs.ShiftFacts.{same-refl, still, shift-sym, shift-trans, moved-forms-exist, moved-on-plane, forms-of-shifts, shift-of-forms}

-- ---- a least one of eight

abbrev HasLeast : Type 0 → Type 0
HasLeast A = (f : A → List ℕ) → (best : A) × ((a : A) → IsUpTo (f best) (f a))

bool-least-go : (f : Bool → List ℕ) → IsUpTo (f false) (f true) ⊎ IsUpTo (f true) (f false) → (best : Bool) × ((a : Bool) → IsUpTo (f best) (f a))
bool-least-go f (inl h) = (false, λ a. elim a as (λ b. IsUpTo (f false) (f b)) [ false ↦ up-to-itself (f false) | true ↦ h ])
bool-least-go f (inr h) = (true, λ a. elim a as (λ b. IsUpTo (f true) (f b)) [ false ↦ h | true ↦ up-to-itself (f true) ])

bool-least : HasLeast Bool
bool-least f = bool-least-go f (either-way (f false) (f true))

turn-least : HasLeast Turn
turn-least f =
    let rows = λ (e c : Bool). bool-least (λ r. f (turn_of e c r)) in
    let columns = λ (e : Bool). bool-least (λ c. f (turn_of e c (rows e c).0)) in
    let exchange = bool-least (λ e. f (turn_of e (columns e).0 (rows e (columns e).0).0)) in
    let e = exchange.0 in
    let c = (columns e).0 in (
      turn_of e c (rows e c).0,
      λ t.
          up-to-on _ _ _ (exchange.1 t.exchange) (up-to-on _ _ _ ((columns t.exchange).1 t.columns) ((rows t.exchange t.columns).1 t.rows)),
    )

-- ---- turned forms

same-texts : (top : ℕ) (text : Universe → List ℕ) → SeparatesPatterns top text → (u v : Universe) → IsOnPlane top u → IsOnPlane top v → IsSame u v → text u
    ≡ text v
same-texts top text tells u v p q same = (tells u v p q).1 same

up-to-same : (a b c : List ℕ) → b ≡ c → IsUpTo a b → IsUpTo a c
up-to-same a b c e h = subst (λ (t : List ℕ). IsUpTo a t) e h

pub turned-forms-exist : (top : ℕ) (text : Universe → List ℕ) → SeparatesPatterns top text → TurnedFormsExist top text
turned-forms-exist top text tells some u plane =
    let stays = λ (t : Turn). images-stay-on-plane top some t u plane in
    let form = λ (t : Turn). moved-forms-exist top (image t u) (stays t) in
    let best = turn-least (λ t. text (form t).0) in (
      (form best.0).0,
      record {
        turn = best.0;
        moved = (form best.0).1;
        least = λ other w moved.
            up-to-same _ _ _
            (same-texts top text tells _ _ (moved-on-plane top _ _ (stays other) (form other).1) (moved-on-plane top _ _ (stays other) moved)
            (forms-of-shifts top _ _ _ _ (stays other).outside (form other).1 moved (still _ _ (same-refl (image other u)))))
            (best.1 other);
      },
    )

pub turned-on-plane : (top : ℕ) (text : Universe → List ℕ) → TurnedFormsAreOnPlane top text
turned-on-plane top text some u v plane turned = moved-on-plane top (image turned.turn u) v (images-stay-on-plane top some turned.turn u plane) turned.moved

-- ---- shifts after turns

pub turned-shift-sym : (u v : Universe) → IsTurnedShift u v → IsTurnedShift v u
turned-shift-sym u v s = record {
  turn = inverse_turn s.turn;
  shift = shift-trans _ _ _ (images-keep-shifts (inverse_turn s.turn) _ _ (shift-sym _ _ s.shift)) (still _ _ (turns-have-inverses s.turn u));
}

-- what a shift after a turn takes to v has among its images that of u
image-too : (u v : Universe) (s : IsTurnedShift u v) (t : Turn) → IsShift (image t u) (image (turn_after (inverse_turn s.turn) t) v)
image-too u v s t =
    let g = s.turn in
    let consumed = shift-trans _ _ _ (still _ _ (same-sym _ _ (turns-have-inverses g u))) (images-keep-shifts (inverse_turn g) _ _ s.shift) in
    shift-trans _ _ _ (images-keep-shifts t _ _ consumed) (still _ _ (turns-are-closed (inverse_turn g) t v))

-- so the least text of v is no greater
below : (top : ℕ) (text : Universe → List ℕ) → SeparatesPatterns top text → 1 ≤ top → (u v x y : Universe) → IsOnPlane top u → IsOnPlane top v
    → IsTurned top text u x → IsTurned top text v y → IsTurnedShift u v → IsUpTo (text y) (text x)
below top text tells some u v x y plane other first second s =
    let there = image-too u v s first.turn in
    let h = turn_after (inverse_turn s.turn) first.turn in
    let p = images-stay-on-plane top some first.turn u plane in
    let q = images-stay-on-plane top some h v other in
    let form = moved-forms-exist top (image h v) q in
    up-to-same _ _ _
    (same-texts top text tells _ _ (moved-on-plane top _ _ q form.1) (moved-on-plane top _ _ p first.moved)
    (same-sym _ _ (forms-of-shifts top _ _ _ _ p.outside first.moved form.1 there)))
    (second.least h form.0 form.1)

-- two forms of one text are those of patterns that a shift after a turn takes to each other
shift-of-texts : (top : ℕ) (text : Universe → List ℕ) → SeparatesPatterns top text → 1 ≤ top → (u v x y : Universe) → IsOnPlane top u → IsOnPlane top v
    → IsTurned top text u x → IsTurned top text v y → text x ≡ text y → IsTurnedShift u v
shift-of-texts top text tells some u v x y plane other first second e =
    let same = (tells x y (turned-on-plane top text some u x plane first) (turned-on-plane top text some v y other second)).0 e in
    let g = second.turn in
    record {
      turn = turn_after first.turn (inverse_turn g);
      shift =
          shift-trans _ _ _ (still _ _ (same-sym _ _ (turns-are-closed first.turn (inverse_turn g) u)))
          (shift-trans _ _ _ (images-keep-shifts (inverse_turn g) _ _ (shift-of-forms top _ _ x y first.moved second.moved same))
          (still _ _ (turns-have-inverses g v)));
    }

pub turned-texts : (top : ℕ) (text : Universe → List ℕ) → SeparatesPatterns top text → TurnedTextsTellTurns top text
turned-texts top text tells some u v x y plane other first second = (
  shift-of-texts top text tells some u v x y plane other first second,
  λ s. up-to-both _ _ (below top text tells some v u y x other plane second first (turned-shift-sym u v s))
      (below top text tells some u v x y plane other first second s),
)

pub turned-fixed : (top : ℕ) (text : Universe → List ℕ) → SeparatesPatterns top text → TurnedFormsAreFixed top text
turned-fixed top text tells some u v w plane first second =
    let there = turned-on-plane top text some u v plane first in
    let s : IsTurnedShift u v = record { turn = first.turn; shift = first.moved.shift } in
    let e = (turned-texts top text tells some u v v w plane there first second).1 s in
    (tells v w there (turned-on-plane top text some v w there second)).0 e
