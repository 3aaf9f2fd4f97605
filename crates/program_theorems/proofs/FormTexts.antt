-- The texts of a pattern in a form are those of the layers.
use Rattle.std.proofs.Common.{◌≡◌, ℕ, ◌^◌, ◌<◌, List, refl, ◌∙◌, sym, subst, arith, inl, inr, ℤ}
use Rattle.life_base.specs.Sets.{OuterTotalistic}
use Rattle.life_base.specs.declared.bounds.Bounds.{Bounds}
use Rattle.life_writer.specs.Listing.{canon_text}
use Rattle.life_writer.specs.Texts.{IsBoundingBox as LayerLeastBox}
use Rattle.life_pattern.specs.Universe.{Universe, IsOnPlane, corner}
use Rattle.life_forms.specs.Forms.{IsMoved, IsInPlace as LayerInPlace, IsShift as LayerShift, at_zero, at_edge}
use Rattle.life_forms.specs.Images.{IsTurnedText}
use Rattle.life_forms.specs.Turns.{turn_of}
use Rattle.life_forms.specs.Turns as layer
use Rattle.life_forms.proofs.ShiftFacts.{shift-sym, shift-trans}
use Rattle.life_forms.proofs.TurnFacts.{images-keep-shifts}
use Rattle.life_phases.specs.declared.period.Period.{Period}
use Rattle.life_phase_forms.specs.Phases.{HasPhases, IsPhasesText, LeavesUnderway, begun, of_pattern, of_phases, phase}
use Rattle.life_phase_forms.proofs.PlaneLemmas.{begun-on-plane, phase-on-plane}
use Rattle.life_quad.specs.declared.turning.Turn.{Turn}
use Rattle.life_base.specs.declared.form.Form.TheVariants.{Moved, Turned, Phases}
use Rattle.pattern_forms.specs.InForm.{SaysText}
use Rattle.claims.specs.Pattern.{Pattern}
use Rattle.claims.specs.Shown.{IsClaimedBoundingBox}
use Rattle.claims.proofs.RuleLaw.{rule_in}
use Rattle.theorems.proofs.FileLaw.{files_agree}
use Rattle.theorems.proofs.TextLaw.{text_of_pattern, one_text_of}
use Rattle.program_theorems.specs.Forms.{IsClaimedMovedText, IsClaimedPhasesText, IsClaimedTurnedText, IsInClaimedPlace, IsNoGreaterText, IsTextOfForm, claimed_image, of_claimed_pattern, of_claimed_phases}
use Rattle.program_theorems.specs.Layers.{LayersAgree}
use Rattle.program_theorems.specs.Phases.{claimed_begun}
use Rattle.program_theorems.proofs.PatternLaw.{Says, said, image_says, shift_to}
use Rattle.program_theorems.proofs.PhaseLaw.{begun-says, lacks-from, no-phases_to, phase-says, phase_of, phases-to}

-- ---- boxes in their place

to_place : (low high : ℤ) → LayerInPlace 62 low high → IsInClaimedPlace low high
unfolding corner
to_place low high (at_zero e l) = inl (e, l)
to_place low high (at_edge l e) = inr (l, e)

from_place : (low high : ℤ) → IsInClaimedPlace low high → LayerInPlace 62 low high
unfolding corner
from_place low high (inl h) = at_zero h.0 h.1
from_place low high (inr h) = at_edge h.0 h.1

-- the box of a plane is that of equal cells
box_to : (c d : ℤ → ℤ → ℕ) (box : Bounds) → c ≡ d → IsClaimedBoundingBox c box → LayerLeastBox d box
box_to c d box e h =
    let b : IsClaimedBoundingBox d box = subst (λ (f : ℤ → ℤ → ℕ). IsClaimedBoundingBox f box) e h in
    record { inside = b.inside; at_left = b.at_left; at_right = b.at_right; at_top = b.at_top; at_bottom = b.at_bottom }

box_from : (c d : ℤ → ℤ → ℕ) (box : Bounds) → d ≡ c → LayerLeastBox c box → IsClaimedBoundingBox d box
box_from c d box e h =
    let b : LayerLeastBox d box = subst (λ (f : ℤ → ℤ → ℕ). LayerLeastBox f box) (sym e) h in
    record { inside = b.inside; at_left = b.at_left; at_right = b.at_right; at_top = b.at_top; at_bottom = b.at_bottom }

-- ---- moved texts

-- the pattern of the layer, in the words of the claims
abbrev pattern_in : Universe → Pattern
pattern_in u = record { rule = rule_in u.rule; generation = u.generation; cell = u.cell }

pattern_says : (u : Universe) → Says (pattern_in u) u
pattern_says u = record { rule = refl; generation = refl; cells = λ x y. refl }

moved_to : (p : Pattern) (u v : Universe) (text : List ℕ) → Says p u → IsOnPlane 62 v → IsMoved 62 u v → text ≡ canon_text 62 v → IsClaimedMovedText p text
moved_to p u v text says on moved is = record {
  moved = pattern_in v;
  shift = shift_to p (pattern_in v) u v says (pattern_says v) moved.shift;
  in_place = λ box b.
      let place = moved.form box (box_to v.cell v.cell box refl b) in (to_place box.left box.right place.0, to_place box.top box.bottom place.1);
  is = text_of_pattern v (pattern_in v) text on refl refl (λ x y. refl) is;
}

-- the moved pattern of a text is one of the layer
moved_from : (p : Pattern) (u : Universe) (text : List ℕ) → Says p u → (m : IsClaimedMovedText p text)
    → IsMoved 62 u (record { rule = u.rule; generation = u.generation; cell = m.moved.cell })
moved_from p u text says m = record {
  shift = record {
    rule = refl;
    generation = refl;
    columns = m.shift.2.0;
    rows = m.shift.2.1;
    cells = λ x y. m.shift.2.2 x y ∙ says.cells x y;
  };
  form = λ box b.
      let place = m.in_place box (box_from m.moved.cell m.moved.cell box refl b) in
      (from_place box.left box.right place.0, from_place box.top box.bottom place.1);
}

-- and its text is the layer's
moved_is : (p : Pattern) (u : Universe) (text : List ℕ) → Says p u → ((w : Universe) → IsMoved 62 u w → IsOnPlane 62 w) → (m : IsClaimedMovedText p text)
    → text ≡ canon_text 62 (record { rule = u.rule; generation = u.generation; cell = m.moved.cell })
moved_is p u text says on m =
    let w : Universe = record { rule = u.rule; generation = u.generation; cell = m.moved.cell } in
    one_text_of m.moved text (canon_text 62 w) m.is
    (text_of_pattern w m.moved (canon_text 62 w) (on w (moved_from p u text says m)) (sym m.shift.0 ∙ says.rule) (sym m.shift.1 ∙ says.generation)
    (λ x y. refl) refl)

-- ---- turned texts

-- the images of a pattern, moved, are on the plane
abbrev pub HasFormsOnPlane : Universe → Type 0
HasFormsOnPlane u = (turn : Turn) (w : Universe) → IsMoved 62 (layer.image turn u) w → IsOnPlane 62 w

forms_on_plane : LayersAgree → (u : Universe) → IsOnPlane 62 u → HasFormsOnPlane u
forms_on_plane laws u on turn w moved = laws.moved_on_plane (layer.image turn u) w (laws.images (omega arith) turn u on) moved

-- so they are where a shift of the pattern is on the plane
shifted_on_plane : LayersAgree → (u v : Universe) → LayerShift u v → IsOnPlane 62 v → HasFormsOnPlane u
shifted_on_plane laws u v shift on turn w moved =
    let back = shift-sym (layer.image turn u) (layer.image turn v) (images-keep-shifts turn u v shift) in
    forms_on_plane laws v on turn w
    (record { shift = shift-trans (layer.image turn v) (layer.image turn u) w back moved.shift; form = moved.form })

module _ (p : Pattern) (u : Universe) (text : List ℕ) (says : Says p u) (on : HasFormsOnPlane u) where
  turned_to_claim : IsTurnedText 62 u text → IsClaimedTurnedText p text
  turned_to_claim h =
      let t = h.turned.turn in
      record {
        exchange = t.exchange;
        columns = t.columns;
        rows = t.rows;
        is = moved_to (claimed_image t.exchange t.columns t.rows p) (layer.image t u) h.form text (image_says p u t says) (on t h.form h.turned.moved)
            h.turned.moved h.is;
        least = λ exchange columns rows other m.
            let s : Turn = turn_of exchange columns rows in
            let one = image_says p u s says in
            let least = h.turned.least s _ (moved_from (claimed_image exchange columns rows p) (layer.image s u) other one m) in
            subst (λ (a : List ℕ). IsNoGreaterText a other) (sym h.is)
            (subst (λ (b : List ℕ). IsNoGreaterText (canon_text 62 h.form) b)
            (sym (moved_is (claimed_image exchange columns rows p) (layer.image s u) other one (on s) m))
            least.order);
      }

  turned_of_claim : IsClaimedTurnedText p text → IsTurnedText 62 u text
  turned_of_claim h =
      let t : Turn = turn_of h.exchange h.columns h.rows in
      let image = claimed_image h.exchange h.columns h.rows p in
      let says_image = image_says p u t says in
      let form : Universe = record { rule = u.rule; generation = u.generation; cell = h.is.moved.cell } in
      let is : text ≡ canon_text 62 form = moved_is image (layer.image t u) text says_image (on t) h.is in
      record {
        form = form;
        turned = record {
          turn = t;
          moved = moved_from image (layer.image t u) text says_image h.is;
          least = λ s w moved.
              let other = moved_to (claimed_image s.exchange s.columns s.rows p) (layer.image s u) w (canon_text 62 w) (image_says p u s says)
              (on s w moved) moved refl in
              record {
                order = subst (λ (a : List ℕ). IsNoGreaterText a (canon_text 62 w)) is (h.least s.exchange s.columns s.rows (canon_text 62 w) other);
              };
        };
        is = is;
      }

-- ---- texts of phases

module _ (laws : LayersAgree) (most : ℕ) (p : Pattern) (u : Universe) (text : List ℕ) (says : Says p u) (on : IsOnPlane 62 u)
    (stays : ¬ (LeavesUnderway most u)) where
  module _ (life : OuterTotalistic) (period : Period) (has : HasPhases most u life period) where
    abbrev claimed : ℕ → Pattern
    claimed k = phase_of p u says on.rule life has.under k

    phase_says : (k : ℕ) → Says (claimed k) (phase life k u)
    phase_says k = phase-says p u says on.rule life has.under k

    phase_forms : (k : ℕ) → k < period.generations → HasFormsOnPlane (phase life k u)
    phase_forms k below =
        let there = phase-on-plane most u on life period has stays k below in
        shifted_on_plane laws (phase life k u) there.0 there.1.shift there.1.plane

  phases_to_claim : IsPhasesText 62 most u text → IsClaimedPhasesText most p text
  phases_to_claim (of_phases life period has least) =
      of_claimed_phases _ _ _ period (phases-to p u says on.rule most life period has)
      (record {
        number = least.number;
        below = least.below;
        is = turned_to_claim (claimed life period has least.number) (phase life least.number u) text (phase_says life period has least.number)
            (phase_forms life period has least.number least.below) least.is;
        least = λ k other below h.
            (least.least k other below
            (turned_of_claim (claimed life period has k) (phase life k u) other (phase_says life period has k) (phase_forms life period has k below) h)).order;
      })
  phases_to_claim (of_pattern none is) =
      of_claimed_pattern (no-phases_to p u says on.rule most none)
      (turned_to_claim (claimed_begun p) (begun u) text (begun-says p u says on.rule) (forms_on_plane laws (begun u) (begun-on-plane u on)) is)

-- ---- texts of files

module _ (laws : LayersAgree) (file text : List ℕ) where
  pub moved_exact : (h : SaysText Moved 62 (2 ^ 21) file text) → IsClaimedMovedText (files_agree file h.universe h.reads).pattern text
  moved_exact h =
      let p = files_agree file h.universe h.reads in
      let on = laws.on_plane file h.universe h.reads in
      moved_to p.pattern h.universe h.is.form text (said file h.universe p) (laws.moved_on_plane h.universe h.is.form on h.is.moved) h.is.moved h.is.is

  pub turned_exact : (h : SaysText Turned 62 (2 ^ 21) file text) → IsClaimedTurnedText (files_agree file h.universe h.reads).pattern text
  turned_exact h =
      let u = h.universe in
      let p = files_agree file u h.reads in
      turned_to_claim p.pattern u text (said file u p) (forms_on_plane laws u (laws.on_plane file u h.reads)) h.is

  pub phases_exact : (most : ℕ) (h : SaysText (Phases most) 62 (2 ^ 21) file text)
      → IsTextOfForm (Phases most) (files_agree file h.universe h.reads).pattern text
  phases_exact most h =
      let u = h.universe in
      let p = files_agree file u h.reads in
      let says = said file u p in
      let on = laws.on_plane file u h.reads in (
        λ lacks. h.has (lacks-from p.pattern u says on.rule most lacks),
        phases_to_claim laws most p.pattern u text says on h.has h.is,
      )
