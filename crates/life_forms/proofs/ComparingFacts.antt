-- Patterns of one store, compared in a form.
use Rattle.std.proofs.Common.{◌≡◌, ◌≤◌, ℕ, List, Bool, sym, ap, ◌∙◌, subst, lit≤, ◌↔◌, ◌^◌, ◌<◌, IsTrue}
use Rattle.life_base.specs.Rules.{IsRule}
use Rattle.life_base.specs.Tree.{Tree, depth, tree_cell}
use Rattle.life_base.specs.declared.cell.TheConstants.{MAX_LEVEL}
use Rattle.life_base.specs.declared.rule.Rule.{Rule}
use Rattle.life_mc.specs.Macrocell.{largest_state}
use Rattle.life_mc.specs.Squares.{HasStatesUpTo}
use Rattle.life_quad.specs.Moves.{trimmed_square}
use Rattle.life_quad.specs.Store.{Nodes}
use Rattle.life_quad.proofs.LawLemmas.{known_squares_are_full, equal_squares_have_one_id, trimmed_by_cells}
use Rattle.life_writer.specs.Laws.{TextsTellUniverses}
use Rattle.life_writer.specs.Listing.{canon_text}
use Rattle.life_pattern.specs.Store.{Keeps, IsTrimmed, content, universe_in}
use Rattle.life_pattern.specs.Universe.{Universe, IsBlankOutside, IsSame, IsOnPlane, least_level, square_universe}
use Rattle.life_pattern.specs.declared.pattern.Pattern.{Pattern}
use Rattle.life_forms.specs.Forms.{IsShift, IsMoved, IsTurnedShift}
use Rattle.life_forms.specs.Images.{IsTurnedText}
use Rattle.life_forms.proofs.LeastFacts.{turned-texts}
use Rattle.life_forms.proofs.PatternFacts.{cell-up-to, least-one}
use Rattle.life_forms.proofs.PlaneFacts.{outside-blank}
use Rattle.life_forms.proofs.ShiftFacts.{forms-of-shifts, shift-of-forms, shift-trans}

-- ---- a store that keeps its squares

stays-trimmed : (old new : Nodes) (p : Pattern) → Keeps old new → IsTrimmed old p → IsTrimmed new p
stays-trimmed old new p keeps h =
    let m = least_level p.rule in
    let k = keeps.contents p.root h.known in
    record {
      known = k.0;
      level = subst (λ (t : Tree). m ≤ depth t) (sym k.1) h.level;
      trimmed = subst (λ (t : Tree). trimmed_square t m ≡ t) (sym k.1) h.trimmed;
      states = subst (HasStatesUpTo (largest_state p.rule)) (sym k.1) h.states;
    }

stays-same : (old new : Nodes) (p : Pattern) → Keeps old new → IsTrimmed old p → universe_in new p ≡ universe_in old p
stays-same old new p keeps h = ap (square_universe p.rule p.generation) (keeps.contents p.root h.known).1

-- ---- by their roots

abbrev pub HaveOneRoot : Pattern → Pattern → Type 0
HaveOneRoot x y = (x.rule ≡ y.rule) × (x.generation ≡ y.generation) × (x.root ≡ y.root)

same-roots : (store : Nodes) (x y : Pattern) → IsTrimmed store x → IsTrimmed store y → IsSame (universe_in store x) (universe_in store y) → x.root ≡ y.root
same-roots store x y h k same =
    let s = content store x.root in
    let t = content store y.root in
    let m = least_level x.rule in
    let trims = subst (λ (r : Rule). trimmed_square t (least_level r) ≡ t) (sym same.rule) k.trimmed in
    let high = subst (λ (r : Rule). least_level r ≤ depth t) (sym same.rule) k.level in
    let equal = (trimmed_by_cells s t m (known_squares_are_full store x.root h.known.0).0 (known_squares_are_full store y.root k.known.0).0
    (least-one x.rule) h.level high).1 same.cells in
    equal_squares_have_one_id store h.known.1 x.root y.root h.known.0 k.known.0 (sym h.trimmed ∙ equal ∙ trims)

roots-tell : (store : Nodes) (x y : Pattern) → IsTrimmed store x → IsTrimmed store y → HaveOneRoot x y ↔ IsSame (universe_in store x) (universe_in store y)
roots-tell store x y h k = (
  λ e. record { rule = e.0; generation = e.1; cells = λ a b. ap (λ id. tree_cell (content store id) a b) e.2 },
  λ same. (same.rule, same.generation, same-roots store x y h k same),
)

pub shifts-reported : (u v : Universe) (mid new : Nodes) (first second : Pattern) (answer : Bool) → IsBlankOutside MAX_LEVEL u.cell → Keeps mid new
    → IsTrimmed mid first → IsMoved MAX_LEVEL u (universe_in mid first) → IsTrimmed new second → IsMoved MAX_LEVEL v (universe_in new second)
    → (IsTrue answer ↔ HaveOneRoot first second) → IsTrue answer ↔ IsShift u v
shifts-reported u v mid new first second answer outside l one moved two also test =
    let x = universe_in new first in
    let y = universe_in new second in
    let p = subst (λ (w : Universe). IsMoved MAX_LEVEL u w) (sym (stays-same mid new first l one)) moved in
    let roots = roots-tell new first second (stays-trimmed mid new first l one) two in (
      λ t. shift-of-forms MAX_LEVEL u v x y p also (roots.0 (test.0 t)),
      λ s. test.1 (roots.1 (forms-of-shifts MAX_LEVEL u v x y outside p also s)),
    )

-- what moves a moved form moves the pattern
pub moved-again : (u v w : Universe) → IsMoved MAX_LEVEL u v → IsMoved MAX_LEVEL v w → IsMoved MAX_LEVEL u w
moved-again u v w first second = record { shift = shift-trans u v w first.shift second.shift; form = second.form }

-- ---- by their texts

pub on-plane : (store : Nodes) (p : Pattern) → IsTrimmed store p → IsRule p.rule → p.generation < 2 ^ 64 → IsOnPlane MAX_LEVEL (universe_in store p)
on-plane store p h rule generation = record {
  rule = rule;
  generation = generation;
  states = cell-up-to (largest_state p.rule) (content store p.root) h.states;
  outside = outside-blank (content store p.root) (known_squares_are_full store p.root h.known.0).1;
}

pub turns-reported : TextsTellUniverses MAX_LEVEL → (u v : Universe) (first second : List ℕ) → IsOnPlane MAX_LEVEL u → IsOnPlane MAX_LEVEL v
    → IsTurnedText MAX_LEVEL u first → IsTurnedText MAX_LEVEL v second → (first ≡ second) ↔ IsTurnedShift u v
turns-reported tells u v first second plane other h k =
    let reported = turned-texts MAX_LEVEL (canon_text MAX_LEVEL) tells (lit≤ tt) u v h.form k.form plane other h.turned k.turned in
    (λ e. reported.0 (sym h.is ∙ e ∙ k.is), λ s. h.is ∙ reported.1 s ∙ sym k.is)
