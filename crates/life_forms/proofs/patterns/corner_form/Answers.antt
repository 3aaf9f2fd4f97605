use Rattle.std.proofs.Common.{◌≡◌, inl, inr, ℕ, ◌≤◌, ◌^◌, false, min, ap, ◌∙◌, sym, subst, Err}
use Rattle.life_base.specs.Refusal.{OrMemory, fault_of}
use Rattle.life_base.specs.Tree.{tree_cell}
use Rattle.life_base.specs.declared.cell.TheConstants.{MAX_LEVEL}
use Rattle.life_base.specs.declared.kind.Kind.{Kind}
use Rattle.life_base.specs.declared.kind.Kind.TheVariants.{Full}
use Rattle.life_base.specs.declared.rule.Rule.{Rule}
use Rattle.life_mc.specs.Macrocell.{largest_state}
use Rattle.life_quad.specs.Keeping.{IsShortageKind}
use Rattle.life_quad.specs.Store.{Nodes, stored_squares}
use Rattle.life_quad.specs.Turning.{turned_tree}
use Rattle.life_quad.proofs.LawLemmas.{known_squares_are_full}
use Rattle.life_pattern.specs.Store.{content, universe_in}
use Rattle.life_pattern.specs.Universe.{Universe, least_level, square_universe}
use Rattle.life_forms.specs.Forms.{IsMoved}
use Rattle.life_forms.specs.Needed.{HasLargerForm, IsMovedRoot}
use Rattle.life_forms.specs.Turns.{Turn, image, turn_of}
use Rattle.life_forms.proofs.MirrorFacts.{low-mirrored, mirrored, mirrored-universe}
use Rattle.life_forms.proofs.PatternFacts.{cell-up-to, root-high}
use Rattle.life_forms.proofs.SizeFacts.{larger-form, no-larger-form}
use Rattle.life_forms.proofs.patterns.corner_form.Goals as goal

pub moved_pattern-moved-requires-clause-states : goal.moved_pattern-moved-requires-clause-states
moved_pattern-moved-requires-clause-states c =
    let t = content c.args.store.now c.args.pattern.now.root in
    λ x y. subst (λ (r : Rule). tree_cell t x y ≤ largest_state r) (sym c.in_ok-rule.ensures.ok) (cell-up-to _ t c.requires.trimmed.states x y)

pub returns-in-Ok-clause-moved : goal.returns-in-Ok-clause-moved
returns-in-Ok-clause-moved c =
    let t = content c.args.store.now c.args.pattern.now.root in
    let turn = turn_of false c.args.columns c.args.rows in
    subst
    (λ (r : Rule). IsMoved MAX_LEVEL (image turn (square_universe r c.args.pattern.now.generation t))
    (image turn (universe_in c.moved_pattern-moved.new.to c.in-Ok.pattern)))
    c.in_ok-rule.ensures.ok c.in-Ok.ensures.moved

pub returns-in-Ok-clause-small : goal.returns-in-Ok-clause-small
returns-in-Ok-clause-small c =
    let v = c.args.columns in
    let w = c.args.rows in
    let turn = turn_of false v w in
    let pattern = c.args.pattern.now in
    let t = content c.args.store.now pattern.root in
    let known = known_squares_are_full c.args.store.now pattern.root c.requires.trimmed.known.0 in
    let high = root-high pattern.rule _ c.requires.trimmed.level in
    let centre = c.squares_are_centred.ensures in
    let tell = c.centred_squares_tell_cells.ensures in
    let e = c.in-Ok.ensures in
    let now = c.moved_pattern-moved.new.to in
    let rule = c.in_ok-rule.rule in
    let same = mirrored-universe centre tell v w t known.0 high rule pattern.generation in
    subst (λ (r : Rule). ¬ HasLargerForm (min (2 ^ 21) c.args.store.now.limit) (image turn (square_universe r pattern.generation t))) c.in_ok-rule.ensures.ok
    (subst (λ (u : Universe). ¬ HasLargerForm (min (2 ^ 21) c.args.store.now.limit) u) same
    (subst (λ (n : ℕ). ¬ HasLargerForm n (square_universe rule pattern.generation (mirrored centre tell v w t known.0 high)))
    (e.keeps.limit ∙ ap (λ (s : Nodes). s.limit) c.reserve.ensures ∙ c.seeded-to.ensures.most ∙ c.most_squares.ensures)
    (no-larger-form v w (mirrored centre tell v w t known.0 high) (low-mirrored centre tell v w t known.0 high known.1) rule pattern.generation now _
    e.trimmed.known c.len.ensures.all
    (subst (λ (u : Universe). IsMovedRoot u (least_level rule) (turned_tree turn (content now c.in-Ok.pattern.root))) (sym same) e.root))))

pub returns-in-Err-clause-fault : goal.returns-in-Err-clause-fault
returns-in-Err-clause-fault c = by c.in-Err.ensures.refusals
  where
    turn : Turn
    turn = turn_of false c.args.columns c.args.rows

    with-rule : Rule → Universe
    with-rule r = image turn (square_universe r c.args.pattern.now.generation (content c.args.store.now c.args.pattern.now.root))

    new : Nodes
    new = c.moved_pattern-moved.new.to

    by : IsShortageKind (stored_squares new) new.limit c.in-Err.kind
        → OrMemory c.of.result ((c.of.result ≡ fault_of Full) × HasLargerForm (min (2 ^ 21) c.args.store.now.limit) (with-rule c.args.pattern.now.rule))
    by (inl memory) = inl (c.of.ensures ∙ ap fault_of memory)
    by (inr full) = inr (
      c.of.ensures ∙ ap fault_of full.0,
      subst (λ (r : Rule). HasLargerForm (min (2 ^ 21) c.args.store.now.limit) (with-rule r)) c.in_ok-rule.ensures.ok
          (subst (λ (n : ℕ). HasLargerForm n (with-rule c.in_ok-rule.rule))
          (c.in-Err.ensures.keeps.limit ∙ ap (λ (s : Nodes). s.limit) c.reserve.ensures ∙ c.seeded-to.ensures.most ∙ c.most_squares.ensures)
          (larger-form c.args.columns c.args.rows (with-rule c.in_ok-rule.rule) c.reserve.new.self new
          (ap stored_squares c.reserve.ensures ∙ c.seeded-to.ensures.stored)
          (record { distinct = c.len.ensures.distinct; live = λ t there. (c.len.ensures.only t there).0 }) c.in-Err.ensures.adds
          (c.in-Err.ensures.needed (ap (λ (k : Kind). Err k) full.0)) full.1)),
    )
