use Rattle.std.proofs.Common.{◌≡◌, ◌≤◌, ℕ, true, min, refl, sym, ◌+◌, ◌∙◌, subst, arith, true≢false, lit≤}
use Rattle.life_base.specs.declared.rule.Rule.{Rule}
use Rattle.life_base.specs.declared.rule.Rule.TheVariants.{Life, Named}
use Rattle.life_mc.specs.Macrocell.{largest_state}
use Rattle.life_mc.specs.Squares.{HasStatesUpTo}
use Rattle.life_pattern.specs.Universe.{is_life}
use Rattle.life_quad.proofs.LawLemmas.{known_squares_are_full}
use Rattle.life_pattern.specs.Store.{content, universe_in}
use Rattle.life_quad.specs.Store.{eight}
use Rattle.life_slide.proofs.MovedLemmas.{cell-below}
use Rattle.life_forms.proofs.AreaFacts.{most_parts}
use Rattle.life_forms.proofs.CornerFacts.{bound-of-leaf, life-low}
use Rattle.life_forms.proofs.PatternFacts.{cell-up-to}
use Rattle.life_forms.proofs.PlaneFacts.{box-of-square, columns-ordered, outside-blank, rows-ordered}
use Rattle.life_forms.proofs.lower_bounds.lower_bound_in.Goals as goal

pub is_middling-requires-clause-columns : goal.is_middling-requires-clause-columns
is_middling-requires-clause-columns c =
    let low = (known_squares_are_full c.args.store.now c.args.pattern.now.root c.requires.trimmed.known.0).1 in
    columns-ordered (content c.args.store.now c.args.pattern.now.root) c.args.found.now low c.requires.bounds

pub is_middling-requires-clause-rows : goal.is_middling-requires-clause-rows
is_middling-requires-clause-rows c =
    let low = (known_squares_are_full c.args.store.now c.args.pattern.now.root c.requires.trimmed.known.0).1 in
    rows-ordered (content c.args.store.now c.args.pattern.now.root) c.args.found.now low c.requires.bounds

life-states : (rule : Rule) → is_life rule ≡ true → largest_state rule ≡ 1
life-states (Life sets) life = refl
life-states (Named name) life = absurd (true≢false (sym life))

pub returns-in-Ok : goal.returns-in-Ok
returns-in-Ok c =
    let u = universe_in c.args.store.now c.args.pattern.now in
    let t = content c.args.store.now c.args.pattern.now.root in
    let known = known_squares_are_full c.args.store.now c.args.pattern.now.root c.requires.trimmed.known.0 in
    let life = sym c.is_life.ensures ∙ c.if-not-is_life.false in
    let middling = c.is_middling.ensures c.if-not-is_middling.false in
    let most = min 2097152 c.args.store.now.limit in
    let parts : most_parts 11 ≡ 1398101 = refl in
    let enough : 65552 + most_parts 11 ≤ most = omega (arith, parts, c.most_squares.ensures, c.if-most_squares-lt-SQUARES_OF_LEVEL_13.false) in
    bound-of-leaf c.squares_are_centred.ensures u life (life-low u.rule life) (cell-below t known.0)
    (λ x y. cell-up-to 1 t (subst (λ (m : ℕ). HasStatesUpTo m t) (life-states u.rule life) c.requires.trimmed.states) x y)
    (outside-blank t known.1) c.args.found.now
    (box-of-square t c.args.found.now c.requires.bounds) 12 (lit≤ tt) (lit≤ tt) (record { wide = middling.wide; tall = middling.tall })
    middling.far c.args.columns c.args.rows most enough (eight c.in_ok-leaf.leaf)
    c.in_ok-leaf.ensures c.in-Ok.text.items (c.in-Ok.ensures.first u.rule u.generation life c.requires.prefix)
    (c.in-Ok.ensures.second u.rule u.generation life c.requires.prefix)
