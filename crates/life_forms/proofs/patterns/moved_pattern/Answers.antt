use Rattle.std.proofs.Common.{ℕ, false, refl, subst}
use Rattle.life_base.specs.Tree.{Tree}
use Rattle.life_quad.proofs.KeepingLemmas.{adds-as}
use Rattle.life_quad.proofs.LawLemmas.{known_squares_are_full}
use Rattle.life_quad.specs.Turning.{turned_tree}
use Rattle.life_pattern.specs.Store.{IsNew}
use Rattle.life_pattern.specs.Store.{content}
use Rattle.life_pattern.specs.Universe.{square_universe}
use Rattle.life_forms.specs.Needed.{IsMovedRoot, SomeOfMovedRoot}
use Rattle.life_forms.specs.Turns.{image, turn_of}
use Rattle.life_forms.proofs.MirrorFacts.{image-moved, image-trimmed, root-deep}
use Rattle.life_forms.proofs.MovedFacts.{form-of-root}
use Rattle.life_forms.proofs.PatternFacts.{root-high}
use Rattle.life_forms.proofs.RefusalFacts.{handed-on}
use Rattle.life_forms.proofs.patterns.moved_pattern.Goals as goal

pub returns-in_err-root-clause-needed : goal.returns-in_err-root-clause-needed
returns-in_err-root-clause-needed c full =
    let turn = turn_of false c.args.columns c.args.rows in
    let u = image turn (square_universe c.args.rule c.args.generation (content c.args.from.now c.args.square)) in
    let P : Tree → Type 0 = λ t. IsNew c.moved_root.new.to (turned_tree turn t) in
    form-of-root P u (subst (λ (n : ℕ). SomeOfMovedRoot P u n) c.least_level-least.ensures
    (handed-on _ c.from_residual.ensures.1 c.in_err-root.ensures.grows.needed full c.args.rule c.args.generation))

pub returns-in_err-root-clause-adds : goal.returns-in_err-root-clause-adds
returns-in_err-root-clause-adds c =
    let turn = turn_of false c.args.columns c.args.rows in
    let u = image turn (square_universe c.args.rule c.args.generation (content c.args.from.now c.args.square)) in
    adds-as _ c.in_err-root.ensures.grows.adds
    (λ P h. form-of-root (λ t. P (turned_tree turn t)) u
    (subst (λ (n : ℕ). SomeOfMovedRoot (λ t. P (turned_tree turn t)) u n) c.least_level-least.ensures (h c.args.rule c.args.generation)))

pub returns-clause-adds : goal.returns-clause-adds
returns-clause-adds c =
    let turn = turn_of false c.args.columns c.args.rows in
    let u = image turn (square_universe c.args.rule c.args.generation (content c.args.from.now c.args.square)) in
    adds-as _ c.in_ok-root.ensures.grows.adds
    (λ P h. form-of-root (λ t. P (turned_tree turn t)) u
    (subst (λ (n : ℕ). SomeOfMovedRoot (λ t. P (turned_tree turn t)) u n) c.least_level-least.ensures (h c.args.rule c.args.generation)))

pub returns-clause-trimmed : goal.returns-clause-trimmed
returns-clause-trimmed c =
    let s = content c.args.from.now c.args.square in
    let whole = known_squares_are_full c.args.from.now c.args.square c.requires.known.0 in
    let there = known_squares_are_full c.moved_root.new.to c.in_ok-root.root c.in_ok-root.ensures.known.0 in
    let turn = turn_of false c.args.columns c.args.rows in
    let u = image turn (square_universe c.args.rule c.args.generation s) in
    let root = content c.moved_root.new.to c.in_ok-root.root in
    let is = subst (λ (n : ℕ). IsMovedRoot u n (turned_tree turn root)) c.least_level-least.ensures
    (c.in_ok-root.ensures.moved c.args.rule c.args.generation) in
    image-trimmed c.squares_are_centred.ensures c.centred_squares_tell_cells.ensures c.args.columns c.args.rows s whole.0 whole.1
    (root-high c.args.rule _ c.requires.high) c.args.rule c.args.generation root there.0
    (root-deep c.squares_are_centred.ensures c.centred_squares_tell_cells.ensures c.args.columns c.args.rows s whole.0 (root-high c.args.rule _ c.requires.high)
    c.args.rule c.args.generation root there.0 is) is c.moved_root.new.to c.in_ok-root.root
    c.in_ok-root.ensures.known refl c.requires.states

pub returns-clause-moved : goal.returns-clause-moved
returns-clause-moved c =
    let s = content c.args.from.now c.args.square in
    let whole = known_squares_are_full c.args.from.now c.args.square c.requires.known.0 in
    let there = known_squares_are_full c.moved_root.new.to c.in_ok-root.root c.in_ok-root.ensures.known.0 in
    let turn = turn_of false c.args.columns c.args.rows in
    let u = image turn (square_universe c.args.rule c.args.generation s) in
    let root = content c.moved_root.new.to c.in_ok-root.root in
    let is = subst (λ (n : ℕ). IsMovedRoot u n (turned_tree turn root)) c.least_level-least.ensures
    (c.in_ok-root.ensures.moved c.args.rule c.args.generation) in
    image-moved c.squares_are_centred.ensures c.centred_squares_tell_cells.ensures c.args.columns c.args.rows s whole.0 whole.1
    (root-high c.args.rule _ c.requires.high) c.args.rule c.args.generation root there.0
    (root-deep c.squares_are_centred.ensures c.centred_squares_tell_cells.ensures c.args.columns c.args.rows s whole.0 (root-high c.args.rule _ c.requires.high)
    c.args.rule c.args.generation root there.0 is) is
