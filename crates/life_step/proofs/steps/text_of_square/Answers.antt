use Rattle.std.proofs.Common.{ℕ, ap, ◌∙◌, subst}
use Rattle.std.proofs.lemmas.Result.{IfOk-weaker}
use Rattle.life_quad.specs.Moves.{trimmed_square}
use Rattle.life_quad.specs.Refused.{TrimmedTo}
use Rattle.life_quad.proofs.KeepingLemmas.{adds-as}
use Rattle.life_quad.proofs.LawLemmas.{known_squares_are_full}
use Rattle.life_pattern.specs.Store.{IsNew}
use Rattle.life_pattern.specs.Store.{content}
use Rattle.life_step.proofs.StepFacts.{trimmed-fits, text-of-square}
use Rattle.life_step.proofs.steps.text_of_square.Goals as goal

pub text_of-requires : goal.text_of-requires
text_of-requires c =
    let t = content c.args.store.now c.args.square in
    let full = (known_squares_are_full c.args.store.now c.args.square c.requires.known.0).0 in
    trimmed-fits c.trim.new.squares c.args.rule c.args.generation c.in_ok-root.root t c.in_ok-root.ensures.known
    (c.in_ok-root.ensures.square ∙ ap (trimmed_square t) c.least_level.ensures)
    full c.requires.high c.requires.states

pub returns-clause-text : goal.returns-clause-text
returns-clause-text c =
    let t = content c.args.store.now c.args.square in
    let known = known_squares_are_full c.args.store.now c.args.square c.requires.known.0 in
    IfOk-weaker c.text_of.result _ _
    (λ text.
    text-of-square c.files_are_on_plane.ensures c.texts_are_files.ensures c.texts_tell_universes.ensures c.trim.new.squares c.args.rule c.args.generation
    c.in_ok-root.root t c.requires.rule
    c.ranges.generation.fits (c.in_ok-root.ensures.square ∙ ap (trimmed_square t) c.least_level.ensures) known.0 known.1 c.requires.states text.items)
    c.text_of.ensures.text

pub returns-in_err-root-clause-needed : goal.returns-in_err-root-clause-needed
returns-in_err-root-clause-needed c full =
    subst (λ (n : ℕ). TrimmedTo (IsNew c.trim.new.squares) (content c.args.store.now c.args.square) n) c.least_level.ensures c.in_err-root.ensures.needed

pub returns-in_err-root-clause-adds : goal.returns-in_err-root-clause-adds
returns-in_err-root-clause-adds c =
    adds-as _ c.in_err-root.ensures.adds (λ P. subst (λ (n : ℕ). TrimmedTo P (content c.args.store.now c.args.square) n) c.least_level.ensures)

pub returns-clause-adds : goal.returns-clause-adds
returns-clause-adds c =
    adds-as _ c.in_ok-root.ensures.adds (λ P. subst (λ (n : ℕ). TrimmedTo P (content c.args.store.now c.args.square) n) c.least_level.ensures)
