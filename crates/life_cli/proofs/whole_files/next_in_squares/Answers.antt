use Rattle.std.proofs.Common.{◌^◌, ◌∙◌, ℕ, List, Some, Err, inl, subst, sym}
use Rattle.std.proofs.lemmas.Result.{err_from_is_err_and}
use Rattle.life_base.specs.Inputs.{ReadAll}
use Rattle.life_base.specs.declared.cell.TheConstants.{MAX_LEVEL}
use Rattle.life_pattern.specs.Files.{Reads}
use Rattle.life_pattern.specs.Universe.{Universe}
use Rattle.life_step.specs.Refusals.{LifeRefusal, SomeByRule}
use Rattle.life_step.specs.Stepped.{IsStepped}
use Rattle.life_cli.specs.Jobs.{RefusesLifeStep}
use Rattle.pattern_sources.proofs.SourceLemmas.{comes_of_pattern, nothing_comes, squares_of_input}
use Rattle.life_cli.proofs.WholeFileLemmas.{reads-pattern}
use Rattle.life_cli.proofs.WorkLemmas.{refused_step}
use Rattle.life_cli.proofs.whole_files.next_in_squares.Goals as goal

pub returns-in_err-pattern : goal.returns-in_err-pattern
returns-in_err-pattern c = λ source read works.
    let bytes = c.deref.result.now in
    let came : ReadAll (2 ^ 30) source.before source.after bytes =
    subst (λ (all : List ℕ). ReadAll (2 ^ 30) source.before source.after all) (sym c.deref.ensures.value) read in
    let p = err_from_is_err_and c.from_residual.result c.from_residual.ensures.1 in
    let old = c.seeded-store.result in
    let new = c.read-found.new.store in
    let whole = reads-pattern bytes source came works old new (Err c.in_err-pattern.field-0.0) tt c.in_err-pattern.ensures.fault
    c.in_err-pattern.ensures.reads in
    let squares = squares_of_input old new source.before whole.reads.adds c.len.ensures.distinct (λ t there. (c.len.ensures.only t there).0) in
    rw (p.1, p.2) (nothing_comes _ IsStepped RefusesLifeStep source old new _ c.seeded-store.ensures.most c.seeded-store.ensures.stored squares
    (λ bytes refuses. inl refuses) whole)

pub next_by_rule-text-requires : goal.next_by_rule-text-requires
next_by_rule-text-requires c = (c.deref.result.now, c.in_ok-pattern.ensures.pattern)

pub returns : goal.returns
returns c = λ source read works.
    let bytes = c.deref.result.now in
    let came : ReadAll (2 ^ 30) source.before source.after bytes =
    subst (λ (all : List ℕ). ReadAll (2 ^ 30) source.before source.after all) (sym c.deref.ensures.value) read in
    let store = c.read-found.new.store in
    let pattern = c.in_ok-pattern.pattern in
    let found = c.in_ok-pattern.ensures in
    comes_of_pattern _ IsStepped RefusesLifeStep source store pattern c.next_by_rule-text.result
    (record { bytes = bytes; read = came; is = found.pattern }) works c.next_by_rule-text.ensures.stepped
    (refused_step SomeByRule (λ bytes fault. (u : Universe) × Reads MAX_LEVEL bytes u × LifeRefusal MAX_LEVEL u (Some fault)) source c.seeded-store.result store
    c.next_by_rule-text.new.store pattern c.seeded-store.ensures.stored
    (record { bytes = bytes; read = came; is = found.pattern; adds = found.reads.adds })
    (c.next_by_rule-text.ensures.keeps.limit ∙ found.reads.keeps.limit ∙ c.seeded-store.ensures.most)
    c.len-2.ensures.distinct (λ t there. (c.len-2.ensures.only t there).0) c.next_by_rule-text.ensures.adds
    c.next_by_rule-text.result c.next_by_rule-text.ensures.refused c.next_by_rule-text.ensures.needed)
