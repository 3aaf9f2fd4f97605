use Rattle.std.proofs.Common.{◌≡◌, ◌⊎◌, ℕ, Bool, true, false, List, [], Ok, Err, sym, ap, ◌∙◌, inl, inr, append-nil}
use Rattle.std.proofs.lemmas.Result.{IfErr-weaker, IfOk-weaker}
use Rattle.life_base.proofs.Results.{on_err_any}
use Rattle.life_base.specs.declared.kind.Kind.TheVariants.{Memory}
use Rattle.life_base.specs.declared.cell.Run.{Run}
use Rattle.life_base.specs.declared.rule.Rule.{Rule}
use Rattle.life_rle.specs.declared.cursor.Cursor.{Cursor}
use Rattle.life_rle.specs.declared.position.Position.{Position}
use Rattle.life_rle.specs.declared.line_items.ItemsRead.{ItemsRead}
use Rattle.life_rle.specs.declared.lines.Phase.TheVariants as phases
use Rattle.life_rle.specs.Reader.{ItemsBreak, ReadsItems, last_of}
use Rattle.life_rle.specs.Phases.{phase_after}
use Rattle.life_rle.specs.Standing.{TakesRleLine}
use Rattle.life_base.specs.declared.cell.TheConstants.{MAX_LEVEL}
use Rattle.life_rle.specs.declared.line.Later.TheVariants.{Passed, Data}
use Rattle.life_rle.specs.Grammar.{later_of}
use Rattle.life_rle.proofs.Advance.{adv-passed, adv-items, adv-mark}
use Rattle.life_rle.proofs.lines.behind_header.Goals as goal

pub returns-in_err-later_of-clause-kept : goal.returns-in_err-later_of-clause-kept
returns-in_err-later_of-clause-kept c =
    let runs : List Run = c.args.runs.now.items in
    on_err_any c.from_residual.result ([], sym (append-nil runs))

pub returns-in-Passed-clause-advance : goal.returns-in-Passed-clause-advance
returns-in-Passed-clause-advance c position =
    let line = c.args.line.now in
    let e : later_of line ≡ Ok Passed = sym c.later_of.ensures ∙ c.in_ok-later_of.was ∙ ap Ok c.in-Passed.is in
    record { runs = []; advances = adv-passed MAX_LEVEL c.args.rule.now position c.args.cursor line e; added = sym (append-nil _) }

-- a line of items was taken, with the mark or without
takes-read : (rule : Rule) (from now : Cursor) (line : List ℕ) (before after : List Run) (marked : Bool) → later_of line ≡ Ok Data
    → ReadsItems MAX_LEVEL rule from line (last_of marked) now before after → (position : Position)
    → TakesRleLine MAX_LEVEL (phases.Items rule position) from line (phase_after rule position marked) now before after
takes-read rule from now line before after true e h position =
    record { runs = h.found; advances = adv-mark MAX_LEVEL rule position from now line h.items h.found e h.read; added = h.added }
takes-read rule from now line before after false e h position =
    record { runs = h.found; advances = adv-items MAX_LEVEL rule position from now line h.items h.found e h.read; added = h.added }

pub returns-in-Data-clause-advance : goal.returns-in-Data-clause-advance
returns-in-Data-clause-advance c =
    let line = c.args.line.now in
    let rule = c.args.rule.now in
    let from = c.args.cursor in
    let before : List Run = c.args.runs.now.items in
    let after : List Run = c.read_items.new.runs.items in
    let e : later_of line ≡ Ok Data = sym c.later_of.ensures ∙ c.in_ok-later_of.was ∙ ap Ok c.in-Data.is in
    IfOk-weaker c.read_items.result (λ (read : ItemsRead). ReadsItems MAX_LEVEL rule from line (last_of read.marked) read.cursor before after)
    (λ (read : ItemsRead). (position : Position)
    → TakesRleLine MAX_LEVEL (phases.Items rule position) from line (phase_after rule position read.marked) read.cursor before after)
    (λ (read : ItemsRead) h. takes-read rule from read.cursor line before after read.marked e h) c.read_items.ensures.read

pub returns-in-Data-clause-fault : goal.returns-in-Data-clause-fault
returns-in-Data-clause-fault c =
    let line = c.args.line.now in
    let rule = c.args.rule.now in
    let e : later_of line ≡ Ok Data = sym c.later_of.ensures ∙ c.in_ok-later_of.was ∙ ap Ok c.in-Data.is in
    IfErr-weaker c.read_items.result (λ kind. (kind ≡ Memory) ⊎ ItemsBreak MAX_LEVEL rule c.args.cursor line kind)
    (λ kind. (kind ≡ Memory) ⊎ (later_of line ≡ Err kind) ⊎ ((later_of line ≡ Ok Data) × ItemsBreak MAX_LEVEL rule c.args.cursor line kind))
    (λ kind h. elim h [ inl m ↦ inl m | inr b ↦ inr (inr (e, b)) ]) c.read_items.ensures.fault
