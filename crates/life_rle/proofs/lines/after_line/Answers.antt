use Rattle.std.proofs.Common.{◌≡◌, ◌⊎◌, ℕ, true, List, [], Ok, Err, refl, sym, ap, ◌∙◌, subst, inl, inr, append-nil, false}
use Rattle.life_base.proofs.Results.{error_is}
use Rattle.life_base.specs.declared.kind.Kind.{Kind}
use Rattle.life_base.specs.declared.kind.Kind.TheVariants.{Memory, Spent}
use Rattle.life_base.specs.declared.cell.TheConstants.{MAX_LEVEL}
use Rattle.life_base.specs.declared.cell.Run.{Run}
use Rattle.life_rle.specs.declared.cursor.Cursor.{Cursor}
use Rattle.life_rle.specs.declared.line.Later.TheVariants.{Data}
use Rattle.life_rle.specs.declared.lines.Phase.{Phase}
use Rattle.life_rle.specs.declared.lines.Phase.TheVariants as phases
use Rattle.life_rle.specs.Phases.{phase_after}
use Rattle.life_rle.specs.Reader.{ItemsBreak}
use Rattle.life_rle.specs.Standing.{StandsAt, is_over, is_refused, TakesRleLine}
use Rattle.life_rle.specs.Grammar.{BreaksRle, later_of}
use Rattle.life_rle.proofs.Advance.{breaks-form, breaks-items}
use Rattle.life_rle.proofs.lines.after_line.Goals as goal

-- what a fault of the line tells
abbrev Tells : Phase → Cursor → List ℕ → Kind → Type 0
Tells phase cursor line kind =
    (kind ≡ Memory) ⊎ ((kind ≡ Spent) × (is_refused phase ≡ true))
    ⊎ ((lines : List (List ℕ)) → StandsAt MAX_LEVEL phase cursor lines → BreaksRle MAX_LEVEL lines line kind)

pub returns-then-read-clause-advance : goal.returns-then-read-clause-advance
returns-then-read-clause-advance c =
    let line = c.args.line.now in
    let rule = c.in-Items.rule in
    let position = c.in-Items.field-1 in
    let from = c.args.cursor.now in
    let now = c.in-Ok.read.cursor in
    let before : List Run = c.args.runs.now.items in
    let after : List Run = c.behind_header.new.runs.items in
    let ended : c.end_items.new.phase ≡ phases.Over rule position = c.end_items.ensures rule position refl in
    let next : phase_after rule position c.in-Ok.read.marked ≡ c.end_items.new.phase = ap (phase_after rule position) c.if-read.true ∙ sym ended in
    subst (λ (p : Phase). TakesRleLine MAX_LEVEL p from line c.end_items.new.phase now before after) (sym c.in-Items.is)
    (subst (λ (p : Phase). TakesRleLine MAX_LEVEL (phases.Items rule position) from line p now before after) next (c.in-Ok.ensures.advance position))

pub returns-else-read-clause-advance : goal.returns-else-read-clause-advance
returns-else-read-clause-advance c =
    let line = c.args.line.now in
    let rule = c.in-Items.rule in
    let position = c.in-Items.field-1 in
    let from = c.args.cursor.now in
    let now = c.in-Ok.read.cursor in
    let before : List Run = c.args.runs.now.items in
    let after : List Run = c.behind_header.new.runs.items in
    let next : phase_after rule position c.in-Ok.read.marked ≡ phases.Items rule position = ap (phase_after rule position) c.if-read.false in
    subst (λ (p : Phase). TakesRleLine MAX_LEVEL p from line (phases.Items rule position) now before after) (sym c.in-Items.is)
    (subst (λ (p : Phase). TakesRleLine MAX_LEVEL (phases.Items rule position) from line p now before after) next (c.in-Ok.ensures.advance position))

pub returns-in-Err-clause-fault : goal.returns-in-Err-clause-fault
returns-in-Err-clause-fault c =
    let line = c.args.line.now in
    let cursor = c.args.cursor.now in
    let rule = c.in-Items.rule in
    let position = c.in-Items.field-1 in
    let kind : Kind = c.in-Err.kind in
    let why : (kind ≡ Memory) ⊎ (later_of line ≡ Err kind) ⊎ ((later_of line ≡ Ok Data) × ItemsBreak MAX_LEVEL rule cursor line kind) =
    c.in-Err.ensures.fault in
    let reported : Tells (phases.Items rule position) cursor line kind = elim why [
      | inl m ↦ inl m
      | inr e ↦ elim e [
        | inl f ↦ inr (inr (breaks-form MAX_LEVEL rule position cursor line kind f))
        | inr b ↦ inr (inr (breaks-items MAX_LEVEL rule position cursor line kind b.0 b.1))
      ]
    ] in
    subst (λ (p : Phase). Tells p cursor line kind) (sym c.in-Items.is) reported

pub returns-in_err-next : goal.returns-in_err-next
returns-in_err-next c =
    let line = c.args.line.now in
    let cursor = c.args.cursor.now in
    let runs : List Run = c.args.runs.now.items in
    let kind : Kind = c.in_err-next.field-0.0 in
    let was = c.replace-was.ensures.value in
    let reported : Tells c.args.phase.now cursor line kind = subst (λ (p : Phase). Tells p cursor line kind) was c.in_err-next.ensures.fault in
    rw (error_is c.from_residual.result c.from_residual.ensures.1) (record {
      advance = tt;
      going = tt;
      refused = c.replace-was.ensures.after;
      fault = reported;
      kept = ([], sym (append-nil runs));
      unspent = tt;
      spent = λ r. let s = c.in_err-next.ensures.spent (ap is_refused was ∙ r) in let e : kind ≡ Spent = cc in ap Err e;
      free = λ o. absurd (let t : false ≡ true = c.in_err-next.ensures.free (ap is_over was ∙ o) in cc);
    })
