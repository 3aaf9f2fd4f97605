use Rattle.std.proofs.Common.{◌≡◌, ◌⊎◌, ℕ, true, false, List, [], ◌∷◌, ◌++◌, Err, sym, ap, ◌∙◌, subst, inl, inr}
use Rattle.life_base.proofs.Results.{error_is}
use Rattle.life_base.specs.declared.kind.Kind.{Kind}
use Rattle.life_base.specs.declared.kind.Kind.TheVariants.{Memory, Spent}
use Rattle.life_base.specs.declared.cell.TheConstants.{MAX_LEVEL}
use Rattle.life_base.specs.Refusal.{Prefix, is_placeless}
use Rattle.life_rle.specs.declared.cursor.Cursor.{Cursor}
use Rattle.life_rle.specs.declared.lines.Phase.{Phase}
use Rattle.life_base.specs.Lines.{LinesRead}
use Rattle.life_rle.specs.File.{HasRuns}
use Rattle.life_rle.specs.Standing.{StandsAt, is_refused, is_over}
use Rattle.life_rle.specs.Grammar.{IsSomeRle, IsMarked, BreaksRle}
use Rattle.life_rle.specs.Pattern.{Rle}
use Rattle.life_rle.proofs.LineKinds.{Breaks-placed}
use Rattle.life_rle.proofs.Stands.{StandsAt-Prefix, marked-is_over}
use Rattle.life_rle.proofs.lines.RleLines.line_into.Goals as goal

-- a line was refused for lack of memory, or after another one, or it breaks a rule
abbrev Reported : Phase → Kind → Type 0 → Type 0
Reported phase kind Broken = (kind ≡ Memory) ⊎ ((kind ≡ Spent) × (is_refused phase ≡ true)) ⊎ Broken

-- what a refused line breaks, reported of the lines that the reader has taken
refused-for : (phase : Phase) (cursor : Cursor) (lines : List (List ℕ)) (line : List ℕ) (kind : Kind) → StandsAt MAX_LEVEL phase cursor lines
    → Reported phase kind ((before : List (List ℕ)) → StandsAt MAX_LEVEL phase cursor before → BreaksRle MAX_LEVEL before line kind)
    → Reported phase kind (BreaksRle MAX_LEVEL lines line kind)
refused-for phase cursor lines line kind h (inl m) = inl m
refused-for phase cursor lines line kind h (inr (inl s)) = inr (inl s)
refused-for phase cursor lines line kind h (inr (inr f)) = inr (inr (f lines h))

pub returns-clause-prefix : goal.returns-clause-prefix
returns-clause-prefix c =
    let inside = c.self.inside in
    let next = c.after_line.new in
    subst (Prefix (IsSomeRle MAX_LEVEL)) (sym c.then-self-inside.ensures)
    (StandsAt-Prefix MAX_LEVEL next.phase next.cursor (inside.log.lines ++ c.args.line.now ∷ [])
    (c.in_ok-after_line.ensures.advance.advances.stands inside.log.lines c.self.invariant) c.in_ok-after_line.ensures.going)

pub returns-clause-runs : goal.returns-clause-runs
returns-clause-runs c =
    let inside = c.self.inside in
    let took = c.in_ok-after_line.ensures.advance in
    record {
      runs = took.runs;
      added = took.added;
      found = λ before h.
          let known : HasRuns MAX_LEVEL inside.log.lines before = subst (λ (v : LinesRead). HasRuns MAX_LEVEL v.lines before) (sym c.self.view_is) h in
          subst (λ ls. HasRuns MAX_LEVEL ls (before ++ took.runs)) (sym c.then-self-inside.ensures)
          (took.advances.found inside.log.lines before c.self.invariant known);
    }

pub returns-in_err-after_line-clause-fault : goal.returns-in_err-after_line-clause-fault
returns-in_err-after_line-clause-fault c =
    let inside = c.self.inside in
    let line = c.args.line.now in
    let kind : Kind = c.in_err-after_line.field-0.0 in
    let reported =
    refused-for inside.phase inside.cursor inside.log.lines line kind c.self.invariant c.in_err-after_line.ensures.fault in
    let answer : (kind ≡ Memory) ⊎ (kind ≡ Spent) ⊎ BreaksRle MAX_LEVEL c.args.self.now.lines line kind =
    elim reported [
      | inl m ↦ inl m
      | inr e ↦ elim e [ inl s ↦ inr (inl s.0) | inr b ↦ inr (inr (subst (λ (v : LinesRead). BreaksRle MAX_LEVEL v.lines line kind) c.self.view_is b)) ]
    ] in
    rw (error_is c.from_residual.result c.from_residual.ensures.1) answer

pub returns-in_err-after_line-clause-spent : goal.returns-in_err-after_line-clause-spent
returns-in_err-after_line-clause-spent c =
    let inside = c.self.inside in
    let kind : Kind = c.in_err-after_line.field-0.0 in
    let phase : Phase = inside.phase in
    let reported =
    refused-for phase inside.cursor inside.log.lines c.args.line.now kind c.self.invariant c.in_err-after_line.ensures.fault in
    let refused : is_refused phase ≡ c.args.self.now.refused = ap (λ (v : LinesRead). v.refused) c.self.view_is in
    let spent : kind ≡ Spent → c.args.self.now.refused ≡ true = λ e.
    elim reported [
      | inl m ↦ absurd (other kind m e)
      | inr t ↦ elim t [ inl s ↦ sym refused ∙ s.1 | inr b ↦ absurd (placed kind e (Breaks-placed MAX_LEVEL inside.log.lines c.args.line.now kind b)) ]
    ] in
    rw (error_is c.from_residual.result c.from_residual.ensures.1) (
      λ h. let e : kind ≡ Spent = cc in spent e,
      λ r. let s = c.in_err-after_line.ensures.spent (refused ∙ r) in let e : kind ≡ Spent = cc in ap Err e,
    )
  where
    other : (kind : Kind) → kind ≡ Memory → kind ≡ Spent → ⊥
    other kind m e = cc

    placed : (kind : Kind) → kind ≡ Spent → is_placeless kind ≡ false → ⊥
    placed kind e p = let t : true ≡ false = ap is_placeless (sym e) ∙ p in cc

-- after the mark
free : (phase : Phase) (cursor : Cursor) (lines : List (List ℕ)) (self : LinesRead) (P : Type 0) → StandsAt MAX_LEVEL phase cursor lines
    → self ≡ record { lines = lines; refused = is_refused phase } → (is_over phase ≡ true → P) → self.refused ≡ false
    → ((file : Rle) × IsMarked MAX_LEVEL self.lines file) → P
free phase cursor lines self P h v p r (file, m) =
    p (marked-is_over MAX_LEVEL phase cursor lines file h (sym (ap (λ (s : LinesRead). s.refused) v) ∙ r)
    (subst (λ (s : LinesRead). IsMarked MAX_LEVEL s.lines file) v m))

pub returns-clause-free : goal.returns-clause-free
returns-clause-free c =
    let inside = c.self.inside in
    free inside.phase inside.cursor inside.log.lines c.args.self.now _ c.self.invariant (sym c.self.view_is) c.in_ok-after_line.ensures.free

pub returns-in_err-after_line-clause-free : goal.returns-in_err-after_line-clause-free
returns-in_err-after_line-clause-free c =
    let inside = c.self.inside in
    λ r m. absurd (free inside.phase inside.cursor inside.log.lines c.args.self.now ⊥ c.self.invariant (sym c.self.view_is)
    c.in_err-after_line.ensures.free r m)
