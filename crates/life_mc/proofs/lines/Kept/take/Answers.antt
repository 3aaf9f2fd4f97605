use Rattle.std.proofs.Common.{◌≡◌, ◌<◌, ◌≤◌, ◌^◌, ◌∙◌, ◌⊎◌, ap, sym, inl, inr, refl, List, ℕ, Bool, true, false, length, arith, Some, ltb-true, ltb-false}
use Rattle.life_base.proofs.Results.{error_is}
use Rattle.life_base.specs.Text.{is_too_long}
use Rattle.life_base.specs.declared.kind.Kind.{Kind}
use Rattle.life_base.specs.declared.kind.Kind.TheVariants.{Memory}
use Rattle.life_mc.specs.Reading.{broken_rule, broken_after}
use Rattle.life_mc.specs.Standing.{Standing, StandsAfter}
use Rattle.life_mc.specs.declared.line.ParsedLine.TheVariants.{NodeLine}
use Rattle.life_mc.proofs.Stands.{breaks_length, breaks_header, broken_is, stands_first, keeps_next}
use Rattle.life_base.specs.declared.cell.TheConstants.{MAX_LEVEL}
use Rattle.life_mc.proofs.lines.Kept.take.Goals as goal
use Rattle.life_mc.proofs.lines.Kept.take.Goals.{After-begins_with, After-begins_with_digit}

long : (line : List ℕ) (v : Bool) → v ≡ is_too_long line → v ≡ true → 2 ^ 20 < length line
long line v e h = omega (arith, ltb-true (2 ^ 20) (length line) (sym e ∙ h))

short : (line : List ℕ) (v : Bool) → v ≡ is_too_long line → v ≡ false → length line ≤ 2 ^ 20
short line v e h = omega (arith, ltb-false (2 ^ 20) (length line) (sym e ∙ h))

pub returns-then-is_too_long-clause-err : goal.returns-then-is_too_long-clause-err
returns-then-is_too_long-clause-err c = λ lines s.
    inr (breaks_length MAX_LEVEL lines c.args.line.now (long c.args.line.now c.is_too_long.result c.is_too_long.ensures c.if-is_too_long.true))

-- ---- the header

-- no line came before this one, which is short
first : (c : After-begins_with) → (c.args.self.now.started ≡ false) × (length c.args.line.now ≤ 2 ^ 20)
first c = (
  ap (λ (v : Standing). v.started) (sym c.self.view_is) ∙ c.if-not-self.true,
  short c.args.line.now c.is_too_long.result c.is_too_long.ensures c.if-is_too_long.false,
)

pub returns-then-not-begins_with-clause-err : goal.returns-then-not-begins_with-clause-err
returns-then-not-begins_with-clause-err c = λ lines s.
    let f = first (goal.at.returns-then-not-begins_with-clause-err c).After-begins_with in
    inr (breaks_header MAX_LEVEL lines c.args.line.now c.args.self.now s f.1 f.0 (sym c.begins_with.ensures ∙ c.if-not-begins_with.true))

pub returns-then-not-self-clause-ok : goal.returns-then-not-self-clause-ok
returns-then-not-self-clause-ok c = λ lines s.
    let f = first (goal.at.returns-then-not-self-clause-ok c).After-begins_with in
    stands_first MAX_LEVEL lines c.args.line.now c.args.self.now _ s f.1 f.0 (sym c.begins_with.ensures ∙ c.if-not-begins_with.false) refl
    (ap (λ (v : Standing). v.rule) c.self.view_is) (ap (λ (v : Standing). v.generation) c.self.view_is) (ap (λ (v : Standing). v.levels) c.self.view_is)

-- ---- a line after the header

-- a line came before this one, which is short
later : (c : After-begins_with_digit) → (c.args.self.now.started ≡ true) × (length c.args.line.now ≤ 2 ^ 20)
later c = (
  ap (λ (v : Standing). v.started) (sym c.self.view_is) ∙ c.if-not-self.false,
  short c.args.line.now c.is_too_long.result c.is_too_long.ensures c.if-is_too_long.false,
)

-- what is kept decides what the line breaks
broken : (c : After-begins_with_digit) (lines : List (List ℕ)) → StandsAfter MAX_LEVEL lines c.args.self.now
    → broken_rule MAX_LEVEL lines c.args.line.now ≡ broken_after MAX_LEVEL c.args.self.now.rule c.args.self.now.levels c.args.line.now
broken c lines s = let l = later c in broken_is MAX_LEVEL lines c.args.line.now c.args.self.now s l.1 l.0

-- the same by the rule and the levels that the readers of a line are lent
same : (c : After-begins_with_digit) (levels : List ℕ) → levels ≡ c.self.inside.levels.items
    → broken_after MAX_LEVEL c.args.self.now.rule c.args.self.now.levels c.args.line.now
    ≡ broken_after MAX_LEVEL c.self.inside.rule levels c.args.line.now
same c levels e =
    ap (λ (v : Standing). broken_after MAX_LEVEL v.rule v.levels c.args.line.now) (sym c.self.view_is)
    ∙ ap (λ (ls : List ℕ). broken_after MAX_LEVEL c.self.inside.rule ls c.args.line.now) (sym e)

pub returns-in_err-square-clause-err : goal.returns-in_err-square-clause-err
returns-in_err-square-clause-err c = λ lines s.
    let w = (goal.at.returns-in_err-square-clause-err c).After-begins_with_digit in
    let kind : Kind = c.in_err-square.field-0.0 in
    let answer : (kind ≡ Memory) ⊎ (broken_rule MAX_LEVEL lines c.args.line.now ≡ Some kind) =
    inr (broken w lines s ∙ same w _ c.deref.ensures.value ∙ c.in_err-square.ensures) in
    rw (error_is c.from_residual.result c.from_residual.ensures.1) answer

pub returns-then-begins_with_digit-clause-ok : goal.returns-then-begins_with_digit-clause-ok
returns-then-begins_with_digit-clause-ok c = λ lines s.
    let w = (goal.at.returns-then-begins_with_digit-clause-ok c).After-begins_with_digit in
    let kept = c.keep_square.ensures in
    keeps_next MAX_LEVEL lines c.args.line.now c.args.self.now c.keep_square.new.self s (later w).1 (NodeLine c.in_ok-square.square) c.keep_square.result
    (later w).0 (same w _ c.deref.ensures.value ∙ c.in_ok-square.ensures.1) c.in_ok-square.ensures.0
    kept.square kept.rule kept.generation kept.levels kept.started

pub returns-in_err-square-2-clause-err : goal.returns-in_err-square-2-clause-err
returns-in_err-square-2-clause-err c = λ lines s.
    let w = (goal.at.returns-in_err-square-2-clause-err c).After-begins_with_digit in
    let kind : Kind = c.in_err-square-2.field-0.0 in
    let answer : (kind ≡ Memory) ⊎ (broken_rule MAX_LEVEL lines c.args.line.now ≡ Some kind) =
    inr (broken w lines s ∙ c.in_err-square-2.ensures c.args.self.now.rule c.args.self.now.levels) in
    rw (error_is c.from_residual-in_err-square-2.result c.from_residual-in_err-square-2.ensures.1) answer

pub returns-then-is_leaf_line-clause-ok : goal.returns-then-is_leaf_line-clause-ok
returns-then-is_leaf_line-clause-ok c = λ lines s.
    let w = (goal.at.returns-then-is_leaf_line-clause-ok c).After-begins_with_digit in
    let keeping = c.keep_square-then-is_leaf_line in
    let kept = keeping.ensures in
    let parsed = c.in_ok-square-2.ensures c.args.self.now.rule c.args.self.now.levels in
    keeps_next MAX_LEVEL lines c.args.line.now c.args.self.now keeping.new.self s (later w).1 (NodeLine c.in_ok-square-2.square) keeping.result
    (later w).0 parsed.1 parsed.0 kept.square kept.rule kept.generation kept.levels kept.started

pub returns-in_err-parsed-clause-err : goal.returns-in_err-parsed-clause-err
returns-in_err-parsed-clause-err c = λ lines s.
    let w = (goal.at.returns-in_err-parsed-clause-err c).After-begins_with_digit in
    let kind : Kind = c.in_err-parsed.field-0.0 in
    let answer : (kind ≡ Memory) ⊎ (broken_rule MAX_LEVEL lines c.args.line.now ≡ Some kind) = elim c.in_err-parsed.ensures [
      | inl m ↦ inl m
      | inr b ↦ inr (broken w lines s ∙ same w _ c.deref-2.ensures.value ∙ b)
    ] in
    rw (error_is c.from_residual-in_err-parsed.result c.from_residual-in_err-parsed.ensures.1) answer

pub returns-clause-ok : goal.returns-clause-ok
returns-clause-ok c = λ lines s.
    let w = (goal.at.returns-clause-ok c).After-begins_with_digit in
    let kept = c.keep.ensures in
    keeps_next MAX_LEVEL lines c.args.line.now c.args.self.now c.keep.new.self s (later w).1 c.in_ok-parsed.parsed c.keep.result
    (later w).0 (same w _ c.deref-2.ensures.value ∙ c.in_ok-parsed.ensures.1) c.in_ok-parsed.ensures.0
    kept.square kept.rule kept.generation kept.levels kept.started
