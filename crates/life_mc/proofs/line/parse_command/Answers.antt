use Rattle.std.proofs.Common.{◌≡◌, ◌∙◌, ◌-◌, ap, sym, inl, inr, drop, take, length, Ok, Err, List, ℕ, ◌⊎◌, Option, Some}
use Rattle.life_base.specs.Text.{trim, value_of}
use Rattle.life_base.specs.Numbers.{u64_of}
use Rattle.life_base.specs.Refusal.{Answers}
use Rattle.life_base.specs.Rules.{rule_of}
use Rattle.life_base.specs.declared.cell.TheConstants.{MAX_LEVEL}
use Rattle.life_base.specs.declared.kind.Kind.{Kind}
use Rattle.life_base.specs.declared.kind.Kind.TheVariants.{Memory}
use Rattle.life_base.specs.declared.rule.Rule.{Rule}
use Rattle.life_base.proofs.LineEnds.{all_behind}
use Rattle.std.specs.Result.{result_err}
use Rattle.life_base.proofs.Results.{error_is}
use Rattle.life_mc.proofs.Stands.{rule_breaks, rule_parsed_so, generation_breaks, generation_parsed_so, none_left}
use Rattle.life_mc.proofs.line.parse_command.Goals as goal

rule_read : (line : List ℕ) (rule : Rule) → Answers (Ok rule) (rule_of (take (length line - 2) (drop 2 line))) → rule_of (drop 2 line) ≡ Ok rule
rule_read line rule (inl m) = cc
rule_read line rule (inr e) = ap rule_of (sym (all_behind line 2)) ∙ sym e

rule_refused : (line : List ℕ) (kind : Kind) (breaks : Option Kind) → breaks ≡ result_err (rule_of (drop 2 line))
    → Answers (Err kind) (rule_of (take (length line - 2) (drop 2 line))) → (kind ≡ Memory) ⊎ (breaks ≡ Some kind)
rule_refused line kind breaks b (inl m) = inl cc
rule_refused line kind breaks b (inr e) = inr (b ∙ ap (λ (t : List ℕ). result_err (rule_of t)) (sym (all_behind line 2)) ∙ ap result_err (sym e))

pub returns-in_err-parse : goal.returns-in_err-parse
returns-in_err-parse c =
    let line = c.args.line.now in
    let levels = c.args.levels.now in
    let breaks = rule_breaks MAX_LEVEL c.args.rule.now levels line
    (sym c.is_blank.ensures ∙ c.if-is_blank.false) (sym c.begins_with.ensures ∙ c.if-begins_with.false)
    (sym c.is_command.ensures ∙ c.if-is_command.true) (none_left levels c.is_empty.result c.is_empty.ensures c.if-not-is_empty.false) in
    rw (error_is c.from_residual.result c.from_residual.ensures.1) (rule_refused line c.in_err-parse.field-0.0 _ breaks c.in_err-parse.ensures)

pub returns-then-is_command : goal.returns-then-is_command
returns-then-is_command c =
    let line = c.args.line.now in
    let levels = c.args.levels.now in
    let rule = sym c.is_command.ensures ∙ c.if-is_command.true in
    let read = rule_read line c.in_ok-parse.field-0 c.in_ok-parse.ensures in (
      rule_parsed_so line c.in_ok-parse.field-0 rule read,
      rule_breaks MAX_LEVEL c.args.rule.now levels line (sym c.is_blank.ensures ∙ c.if-is_blank.false) (sym c.begins_with.ensures ∙ c.if-begins_with.false) rule
          (none_left levels c.is_empty.result c.is_empty.ensures c.if-not-is_empty.false) ∙ ap result_err read,
    )

pub returns-in_err-read_generation : goal.returns-in_err-read_generation
returns-in_err-read_generation c =
    let line = c.args.line.now in
    let levels = c.args.levels.now in
    let breaks = generation_breaks MAX_LEVEL c.args.rule.now levels line
    (sym c.is_blank.ensures ∙ c.if-is_blank.false) (sym c.begins_with.ensures ∙ c.if-begins_with.false)
    (sym c.is_command.ensures ∙ c.if-is_command.false) (sym c.is_command-2.ensures ∙ c.if-is_command-2.true)
    (none_left levels c.is_empty-then-is_command-2.result c.is_empty-then-is_command-2.ensures c.if-not-is_empty-2.false) in
    rw (error_is c.from_residual-in_err-read_generation.result c.from_residual-in_err-read_generation.ensures.1)
    (inr (breaks ∙ ap (λ (t : List ℕ). result_err (u64_of (trim t))) (sym (all_behind line 2)) ∙ c.in_err-read_generation.ensures))

pub returns-then-is_command-2 : goal.returns-then-is_command-2
returns-then-is_command-2 c =
    let line = c.args.line.now in
    let levels = c.args.levels.now in
    let rule = sym c.is_command.ensures ∙ c.if-is_command.false in
    let generation = sym c.is_command-2.ensures ∙ c.if-is_command-2.true in
    let read = c.in_ok-read_generation.ensures in (
      generation_parsed_so line c.in_ok-read_generation.field-0 rule generation (read.0 ∙ ap (λ (t : List ℕ). value_of (trim t)) (all_behind line 2)),
      generation_breaks MAX_LEVEL c.args.rule.now levels line
          (sym c.is_blank.ensures ∙ c.if-is_blank.false) (sym c.begins_with.ensures ∙ c.if-begins_with.false) rule generation
          (none_left levels c.is_empty-then-is_command-2.result c.is_empty-then-is_command-2.ensures c.if-not-is_empty-2.false)
          ∙ ap (λ (t : List ℕ). result_err (u64_of (trim t))) (sym (all_behind line 2)) ∙ read.1,
    )
