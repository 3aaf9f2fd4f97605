use Rattle.std.proofs.Common.{◌≡◌, ◌∙◌, ◌+◌, ◌≤◌, ap, arith, rules, drop, length}
use Rattle.std.proofs.Math.ListN.{drop_of_length-le}
use Rattle.life_base.proofs.Results.{error_is}
use Rattle.life_base.proofs.LineEnds.{all_behind}
use Rattle.life_base.specs.declared.cell.TheConstants.{MAX_LEVEL}
use Rattle.life_base.specs.declared.kind.Kind.{Kind}
use Rattle.life_rle.specs.Items.{Broken, leading_digits, item_after, next_of}
use Rattle.life_rle.specs.Reader.{digits}
use Rattle.life_rle.proofs.DigitInPrefix.{NumberAt, number_at}
use Rattle.life_rle.proofs.item.long_count.Goals as goal

pub returns-in_err-check_count : goal.returns-in_err-check_count
returns-in_err-check_count c =
    let line = c.args.line.now in
    let read = c.leading_number-count in
    let found : NumberAt MAX_LEVEL line c.args.at read.result.0 read.result.1 =
    number_at MAX_LEVEL line _ c.args.at _ _ c.requires.inside c.requires.digit (all_behind line c.args.at) read.ensures.number read.ensures.count in
    let kind : Kind = c.in_err-check_count.field-0.0 in
    let answer : next_of MAX_LEVEL (drop c.args.at line) ≡ Broken kind =
    found.reported ∙ c.in_err-check_count.ensures.err (leading_digits (drop c.args.at line)) (drop (c.args.at + read.result.1) line) found.digits found.value in
    rw (error_is c.from_residual.result c.from_residual.ensures.1) answer

pub returns-then-at-digits : goal.returns-then-at-digits
returns-then-at-digits c =
    let line = c.args.line.now in
    let read = c.leading_number-count in
    let found : NumberAt MAX_LEVEL line c.args.at read.result.0 read.result.1 =
    number_at MAX_LEVEL line _ c.args.at _ _ c.requires.inside c.requires.digit (all_behind line c.args.at) read.ensures.number read.ensures.count in
    let over : length line ≤ c.args.at + read.result.1 = omega (arith, c.if-at-digits.true) in
    found.reported ∙ c.in_ok-check_count.ensures.ok (leading_digits (drop c.args.at line)) (drop (c.args.at + read.result.1) line) found.digits found.value
    ∙ ap (item_after read.result.0) (drop_of_length-le line {i = c.args.at + read.result.1} over)

pub returns : goal.returns
returns c =
    let line = c.args.line.now in
    let read = c.leading_number-count in
    let found : NumberAt MAX_LEVEL line c.args.at read.result.0 read.result.1 =
    number_at MAX_LEVEL line _ c.args.at _ _ c.requires.inside c.requires.digit (all_behind line c.args.at) read.ensures.number read.ensures.count in (
      digits (omega (arith, found.some))
          (found.reported ∙ c.in_ok-check_count.ensures.ok (leading_digits (drop c.args.at line))
          (drop (c.args.at + read.result.1) line) found.digits found.value),
      search rules,
    )
