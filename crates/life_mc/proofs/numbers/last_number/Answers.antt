use Rattle.std.proofs.Common.{◌≤◌, ◌+◌, ◌%◌, length, arith}
use Rattle.life_mc.proofs.FewDigits.{begun_space, digit_next, few_written, space_left}
use Rattle.life_mc.proofs.numbers.last_number.Goals as goal
use Rattle.life_mc.proofs.numbers.last_number.Goals.{else-count-eq0-via-then-count-eq0+else-text-from, else-count-eq0-via-else-count-eq0}

pub overflow_mul-number : goal.overflow_mul-number
overflow_mul-number c = omega (
  arith,
  few_written c.args.text.now c.args.from (c.args.from + c.loop-count.count) c.loop-count.number c.loop-count.invariant.written
      (omega (arith, c.loop-count-test.true)),
)

pub overflow_add-number : goal.overflow_add-number
overflow_add-number c = omega (
  arith,
  few_written c.args.text.now c.args.from (c.args.from + c.loop-count.count) c.loop-count.number c.loop-count.invariant.written
      (omega (arith, c.loop-count-test.true)),
  c.if-digit-gt9.false,
)

pub bounds-text-at : goal.bounds-text-at
bounds-text-at c = elim c.else-count-eq0.branch [
  | else-count-eq0-via-then-count-eq0+else-text-from w ↦ omega (arith, c.requires, w.if-count-eq0, w.if-text-from)
  | else-count-eq0-via-else-count-eq0 w ↦ begun_space c.args.from c.loop-count.count (length c.args.text.now)
      (c.loop-count.invariant.space (omega (arith, w.if-count-eq0)))
]

pub loop-count-preserved : goal.loop-count-preserved
loop-count-preserved c =
    let n = length c.args.text.now in
    let count = c.loop-count.count in
    let digit = c.digit_of-digit.ensures (omega (arith, c.if-digit-gt9.false)) in
    let space : c.args.from + count + 4 ≤ n + count % 4 = elim c.else-count-eq0.branch [
      | else-count-eq0-via-then-count-eq0+else-text-from w ↦ omega (arith, c.requires, w.if-count-eq0, w.if-text-from)
      | else-count-eq0-via-else-count-eq0 w ↦ c.loop-count.invariant.space (omega (arith, w.if-count-eq0))
    ] in
    record {
      written = digit_next c.args.text.now c.args.from count c.loop-count.number c.digit_of-digit.result c.loop-count.invariant.written
          (begun_space c.args.from count n space) digit.0 digit.1;
      space = space_left c.args.from count n space;
    }
