use Rattle.std.proofs.Common.{refl, ap, arith, sym}
use Rattle.life_strip.specs.declared.spans.Span.{Span}
use Rattle.life_strip.specs.Strip.{id_or}
use Rattle.life_strip.proofs.WordLemmas.{past-next, past-none}
use Rattle.life_strip.proofs.spans.square_in_column.Goals as goal

-- of an index that is none of the strip
abbrev none : Span
none = record { start = 0; end = 0; square = record { 0 = 0 } }

pub loop-span-init : goal.loop-span-init
loop-span-init c x le = refl

pub loop-span-preserved : goal.loop-span-preserved
loop-span-preserved c =
    past-next c.args.spans.now c.loop-span.span-index c.args.column none c.loop-span.invariant (omega (arith, c.loop-span-test.true)) c.args.column
    (omega arith) c.if-column-span.false

pub returns : goal.returns
returns c =
    sym (ap (id_or c.args.blank) (past-none c.args.spans.now c.loop-span.span-index c.args.column c.loop-span.invariant
    (omega (arith, c.loop-span-test.false)) c.args.column (omega arith)))
