use Rattle.std.proofs.Common.{◌≡◌, [], All, subst, arith}
use Rattle.std.proofs.lemmas.List.{nil_from_length, take_all}
use Rattle.std.proofs.lemmas.List.Elements.{All-more}
use Rattle.life_strip.specs.declared.row.Row.{Row}
use Rattle.life_strip.proofs.rows.have_blocks.Goals as goal

pub loop-row-preserved : goal.loop-row-preserved
loop-row-preserved c =
    let row = c.row-item.result in
    let none = nil_from_length row.spans.items (grind (arith, c.is_empty.ensures, c.if-not-is_empty.false)) in
    All-more (λ (r : Row). r.spans.items ≡ []) c.args.rows.now c.loop-row.row-index row (omega (arith, c.loop-row-test.true)) c.loop-row.invariant
    (subst (λ (r : Row). r.spans.items ≡ []) c.row-item.is none)

pub returns : goal.returns
returns c true =
    subst (All (λ (r : Row). r.spans.items ≡ [])) (take_all c.loop-row.row-index c.args.rows.now (omega (arith, c.loop-row-test.false))) c.loop-row.invariant
