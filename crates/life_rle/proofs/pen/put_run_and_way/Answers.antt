use Rattle.std.proofs.Common.{◌≡◌, ◌∷◌, [], subst, rules}
use Rattle.std.proofs.lemmas.Result.{on_ok_weaker}
use Rattle.life_rle.specs.declared.item.Item.{Item}
use Rattle.life_rle.specs.Written.{way_to, with_gap}
use Rattle.life_rle.specs.Writer.{column_after_run, item_of, PutsItems}
use Rattle.life_rle.proofs.PutItems.{Puts-then}
use Rattle.life_rle.proofs.TakeCells.{distance_is, way-along, way-down}
use Rattle.life_rle.proofs.pen.put_run_and_way.Goals as goal

pub returns-then-count-eq0-clause-way : goal.returns-then-count-eq0-clause-way
returns-then-count-eq0-clause-way c =
    let cell = c.args.cell.now in
    let left = c.args.left in
    let y = c.args.run.y in
    let after = c.column_behind.result in
    let rows = distance_is c.distance-count.result y cell.y (search rules) (search rules) c.distance-count.ensures in
    let columns = distance_is c.distance-gap.result after cell.x (search rules) (search rules) c.distance-gap.ensures in
    let way = subst (λ x. with_gap c.distance-gap.result [] ≡ way_to left x y cell []) c.column_behind.ensures
    (way-along left after y cell _ _ rows c.if-count-eq0.true columns) in
    on_ok_weaker c.put_run.result (subst (λ is. PutsItems c.args.rule.now c.args.lines.now (item_of c.args.run ∷ is) c.put_run.new.self) way)
    c.put_run.ensures.run

pub returns-clause-way : goal.returns-clause-way
returns-clause-way c =
    let cell = c.args.cell.now in
    let rule = c.args.rule.now in
    let old = c.args.lines.now in
    let x = column_after_run c.args.run in
    let y = c.args.run.y in
    let rows = distance_is c.distance-count.result y cell.y (search rules) (search rules) c.distance-count.ensures in
    let columns = distance_is c.distance.result c.args.left cell.x (search rules) (search rules) c.distance.ensures in
    let item = subst (λ (item : Item). PutsItems rule old (item ∷ []) c.put_item.new.self) c.item_of.ensures c.in_ok-put_item.ensures.item in
    on_ok_weaker c.put_gap.result
    (λ gap. Puts-then rule (item_of c.args.run ∷ []) (way_to c.args.left x y cell []) old c.put_item.new.self c.put_gap.new.self item
    (way-down rule c.args.left x y cell _ _ c.put_item.new.self c.put_item-2.new.self c.put_gap.new.self rows c.if-count-eq0.false columns
    c.in_ok-put_item-2.ensures.item gap))
    c.put_gap.ensures.gap
