use Rattle.std.proofs.Common.{◌≡◌, None, sym, subst, rules}
use Rattle.life_base.specs.declared.cell.TheConstants.{MAX_LEVEL}
use Rattle.life_rle.specs.declared.item.Item.{Item}
use Rattle.life_rle.specs.declared.item.Item.TheVariants.{Cells}
use Rattle.life_rle.specs.Pattern.{item_fault}
use Rattle.life_rle.specs.Cursor.{IsNear}
use Rattle.life_rle.proofs.RowLimits.{cursor-near}
use Rattle.life_rle.proofs.line_items.take_cells.Goals as goal

pub returns : goal.returns
returns c =
    let now = c.args.cursor in
    let item : Item = Cells c.args.count c.args.state in
    let sound : item_fault MAX_LEVEL c.args.rule.now now.y now.x item ≡ None = search rules in
    record {
      sound = sound;
      cursor = search rules;
      near = subst (IsNear MAX_LEVEL) (sym c.cursor_after.ensures) (cursor-near c.args.rule.now now item c.requires.near sound);
      runs = search rules;
    }
