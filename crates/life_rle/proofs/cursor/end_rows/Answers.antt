use Rattle.std.proofs.Common.{◌≡◌, None, Some, true, cond, sym, ap, subst, append-nil, arith, pos, ◌+ℤ◌, int_le}
use Rattle.std.proofs.lemmas.Int.{ints}
use Rattle.life_base.specs.declared.cell.TheConstants.{MAX_LEVEL}
use Rattle.life_base.specs.declared.kind.Kind.TheVariants.{OutOfPlane}
use Rattle.life_base.specs.declared.rule.Rule.{Rule}
use Rattle.life_rle.specs.declared.item.Item.TheVariants.{RowEnds}
use Rattle.life_rle.specs.Cursor.{IsNear}
use Rattle.life_rle.specs.Pattern.{item_fault}
use Rattle.life_rle.specs.Plane.{rle_plane_end}
use Rattle.life_rle.proofs.RowLimits.{cursor-near}
use Rattle.life_rle.proofs.cursor.end_rows.Goals as goal

pub returns-then-cursor-count-le-EDGE-clause-takes : goal.returns-then-cursor-count-le-EDGE-clause-takes
returns-then-cursor-count-le-EDGE-clause-takes c =
    let here = c.args.cursor in
    let inside : int_le (here.y +ℤ pos c.args.count) (rle_plane_end MAX_LEVEL) ≡ true = grind (arith, ints, c.if-cursor-count-le-EDGE.true) in
    let sound : (rule : Rule) → item_fault MAX_LEVEL rule here.y here.x (RowEnds c.args.count) ≡ None =
    λ rule. ap (λ b. cond b None (Some OutOfPlane)) inside in
    λ rule runs. record {
      sound = sound rule;
      cursor = c.cursor_after.ensures;
      near = subst (IsNear MAX_LEVEL) (sym c.cursor_after.ensures) (cursor-near rule here (RowEnds c.args.count) c.requires.near (sound rule));
      runs = sym (append-nil runs);
    }
