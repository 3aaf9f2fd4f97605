use Rattle.std.proofs.Common.{◌≤◌, arith}
use Rattle.life_rows.proofs.PutLemmas.{puts-both, puts-none}
use Rattle.life_rows.proofs.row_cells.push_pieces.Goals as goal

pub loop-from-init : goal.loop-from-init
loop-from-init c = record {
  after = omega arith;
  within = omega (arith, c.requires.some);
  puts = puts-none c.args.words.now.items c.args.start c.requires.words c.requires.before;
}

pub loop-from-preserved : goal.loop-from-preserved
loop-from-preserved c =
    let inv = c.loop-from.invariant in
    let min = c.min-to.ensures in
    let more = c.loop-from-test.true in
    let further : c.loop-from.from ≤ c.min-to.result = omega (arith, min, more) in record {
      after = omega (arith, inv.after, further);
      within = omega (arith, min);
      puts = puts-both c.args.words.now.items c.loop-from.words.items c.push_piece.new.words.items c.args.start c.loop-from.from c.min-to.result
          inv.after further inv.puts c.in_ok-push_piece.ensures.puts;
    }
