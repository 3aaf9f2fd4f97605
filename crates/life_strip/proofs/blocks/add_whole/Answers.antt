use Rattle.std.proofs.Common.{arith, refl, sym, subst, ◌*◌}
use Rattle.life_strip.specs.Blocks.{AddsCells}
use Rattle.life_strip.proofs.BlockLemmas.{adds-whole}
use Rattle.life_strip.proofs.blocks.add_whole.Goals as goal

pub returns-clause-adds : goal.returns-clause-adds
returns-clause-adds c =
    subst (λ z. AddsCells c.args.blocks.now.items z (64 * c.args.start) (64 * c.args.end)) (sym c.in_ok-push.ensures.items)
    (adds-whole c.args.blocks.now.items (record { start = c.args.start; end = c.args.end; cells = 18446744073709551615 }) c.requires.blocks c.requires.before
    (omega (arith, c.requires.order, c.if-start-end.false)) c.requires.within refl)
