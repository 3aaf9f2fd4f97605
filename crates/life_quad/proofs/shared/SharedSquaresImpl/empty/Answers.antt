use Rattle.std.proofs.Common.{subst}
use Rattle.life_quad.specs.Store.{Knows, IsShared}
use Rattle.life_quad.specs.contracts.shared.Shared.{the_view}
use Rattle.life_quad.proofs.shared.SharedSquaresImpl.empty.Goals as goal

pub returns : goal.returns
returns c =
    let blank = c.of_blank.ensures in
    record {
      known = subst (λ v. Knows v c.of_blank.result × IsShared v) c.self.view_is (blank.known (the_view c.self.inside) c.self.invariant.0, c.self.invariant.1);
      square = blank.square c.args.self.now;
      level = blank.level c.args.self.now;
      alone = λ id known. blank.alone c.args.self.now id known.0;
    }
