-- Joins one after the other.
use Rattle.std.proofs.Common.{get_or, inr, arith}
use Rattle.std.proofs.lemmas.List.{get_or_default}
use Rattle.life_quad.proofs.JoinAllLemmas.{no_quarters, can_join, joined-none, joined-next, joined-all, joined-refused}
use Rattle.life_quad.proofs.squares.Squares.join_all.Goals as goal

pub loop-i-init : goal.loop-i-init
loop-i-init g c = joined-none c.args.self.now c.args.quarters.now c.args.squares.now c.requires.length (λ j q d lt. inr tt)

pub join-requires : goal.join-requires
join-requires g c =
    let can = can_join c.loop-i.invariant.keeps (c.requires.each c.loop-i.i no_quarters c.loop-i-test.true) in
    record {
      nw = can.nw;
      ne = can.ne;
      sw = can.sw;
      se = can.se;
      ne_level = can.ne_level;
      sw_level = can.sw_level;
      se_level = can.se_level;
      space = can.space;
    }

pub returns-in_err-squares : goal.returns-in_err-squares
returns-in_err-squares g c =
    let i = c.loop-i.i in
    let qs = c.args.quarters.now in
    joined-refused g.Self.Squares.needs_node c.loop-i.squares c.from_residual.result c.loop-i.invariant c.loop-i-test.true
    (get_or_default qs i no_quarters (get_or qs i no_quarters) c.loop-i-test.true) (c.requires.each i no_quarters c.loop-i-test.true)
    c.from_residual.ensures.1 c.in_err-squares.ensures

pub loop-i-preserved : goal.loop-i-preserved
loop-i-preserved g c =
    let i = c.loop-i.i in
    let qs = c.args.quarters.now in
    let join = c.in_ok-squares.ensures in
    joined-next c.loop-i.invariant c.loop-i-test.true (get_or_default qs i no_quarters (get_or qs i no_quarters) c.loop-i-test.true)
    (c.requires.each i no_quarters c.loop-i-test.true) join.known join.square join.keeps join.adds

pub returns-clause-known : goal.returns-clause-known
returns-clause-known g c = (joined-all c.loop-i.invariant (omega (arith, c.loop-i-test.false))).0

pub returns-clause-square : goal.returns-clause-square
returns-clause-square g c = (joined-all c.loop-i.invariant (omega (arith, c.loop-i-test.false))).1
