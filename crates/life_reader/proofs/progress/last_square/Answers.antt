use Rattle.std.proofs.Common.{sym, arith}
use Rattle.life_reader.proofs.GrowFacts.{root-cells, root-depth}
use Rattle.life_reader.proofs.progress.last_square.Goals as goal

pub returns-in-Some-clause-known : goal.returns-in-Some-clause-known
returns-in-Some-clause-known g c =
    let r = c.requires in
    (root-cells (g.S.Squares.knows c.args.squares.now) (g.S.Squares.content c.args.squares.now) r.0 c.args.ids.now c.in-Some.id.now r.1 r.2
    (sym c.in-Some.ensures.value)).0

pub returns-in-Some-clause-high : goal.returns-in-Some-clause-high
returns-in-Some-clause-high g c =
    let r = c.requires in
    (root-cells (g.S.Squares.knows c.args.squares.now) (g.S.Squares.content c.args.squares.now) r.0 c.args.ids.now c.in-Some.id.now r.1 r.2
    (sym c.in-Some.ensures.value)).1

pub returns-in-Some-clause-cells : goal.returns-in-Some-clause-cells
returns-in-Some-clause-cells g c file valid are =
    (root-cells (g.S.Squares.knows c.args.squares.now) (g.S.Squares.content c.args.squares.now) file c.args.ids.now c.in-Some.id.now valid are
    (sym c.in-Some.ensures.value)).2

pub returns-in-Some-clause-level : goal.returns-in-Some-clause-level
returns-in-Some-clause-level g c file valid are =
    let K = g.S.Squares.knows c.args.squares.now in
    let C = g.S.Squares.content c.args.squares.now in
    let level = root-depth K C file c.args.ids.now c.in-Some.id.now are (sym c.in-Some.ensures.value) in
    let high = (root-cells K C file c.args.ids.now c.in-Some.id.now valid are (sym c.in-Some.ensures.value)).1 in
    omega (arith, level, high)
