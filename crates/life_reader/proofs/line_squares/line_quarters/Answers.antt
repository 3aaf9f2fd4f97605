use Rattle.std.proofs.Common.{◌-◌, sym, ◌∙◌, ap, subst, map, arith}
use Rattle.life_mc.specs.Macrocell.{level_of}
use Rattle.life_mc.specs.Squares.{tree_of, line_tree}
use Rattle.life_reader.specs.Needs.{SomeOfLine}
use Rattle.life_reader.proofs.FillFacts.{numbers-of, quad-of}
use Rattle.life_reader.proofs.OnlyFacts.{only-as, only-none}
use Rattle.life_reader.proofs.line_squares.line_quarters.Goals as goal

pub quarter-sw-requires-clause-quarter : goal.quarter-sw-requires-clause-quarter
quarter-sw-requires-clause-quarter g c =
    let r = c.requires.line in
    (r.0, (r.1.0, (numbers-of r.1.0 (map level_of r.0) c.args.line _ _ _ _ _ c.in-Quad.is r.1.1).sw), r.2)

pub quarter-se-requires-clause-quarter : goal.quarter-se-requires-clause-quarter
quarter-se-requires-clause-quarter g c =
    let r = c.requires.line in
    (r.0, (r.1.0, (numbers-of r.1.0 (map level_of r.0) c.args.line _ _ _ _ _ c.in-Quad.is r.1.1).se), r.2)

pub returns-in-Quad-clause-square : goal.returns-in-Quad-clause-square
returns-in-Quad-clause-square g c = λ lines rule h s.
    let same = quad-of rule lines c.args.line _ _ _ _ _ _ _ _ _ c.in-Quad.is h (λ n. c.quarter-nw.ensures.square lines rule n s)
    (λ n. c.quarter-ne.ensures.square lines rule n s) (λ n. c.quarter-sw.ensures.square lines rule n s) (λ n. c.quarter-se.ensures.square lines rule n s) in
    let line = ap (λ l. line_tree (tree_of lines (level_of l - 1)) l) c.in-Quad.is in
    same ∙ sym line

pub returns-in-Quad-clause-can_join : goal.returns-in-Quad-clause-can_join
returns-in-Quad-clause-can_join g c =
    let r = c.requires.line in
    let high = (numbers-of r.1.0 (map level_of r.0) c.args.line _ _ _ _ _ c.in-Quad.is r.1.1) in
    record {
      nw = c.quarter-nw.ensures.known;
      ne = c.quarter-ne.ensures.known;
      sw = c.quarter-sw.ensures.known;
      se = c.quarter-se.ensures.known;
      ne_level = c.quarter-ne.ensures.level ∙ sym c.quarter-nw.ensures.level;
      sw_level = c.quarter-sw.ensures.level ∙ sym c.quarter-nw.ensures.level;
      se_level = c.quarter-se.ensures.level ∙ sym c.quarter-nw.ensures.level;
      space = omega (arith, c.quarter-nw.ensures.level, high.low, high.high);
    }

pub returns-in-Quad-clause-grows : goal.returns-in-Quad-clause-grows
returns-in-Quad-clause-grows g c = only-none _ c.args.squares.now

pub returns-in-Leaf-clause-grows : goal.returns-in-Leaf-clause-grows
returns-in-Leaf-clause-grows g c = only-as _ c.leaf_quarters.ensures.grows (λ P p lines rule h s. subst (SomeOfLine P lines) (sym c.in-Leaf.is) p)
