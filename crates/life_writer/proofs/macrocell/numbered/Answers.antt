use Rattle.std.proofs.Common.{List, ◌++◌, ap, sym, subst, ◌∙◌, refl}
use Rattle.life_base.specs.declared.cell.TheConstants.{MAX_LEVEL}
use Rattle.life_base.specs.declared.rule.Rule.{Rule}
use Rattle.life_mc.specs.Macrocell.{AreSquares}
use Rattle.life_mc.specs.declared.line.Line.{Line}
use Rattle.life_writer.specs.Listing.{lines_for, listed_squares}
use Rattle.life_pattern.specs.Universe.{least_level}
use Rattle.life_writer.proofs.NumberFacts.{valid-lines}
use Rattle.life_writer.proofs.macrocell.numbered.Goals as goal

pub invariant_of-result : goal.invariant_of-result
invariant_of-result g c =
    let may = c.requires.root in
    let root = g.S.Squares.content c.args.squares.now c.args.pattern.now.root in
    let lines : List Line = lines_for c.args.pattern.now.rule (listed_squares root (least_level c.args.pattern.now.rule)) in
    let P : Rule → Type 0 = λ r. AreSquares MAX_LEVEL r c.from_vec.result in
    subst P (sym c.in_ok-copy.ensures.ok)
    (valid-lines MAX_LEVEL c.args.pattern.now.rule root (g.met.S.Squares.full _ _ may.known) may.states (g.met.S.Squares.low _ _ may.known) _ refl
    c.from_vec.result
    (c.from_vec.ensures ∙ c.in_ok-walk_pattern.ensures.took ∙ ap (λ l. l ++ lines) c.new.ensures.items))
