use Rattle.std.proofs.Common.{◌∙◌, ◌≤◌, sym, ap, arith, Some}
use Rattle.life_base.specs.Text.{trim}
use Rattle.life_mc.specs.Reading.{broken_by_square}
use Rattle.life_mc.specs.Standing.{quad_words}
use Rattle.life_mc.specs.declared.line.Line.{Line}
use Rattle.life_mc.specs.declared.line.Line.TheVariants.{Quad}
use Rattle.life_base.specs.declared.cell.TheConstants.{MAX_LEVEL}
use Rattle.life_mc.proofs.Around.{words_trimmed}
use Rattle.life_mc.proofs.Nodes.{match_map, quad_read, none_read}
use Rattle.life_mc.proofs.node.read_quad.Goals as goal

pub returns-in-Some : goal.returns-in-Some
returns-in-Some c =
    let n = c.in-Some.numbers in
    let q : Line = Quad n.0 n.1 n.2 n.3 n.4 in
    let text = trim c.args.line.now in
    let low : MAX_LEVEL ≤ 255 = omega arith in
    let read = c.in-Some.ensures ∙ ap quad_words (sym (words_trimmed c.args.line.now)) in
    let r = quad_read MAX_LEVEL c.args.rule.now c.args.levels.now low c.requires.space text c.requires.quad q read in
    match_map c.square_of_numbers.result c.square_of_numbers.ensures
    (λ square p. let e = ap (λ s. broken_by_square MAX_LEVEL c.args.rule.now c.args.levels.now (Some s)) (sym p.0) ∙ p.1 in
    (r.1 e ∙ ap Some (sym p.0), sym r.0 ∙ e))
    (λ kind p. sym r.0 ∙ p)

pub returns-in-None : goal.returns-in-None
returns-in-None c =
    let read = c.in-None.ensures ∙ ap quad_words (sym (words_trimmed c.args.line.now)) in
    none_read MAX_LEVEL c.args.rule.now c.args.levels.now (omega arith) c.requires.space (trim c.args.line.now) c.requires.quad read
