use Rattle.std.proofs.Common.{sym, ◌∙◌, subst, arith}
use Rattle.life_mc.specs.Macrocell.{Macrocell}
use Rattle.life_mc.specs.Cells.{node_lines}
use Rattle.life_base.specs.declared.cell.TheConstants.{MAX_LEVEL}
use Rattle.life_quad.proofs.LawLemmas.{known_squares_are_full}
use Rattle.life_writer.specs.Least.{IsLeastLineCount}
use Rattle.life_pattern.specs.Store.{universe_in, content}
use Rattle.life_writer.proofs.NumberFacts.{root-least, file-of}
use Rattle.life_pattern.proofs.TreeWords.{below_top}
use Rattle.life_writer.proofs.macrocell.number.Goals as goal

pub returns-clause-file : goal.returns-clause-file
returns-clause-file c =
    let store = c.args.store.now in
    let p = c.args.pattern.now in
    let k = known_squares_are_full store p.root c.requires.known.0 in
    c.in_ok-numbered.ensures.file
    ∙ sym (file-of below_top p.rule p.generation (content store p.root) k.0 k.1 c.requires.level c.requires.trimmed)

pub returns-clause-least : goal.returns-clause-least
returns-clause-least c =
    let store = c.args.store.now in
    let p = c.args.pattern.now in
    let k = known_squares_are_full store p.root c.requires.known.0 in
    let P : Macrocell → Type 0 = λ file. IsLeastLineCount MAX_LEVEL (universe_in store p) (node_lines file) in
    subst P (sym c.in_ok-numbered.ensures.file)
    (root-least below_top p.rule p.generation (content store p.root) (omega arith) k.0 c.requires.states k.1 c.requires.level c.requires.trimmed)
