-- The law of wider planes: in the plain grammar the level stands only where each square has it for its greatest.
use Rattle.std.proofs.Common.{ℕ, ◌≤◌, List, arith}
use Rattle.life_base.specs.declared.rule.Rule.{Rule}
use Rattle.life_mc.specs.Macrocell.{Macrocell, IsSquare}
use Rattle.life_mc.specs.Grammar.{IsPlainMacrocell}
use Rattle.life_mc.specs.Laws.{WiderPlanesKeepMacrocells}
use Rattle.life_mc.specs.declared.line.Line.{Line}
use Rattle.life_mc.specs.declared.line.Line.TheVariants.{Leaf, Quad}
use Rattle.life_mc.proofs.Grammars.{grammars_agree}

square-wider : (top wider : ℕ) (rule : Rule) (levels : List ℕ) (line : Line) → top ≤ wider → IsSquare top rule levels line → IsSquare wider rule levels line
square-wider top wider rule levels (Leaf rows) wide h = h
square-wider top wider rule levels (Quad level nw ne sw se) wide h = (h.0, omega (arith, wide, h.1), h.2)

file-wider : (top wider : ℕ) (lines : List (List ℕ)) (file : Macrocell) → top ≤ wider → IsPlainMacrocell top lines file → IsPlainMacrocell wider lines file
file-wider top wider lines file wide f = record {
  header = f.header;
  behind = f.behind;
  forms = f.forms;
  is = f.is;
  format = f.format;
  short = f.short;
  each = f.each;
  order = f.order;
  rule = f.rule;
  generation = f.generation;
  squares = f.squares;
  valid = λ k line at. square-wider top wider file.rule _ line wide (f.valid k line at);
}

-- every file of a plane is a file of each wider one
pub wider_planes_keep_files : WiderPlanesKeepMacrocells
wider_planes_keep_files = λ top wider lines file wide h.
    (grammars_agree wider lines file).0 (file-wider top wider lines file wide ((grammars_agree top lines file).1 h))
