use Rattle.std.proofs.Common.{ap, ◌∙◌, decimal}
use Rattle.life_base.specs.Rules.{rule_text}
use Rattle.life_quad.specs.Cells.{population}
use Rattle.life_quad.proofs.LawLemmas.{known_squares_are_full}
use Rattle.life_pattern.specs.Store.{content}
use Rattle.life_writer.specs.Texts.{box_text, show_text}
use Rattle.life_writer.proofs.ShowFacts.{found-ordered, five-text}
use Rattle.life_writer.proofs.summary.five_lines.Goals as goal

pub append_box-requires : goal.append_box-requires
append_box-requires c =
    let store = c.args.store.now in
    let root = c.args.pattern.now.root in
    let k = known_squares_are_full store root c.requires.trimmed.known.0 in
    found-ordered (content store root) k.0 c.requires.level k.1 c.in_ok-least.least c.in_ok-least.ensures.least

pub returns-clause-text : goal.returns-clause-text
returns-clause-text c =
    let p = c.args.pattern.now in (
      c.in_ok-least.least,
      c.in_ok-least.ensures.least,
      five-text _ _ _ _ _ _ (rule_text p.rule) (decimal p.generation) (decimal c.in_ok-counts.counts.cells) (box_text c.in_ok-least.least)
          (decimal c.in_ok-counts.counts.lines)
          c.new-out.ensures.items c.in_ok-append_rule.ensures.ok c.in_ok-append_line.ensures.ok c.in_ok-append_population.ensures.ok
          c.in_ok-append_box.ensures.ok c.in_ok-append_line-2.ensures.ok
          ∙ ap (λ n. show_text p.rule p.generation n c.in_ok-least.least c.in_ok-counts.counts.lines) c.in_ok-counts.ensures.cells
          ∙ ap (show_text p.rule p.generation (population (content c.args.store.now p.root)) c.in_ok-least.least) c.in_ok-counts.ensures.lines,
    )
