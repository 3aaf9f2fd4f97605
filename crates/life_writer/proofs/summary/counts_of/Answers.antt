use Rattle.std.proofs.Common.{length, ap, sym, ◌∙◌}
use Rattle.std.proofs.lemmas.List.{length-map}
use Rattle.std.proofs.lemmas.Result.{IfOk-weaker}
use Rattle.life_mc.specs.Macrocell.{Macrocell}
use Rattle.life_quad.proofs.LawLemmas.{known_squares_are_full}
use Rattle.life_writer.specs.Listing.{line_of}
use Rattle.life_pattern.specs.Store.{content}
use Rattle.life_writer.proofs.NumberFacts.{file-of}
use Rattle.life_pattern.proofs.TreeWords.{below_top}
use Rattle.life_writer.proofs.summary.counts_of.Goals as goal

pub returns-clause-lines : goal.returns-clause-lines
returns-clause-lines c =
    let store = c.args.store.now in
    let p = c.args.pattern.now in
    let root = content store p.root in
    let k = known_squares_are_full store p.root c.requires.known.0 in
    let file = file-of below_top p.rule p.generation root k.0 k.1 c.requires.level c.requires.trimmed in
    IfOk-weaker c.count_all.result _ _ (λ counts e. e ∙ sym (length-map _ (line_of p.rule _))
    ∙ ap (λ (m : Macrocell). length m.lines) (sym file)) c.count_all.ensures.lines
