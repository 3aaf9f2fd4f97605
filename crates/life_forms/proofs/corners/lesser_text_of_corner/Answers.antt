use Rattle.std.proofs.Common.{ℕ, List, subst}
use Rattle.life_writer.specs.Lesser.{IsLesserText}
use Rattle.life_forms.proofs.corners.lesser_text_of_corner.Goals as goal

pub returns-clause-text : goal.returns-clause-text
returns-clause-text c rule generation life begins = record {
  lesser = c.lesser_of.result.items;
  one = subst (λ (text : List ℕ). IsLesserText c.args.best.items text c.lesser_of.result.items)
      (c.in_ok-first.ensures.text rule generation life begins) c.lesser_of.ensures;
  two = subst (λ (text : List ℕ). IsLesserText c.lesser_of.result.items text c.lesser_of-2.result.items)
      (c.in_ok-second.ensures.text rule generation life begins) c.lesser_of-2.ensures;
}
