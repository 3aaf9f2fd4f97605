use Rattle.std.proofs.Common.{◌++◌, List, ℕ, ap, ◌∙◌}
use Rattle.life_mc.specs.Writing.{node_text}
use Rattle.life_mc.specs.declared.line.Line.TheVariants.{Leaf, Quad}
use Rattle.life_forms.proofs.CornerFacts.{life-low}
use Rattle.life_forms.proofs.CornerTexts.{written-eight}
use Rattle.life_forms.proofs.corners.text_of_eight.Goals as goal

pub returns-clause-text : goal.returns-clause-text
returns-clause-text c rule generation life begins =
    let prefix = c.in_ok-extend_from_slice.ensures.items ∙ ap (λ (l : List ℕ). l ++ c.args.prefix.now) c.in_ok-text.ensures.items in
    let leaf = c.in_ok-append_line.ensures.ok ∙ (λ i. prefix i ++ node_text (Leaf (c.leaf_rows.ensures i))) in
    written-eight rule life (life-low rule life) generation c.args.prefix.now _ begins c.args.leaf c.requires.live
    (c.in_ok-append_line-2.ensures.ok ∙ ap (λ (l : List ℕ). l ++ node_text (Quad 4 0 0 0 1)) leaf)
