use Rattle.std.proofs.Common.{◌≡◌, false, ap, sym, ◌∙◌, subst}
use Rattle.std.proofs.lemmas.Result.{IfOk-weaker}
use Rattle.life_base.specs.Tree.{Tree, is_blank_tree}
use Rattle.life_quad.specs.Store.{eight}
use Rattle.life_quad.proofs.TurningLemmas.{blank-image}
use Rattle.life_writer.specs.Listing.{square_text}
use Rattle.life_forms.specs.Corners.{block_tree, corner_root, corner_tree, seated}
use Rattle.life_forms.specs.declared.corners.Corner.{Corner}
use Rattle.life_forms.proofs.CornerFacts.{life-low}
use Rattle.life_forms.proofs.CornerTexts.{written-four}
use Rattle.life_forms.proofs.corners.text_of_corner.Goals as goal

pub returns-in-Four-clause-text : goal.returns-in-Four-clause-text
returns-in-Four-clause-text c =
    let live = subst (λ (k : Corner). is_blank_tree (corner_tree k) ≡ false) c.in-Four.is c.requires.live in
    let turned : is_blank_tree (eight c.turned_leaf.result) ≡ false =
    ap is_blank_tree c.turned_leaf.ensures ∙ blank-image c.args.turn (eight c.in-Four.leaf) ∙ live in
    IfOk-weaker c.leaf_text.result _ _
    (λ text is rule generation life begins.
    written-four rule life (life-low rule life) generation c.args.prefix.now text.items begins c.turned_leaf.result turned is
    ∙ ap (square_text rule generation) c.turned_leaf.ensures
    ∙ ap (λ (k : Corner). square_text rule generation (corner_root c.args.turn k)) (sym c.in-Four.is))
    c.leaf_text.ensures.text

pub text_of_eight-requires : goal.text_of_eight-requires
text_of_eight-requires c = record {
  live = ap is_blank_tree c.turned_leaf-in-Eight.ensures ∙ blank-image c.args.turn (eight c.in-Eight.leaf)
      ∙ subst (λ (k : Corner). is_blank_tree (corner_tree k) ≡ false) c.in-Eight.is c.requires.live;
}

pub returns-in-Eight-clause-text : goal.returns-in-Eight-clause-text
returns-in-Eight-clause-text c =
    IfOk-weaker c.text_of_eight.result _ _
    (λ text is rule generation life begins.
    is rule generation life begins ∙ ap (λ (t : Tree). square_text rule generation (seated t)) c.turned_leaf-in-Eight.ensures
    ∙ ap (λ (k : Corner). square_text rule generation (corner_root c.args.turn k)) (sym c.in-Eight.is))
    c.text_of_eight.ensures.text

pub text_of_sixteen-requires : goal.text_of_sixteen-requires
text_of_sixteen-requires c = record {
  live = ap is_blank_tree c.turned_block.ensures ∙ blank-image c.args.turn (block_tree c.in-Sixteen.block)
      ∙ subst (λ (k : Corner). is_blank_tree (corner_tree k) ≡ false) c.in-Sixteen.is c.requires.live;
}

pub returns-in-Sixteen-clause-text : goal.returns-in-Sixteen-clause-text
returns-in-Sixteen-clause-text c =
    IfOk-weaker c.text_of_sixteen.result _ _
    (λ text is rule generation life begins.
    is rule generation life begins ∙ ap (λ (t : Tree). square_text rule generation (seated t)) c.turned_block.ensures
    ∙ ap (λ (k : Corner). square_text rule generation (corner_root c.args.turn k)) (sym c.in-Sixteen.is))
    c.text_of_sixteen.ensures.text
