use Rattle.std.proofs.Common.{Bool, true, false, sym, ap, ◌∙◌}
use Rattle.life_base.specs.Tree.{quad}
use Rattle.life_quad.specs.Store.{eight}
use Rattle.life_quad.specs.Turning.{side_of, turned_half, turned_tree}
use Rattle.life_forms.proofs.ImageFacts.{one-of-turned}
use Rattle.life_forms.proofs.corners.turned_block.Goals as goal

pub returns : goal.returns
returns c =
    let t = c.args.turn in
    let b = c.args.block in
    let back = λ (east south : Bool).
    sym (one-of-turned t (side_of t east south) (turned_half t east south) (eight b.nw) (eight b.ne) (eight b.sw) (eight b.se)) in
    let nw = c.turned_leaf.ensures ∙ ap (turned_tree t) c.leaf_before.ensures ∙ back false false in
    let ne = c.turned_leaf-2.ensures ∙ ap (turned_tree t) c.leaf_before-2.ensures ∙ back true false in
    let sw = c.turned_leaf-3.ensures ∙ ap (turned_tree t) c.leaf_before-3.ensures ∙ back false true in
    let se = c.turned_leaf-4.ensures ∙ ap (turned_tree t) c.leaf_before-4.ensures ∙ back true true in
    λ i. quad (nw i) (ne i) (sw i) (se i)
