use Rattle.std.proofs.Common.{◌≡◌, ◌++◌, ◌+◌, List, [], ℕ, length, map, flat_map, ap, sym, ◌∙◌}
use Rattle.life_base.specs.Tree.{Tree}
use Rattle.life_mc.specs.Writing.{node_text}
use Rattle.life_mc.specs.declared.line.Line.TheVariants.{Quad}
use Rattle.life_quad.specs.Store.{eight}
use Rattle.life_forms.specs.Corners.{leaf_line, with_leaf}
use Rattle.life_forms.proofs.CornerFacts.{life-low}
use Rattle.life_forms.proofs.CornerTexts.{written-sixteen}
use Rattle.life_forms.proofs.corners.text_of_sixteen.Goals as goal

pub returns-clause-text : goal.returns-clause-text
returns-clause-text c rule generation life begins =
    let b = c.args.block in
    let none : map eight c.in_ok-known.known.items ≡ [] = ap (map eight) c.in_ok-known.ensures.items in
    let first = c.in_ok-nw.ensures.known ∙ ap (λ (l : List Tree). with_leaf l (eight b.nw)) none in
    let prefix = c.in_ok-extend_from_slice.ensures.items ∙ ap (λ (l : List ℕ). l ++ c.args.prefix.now) c.in_ok-text.ensures.items in
    let leaves = c.in_ok-append_leaves.ensures.ok ∙ (λ i. prefix i ++ flat_map node_text (map leaf_line (c.deref.ensures.value i))) in
    let quarter = c.in_ok-append_line.ensures.ok
    ∙ ap (λ (l : List ℕ). l ++ node_text (Quad 4 c.in_ok-nw.nw c.in_ok-ne.ne c.in_ok-sw.sw c.in_ok-se.se)) leaves in
    let count = c.len.ensures ∙ sym c.deref.ensures.len ∙ ap length c.deref.ensures.value in
    written-sixteen rule life (life-low rule life) generation c.args.prefix.now _ begins b.nw b.ne b.sw b.se c.numbered.new.known.items
    c.numbered-2.new.known.items c.numbered-3.new.known.items c.numbered-4.new.known.items c.in_ok-nw.nw c.in_ok-ne.ne c.in_ok-sw.sw c.in_ok-se.se
    first c.in_ok-ne.ensures.known c.in_ok-sw.ensures.known c.in_ok-se.ensures.known c.in_ok-nw.ensures.number c.in_ok-ne.ensures.number
    c.in_ok-sw.ensures.number c.in_ok-se.ensures.number c.requires.live
    (c.in_ok-append_line-2.ensures.ok ∙ (λ i. quarter i ++ node_text (Quad 5 0 0 0 (count i + 1))))
