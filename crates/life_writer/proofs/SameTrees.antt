-- Squares that are compared cell by cell.
use Rattle.std.proofs.Common.{◌≡◌, true, refl, ap, sym, ◌∙◌, arith, Decides}
use Rattle.std.proofs.lemmas.Bool.Decides.{Decides-eqb}
use Rattle.life_base.specs.Tree.{Tree, point, quad}
use Rattle.life_writer.specs.Listing.{same_tree}
use Rattle.life_base.proofs.Squares.{same_quads}
use Rattle.life_pattern.proofs.Trees.{four_parts}

pub same_tree-refl : (t : Tree) → same_tree t t ≡ true
same_tree-refl (point a) = (Decides-eqb a a).1 refl
same_tree-refl (quad a b c d) =
    let p = same_tree-refl a in let q = same_tree-refl b in let r = same_tree-refl c in let s = same_tree-refl d in
    grind arith

pub same_tree-true : (s t : Tree) → same_tree s t ≡ true → s ≡ t
same_tree-true (point a) (point b) h = ap point ((Decides-eqb a b).0 h)
same_tree-true (point a) (quad e f g h) p = cc
same_tree-true (quad a b c d) (point e) p = cc
same_tree-true (quad a b c d) (quad e f g h) p =
    let v = four_parts (same_tree a e) (same_tree b f) (same_tree c g) (same_tree d h) p in
    same_quads (same_tree-true a e v.first) (same_tree-true b f v.second) (same_tree-true c g v.third) (same_tree-true d h v.fourth)

pub Decides-same_tree : (s t : Tree) → Decides (same_tree s t) (s ≡ t)
Decides-same_tree s t = (same_tree-true s t, (λ e. ap (same_tree s) (sym e) ∙ same_tree-refl s))
