-- A store holds the parts of each square that it knows, but for blank ones.
use Rattle.std.proofs.Common.{◌≡◌, ℕ, suc, ◌≤◌, false, true≢false, length, ap, sym, ◌∙◌, subst, arith, inl, inr, Contains}
use Rattle.life_base.proofs.Squares.{is_blank-blank, quad_nw, quad_ne, quad_sw, quad_se, point≢quad}
use Rattle.life_base.proofs.Basics.{contains-map}
use Rattle.life_base.specs.Tree.{Tree, point, quad, depth, is_blank_tree}
use Rattle.life_quad.specs.Refused.{SomePart}
use Rattle.life_quad.specs.Store.{Nodes, stored_squares, id_of, IsEarlier, IsIdOf, as_small, as_node}
use Rattle.life_quad.specs.StoreLaws.{Names, the_state, the_blank, the_node, names}
use Rattle.life_quad.specs.declared.id.Id.{Id}
use Rattle.life_quad.specs.declared.id.Node.{Node}
use Rattle.life_pattern.specs.Store.{IsKnown, content}
use Rattle.life_reader.proofs.GrowFacts.{get-within}
use Rattle.life_pattern.proofs.Found.{part-blank}

-- the square is stored, if it is a part of this one, wherever this one is known
abbrev IsPartHeld : Nodes → Tree → Tree → Type 0
IsPartHeld store u t = (id : Id) → IsKnown store id → content store id ≡ t → SomePart (λ v. v ≡ u) t → Contains (stored_squares store) u

-- a square that is known, and isn't blank or a cell
pub known-held : (store : Nodes) (id : Id) → IsKnown store id → (u : Tree) → content store id ≡ u → is_blank_tree u ≡ false → 1 ≤ depth u
    → Contains (stored_squares store) u
known-held store id known u is live deep = by (names store id known.0)
  where
    logged : (n : Node) → IsIdOf store n id → Contains store.log id.0
    logged n (as_small number there) = there
    logged n (as_node i number at) =
        subst (Contains store.log) (sym number) (known.1.logged i (get-within store.nodes i n at))

    by : Names store id → Contains (stored_squares store) u
    by (the_state l e) = absurd (let d = ap depth (sym is ∙ e) in omega (arith, d, deep))
    by (the_blank k l i e) = absurd (true≢false (sym (ap is_blank_tree (sym is ∙ e) ∙ is_blank-blank (suc k)) ∙ live))
    by (the_node i n l le at node e) =
        subst (Contains (stored_squares store)) is (contains-map (λ k. content store (id_of k)) store.log id.0 (logged n at))

quarters-held : (store : Nodes) (a b c d u : Tree) → is_blank_tree u ≡ false → IsPartHeld store u a → IsPartHeld store u b → IsPartHeld store u c
    → IsPartHeld store u d → IsPartHeld store u (quad a b c d)
quarters-held store a b c d u live of_a of_b of_c of_d id known is (inl same) =
    known-held store id known u (is ∙ same) live (subst (λ (t : Tree). 1 ≤ depth t) same (omega arith))
quarters-held store a b c d u live of_a of_b of_c of_d id known is (inr rest) = by (names store id known.0)
  where
    child : (i : ℕ) (q : Id) → i ≤ length store.nodes → IsEarlier store.log i q → IsKnown store q
    child i q le h = (
      record {
        sound = known.0.sound;
        named = record { below = omega (arith, le, h.named.below); blank = h.named.blank };
        joined
            = h.joined;
      },
      known.1,
    )

    by : Names store id → Contains (stored_squares store) u
    by (the_state l e) = absurd (point≢quad (sym e ∙ is))
    by (the_blank k l i e) =
        absurd (true≢false (sym (part-blank (quad a b c d) u (ap is_blank_tree (sym is ∙ e) ∙ is_blank-blank (suc k)) (inr rest)) ∙ live))
    by (the_node i n l le at node e) =
        let are = sym e ∙ is in
        elim rest [
          | inl p ↦ of_a (id_of n.nw) (child i (id_of n.nw) le node.nw) (quad_nw are) p
          | inr (inl p) ↦ of_b (id_of n.ne) (child i (id_of n.ne) le node.ne) (quad_ne are) p
          | inr (inr (inl p)) ↦ of_c (id_of n.sw) (child i (id_of n.sw) le node.sw) (quad_sw are) p
          | inr (inr (inr p)) ↦ of_d (id_of n.se) (child i (id_of n.se) le node.se) (quad_se are) p
        ]

parts-of : (store : Nodes) (u : Tree) → is_blank_tree u ≡ false → (t : Tree) → IsPartHeld store u t
parts-of store u live (point s) id known is p = absurd p
parts-of store u live (quad a b c d) id known is p =
    quarters-held store a b c d u live (parts-of store u live a) (parts-of store u live b) (parts-of store u live c) (parts-of store u live d) id known is p

-- a part of a square that is known, and isn't blank
pub part-held : (store : Nodes) (id : Id) (t u : Tree) → IsKnown store id → content store id ≡ t → is_blank_tree u ≡ false → SomePart (λ v. v ≡ u) t
    → Contains (stored_squares store) u
part-held store id t u known is live p = parts-of store u live t id known is p
