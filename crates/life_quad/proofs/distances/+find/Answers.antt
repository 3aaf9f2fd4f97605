use Rattle.std.proofs.Common.{◌≡◌, ◌≢◌, ℕ, ◌^◌, ◌+◌, sym, subst, ◌∙◌, arith}
use Rattle.life_base.specs.Tree.{Tree, depth}
use Rattle.life_quad.specs.declared.id.Id.{Id}
use Rattle.life_quad.specs.Distances.{HasCellAt, IsLeastNumber}
use Rattle.life_quad.proofs.DistanceLemmas.{blank_nowhere, least_of_cell, least_near, least_behind, least_nowhere, least_of_both}
use Rattle.life_quad.specs.declared.distances.TheConstants.{UNKNOWN}
use Rattle.life_quad.specs.IdMap.{value_of_id}
use Rattle.life_quad.proofs.SpanLemmas.{half_of}
use Rattle.life_quad.proofs.MapLemmas.{after_set}
use Rattle.life_quad.proofs.distances.+find.Goals as goal

pub find-returns-then-is_blank_at-clause-least : goal.find-returns-then-is_blank_at-clause-least
find-returns-then-is_blank_at-clause-least g t c =
    blank_nowhere _ _ (g.met.S.Squares.full _ _ c.requires.known) (sym c.is_blank_at.ensures ∙ c.if-is_blank_at.true)

pub find-returns-then-level-eq0-clause-least : goal.find-returns-then-level-eq0-clause-least
find-returns-then-level-eq0-clause-least g t c =
    least_of_cell _ _ (sym c.requires.level ∙ c.if-level-eq0.true) (sym c.is_blank_at.ensures ∙ c.if-is_blank_at.false)

pub find-returns-in-Some-clause-least : goal.find-returns-in-Some-clause-least
find-returns-in-Some-clause-least g t c =
    let f = c.facing.ensures in
    least_near _ _ _ _ _ _ (g.met.S.Squares.full _ _ c.requires.known) f.faces (omega (arith, f.quarters.nw_level, f.quarters.ne_level)) _ _
    c.in_ok-distance.ensures.least c.in-Some.is

pub find-returns-in-Some-clause-right : goal.find-returns-in-Some-clause-right
find-returns-in-Some-clause-right g t c =
    let R : Id → ℕ → Type 0 = λ q v. v ≢ UNKNOWN → IsLeastNumber (HasCellAt c.args.side (g.S.Squares.content c.args.squares.now q)) v in
    after_set R _ (value_of_id c.keep.new.known) _ _ c.in_ok-distance.ensures.right c.keep.ensures.only (λ known. find-returns-in-Some-clause-least g t c)

pub find-returns-in_default-2-clause-least : goal.find-returns-in_default-2-clause-least
find-returns-in_default-2-clause-least g t c =
    let f = c.facing.ensures in
    least_nowhere _ _ _ _ _ _ (g.met.S.Squares.full _ _ c.requires.known) f.faces (omega (arith, f.quarters.nw_level, f.quarters.ne_level)) _ _
    c.in_ok-distance.ensures.least c.in_default.is c.in_ok-distance-2.ensures.least c.in_default-2.is

pub find-returns-clause-least : goal.find-returns-clause-least
find-returns-clause-least g t c =
    let C : Id → Tree = g.S.Squares.content c.args.squares.now in
    let f = c.facing.ensures in
    let half : c.half_side.result ≡ 2 ^ depth (C c.facing.result.nw) = c.half_side.ensures.half ∙ half_of _ _ _ c.requires.level f.quarters.nw_level in
    subst (λ n. IsLeastNumber (HasCellAt c.args.side (C c.args.id)) (c.in-Some-2.distance + n)) (sym half)
    (least_behind _ _ _ _ _ _ (g.met.S.Squares.full _ _ c.requires.known) f.faces (omega (arith, f.quarters.nw_level, f.quarters.ne_level)) _ _ _
    c.in_ok-distance.ensures.least c.in_default.is c.in_ok-distance-2.ensures.least c.in-Some-2.is)

pub find-returns-clause-right : goal.find-returns-clause-right
find-returns-clause-right g t c =
    let R : Id → ℕ → Type 0 = λ q v. v ≢ UNKNOWN → IsLeastNumber (HasCellAt c.args.side (g.S.Squares.content c.args.squares.now q)) v in
    after_set R _ (value_of_id c.keep-2.new.known) _ _ c.in_ok-distance-2.ensures.right c.keep-2.ensures.only (λ known. find-returns-clause-least g t c)

pub find_in_two-returns-clause-least : goal.find_in_two-returns-clause-least
find_in_two-returns-clause-least g t c =
    rw c.lesser.ensures (least_of_both (HasCellAt c.args.side (g.S.Squares.content c.args.squares.now c.args.first))
    (HasCellAt c.args.side (g.S.Squares.content c.args.squares.now c.args.second)) _ _ c.in_ok-nearest.ensures.least c.in_ok-other.ensures.least)
