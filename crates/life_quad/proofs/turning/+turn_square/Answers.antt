use Rattle.std.proofs.Common.{◌≡◌, ℕ, Option, Result, sym, ap, ◌∙◌, subst}
use Rattle.std.proofs.lemmas.Result.{IfOk-weaker}
use Rattle.life_base.proofs.Squares.{blank_is}
use Rattle.life_base.proofs.Results.{error_is}
use Rattle.life_base.specs.Tree.{Tree, blank, depth, quad}
use Rattle.life_base.specs.declared.kind.Kind.{Kind}
use Rattle.life_quad.specs.Grows.{Grows}
use Rattle.life_quad.specs.IdMap.{value_of_id}
use Rattle.life_quad.specs.Refused.{SomePart}
use Rattle.life_quad.specs.Turning.{IsRememberedImage, turned_tree}
use Rattle.life_quad.specs.declared.id.Id.{Id}
use Rattle.life_quad.proofs.GrowsLemmas.{grows-as, grows-err, grows-same, grows-still, grows-then, join-refused, made-grows}
use Rattle.life_quad.proofs.KeepingLemmas.{adds-then, keeps-then}
use Rattle.life_quad.proofs.MapLemmas.{after_set}
use Rattle.life_quad.proofs.TurningLemmas.{AreImages-kept, blank-turned, depth-turned, image-of, part-ne, part-nw, part-se, part-sw, part-whole, quad-turned}
use Rattle.life_quad.proofs.turning.+turn_square.Given.{Over}
use Rattle.life_quad.proofs.turning.+turn_square.Goals as goal
use Rattle.life_quad.proofs.turning.+turn_square.Goals.{After-join, After-turn_square-4}

-- ---- a small square

pub returns-in-Some-clause-level : goal.returns-in-Some-clause-level
returns-in-Some-clause-level g t c =
    IfOk-weaker c.small.result _ _ (λ id e. ap depth e ∙ sym (ap depth c.in-Some.ensures) ∙ c.requires.level) c.small.ensures.square

pub returns-in-Some-clause-square : goal.returns-in-Some-clause-square
returns-in-Some-clause-square g t c =
    IfOk-weaker c.small.result _ _ (λ id e. e ∙ c.turned_cells.ensures ∙ ap (turned_tree c.args.turn) (sym c.in-Some.ensures)) c.small.ensures.square

pub returns-in-Some-clause-right : goal.returns-in-Some-clause-right
returns-in-Some-clause-right g t c =
    AreImages-kept c.small.ensures.keeps (g.S.Squares.content c.args.from.now) c.args.turn (value_of_id c.args.known.now) c.requires.right

pub returns-in-Some-clause-grows : goal.returns-in-Some-clause-grows
returns-in-Some-clause-grows g t c =
    grows-as _ (made-grows c.small.result c.small.ensures)
    (λ P s. subst (SomePart P) (c.turned_cells.ensures ∙ ap (turned_tree c.args.turn) (sym c.in-Some.ensures)) s)

-- ---- a cell, a blank square, and one that was visited

pub returns-in-Some-state-clause-grows : goal.returns-in-Some-state-clause-grows
returns-in-Some-state-clause-grows g t c = grows-same _ c.args.to.now tt

pub returns-then-is_blank_at-clause-square : goal.returns-then-is_blank_at-clause-square
returns-then-is_blank_at-clause-square g t c =
    let full = g.met.S.Squares.full _ _ c.requires.known in
    let none = sym c.is_blank_at.ensures ∙ c.if-is_blank_at.true in
    c.empty.ensures.square ∙ ap blank (sym c.requires.level) ∙ sym (blank_is _ full none) ∙ blank-turned c.args.turn _ full none

pub returns-then-is_blank_at-clause-grows : goal.returns-then-is_blank_at-clause-grows
returns-then-is_blank_at-clause-grows g t c = grows-same _ c.args.to.now tt

pub returns-in-Some-get-clause-known : goal.returns-in-Some-get-clause-known
returns-in-Some-get-clause-known g t c = (c.requires.right c.args.id _ (sym c.get.ensures ∙ c.in-Some-get.is)).0

pub returns-in-Some-get-clause-level : goal.returns-in-Some-get-clause-level
returns-in-Some-get-clause-level g t c =
    ap depth (c.requires.right c.args.id _ (sym c.get.ensures ∙ c.in-Some-get.is)).1
    ∙ depth-turned c.args.turn _ (g.met.S.Squares.full _ _ c.requires.known) ∙ c.requires.level

pub returns-in-Some-get-clause-square : goal.returns-in-Some-get-clause-square
returns-in-Some-get-clause-square g t c = (c.requires.right c.args.id _ (sym c.get.ensures ∙ c.in-Some-get.is)).1

pub returns-in-Some-get-clause-grows : goal.returns-in-Some-get-clause-grows
returns-in-Some-get-clause-grows g t c = grows-same _ c.args.to.now tt

-- ---- four quarters

pub returns-in_err-nw-clause-grows : goal.returns-in_err-nw-clause-grows
returns-in_err-nw-clause-grows g t c =
    let C : Id → Tree = g.S.Squares.content c.args.from.now in
    grows-err _ c.in_err-nw.ensures.grows c.from_residual.ensures.1
    (part-nw c.args.turn C c.divide-parts.result _ c.divide-parts.ensures.square _ c.placed.ensures)

pub returns-in_err-ne-clause-grows : goal.returns-in_err-ne-clause-grows
returns-in_err-ne-clause-grows g t c =
    let C : Id → Tree = g.S.Squares.content c.args.from.now in
    let M : (Tree → Type 0) → Type 0 = λ P. SomePart P (turned_tree c.args.turn (C c.args.id)) in
    let q = c.divide-parts in
    grows-err M
    (grows-then M c.in_ok-nw.ensures.grows c.in_err-ne.ensures.grows (part-nw c.args.turn C q.result _ q.ensures.square _ c.placed.ensures)
    (part-ne c.args.turn C q.result _ q.ensures.square _ c.placed-2.ensures))
    c.from_residual-in_err-ne.ensures.1 (λ P a. a)

pub returns-in_err-sw-clause-grows : goal.returns-in_err-sw-clause-grows
returns-in_err-sw-clause-grows g t c =
    let C : Id → Tree = g.S.Squares.content c.args.from.now in
    let M : (Tree → Type 0) → Type 0 = λ P. SomePart P (turned_tree c.args.turn (C c.args.id)) in
    let q = c.divide-parts in
    let north = grows-then M c.in_ok-nw.ensures.grows c.in_ok-ne.ensures.grows (part-nw c.args.turn C q.result _ q.ensures.square _ c.placed.ensures)
    (part-ne c.args.turn C q.result _ q.ensures.square _ c.placed-2.ensures) in
    grows-err M
    (grows-then M north c.in_err-sw.ensures.grows (λ P a. a) (part-sw c.args.turn C q.result _ q.ensures.square _ c.placed-3.ensures))
    c.from_residual-in_err-sw.ensures.1 (λ P a. a)

-- what four calls needed are parts of the image
four : (g : Over) (t : ℕ) (c : After-turn_square-4 g t) {r : Result Id Kind}
    → Grows g.T.Squares c.turn_square-3.new.to c.turn_square-4.new.to r
    (λ P. SomePart P (turned_tree c.args.turn (g.S.Squares.content c.args.from.now c.placed-4.result)))
    → Grows g.T.Squares c.args.to.now c.turn_square-4.new.to r (λ P. SomePart P (turned_tree c.args.turn (g.S.Squares.content c.args.from.now c.args.id)))
four g t c se =
    let C : Id → Tree = g.S.Squares.content c.args.from.now in
    let M : (Tree → Type 0) → Type 0 = λ P. SomePart P (turned_tree c.args.turn (C c.args.id)) in
    let q = c.divide-parts in
    let north = grows-then M c.in_ok-nw.ensures.grows c.in_ok-ne.ensures.grows (part-nw c.args.turn C q.result _ q.ensures.square _ c.placed.ensures)
    (part-ne c.args.turn C q.result _ q.ensures.square _ c.placed-2.ensures) in
    let three = grows-then M north c.in_ok-sw.ensures.grows (λ P a. a) (part-sw c.args.turn C q.result _ q.ensures.square _ c.placed-3.ensures) in
    grows-then M three se (λ P a. a) (part-se c.args.turn C q.result _ q.ensures.square _ c.placed-4.ensures)

pub returns-in_err-se-clause-grows : goal.returns-in_err-se-clause-grows
returns-in_err-se-clause-grows g t c =
    grows-err _ (four g t (goal.at.returns-in_err-se-clause-grows g t c).After-turn_square-4 c.in_err-se.ensures.grows)
    c.from_residual-in_err-se.ensures.1 (λ P a. a)

-- ---- the image of four images

whole : (g : Over) (t : ℕ) (c : After-join g t) → let D = g.T.Squares.content c.turn_square-4.new.to in
    quad (D c.in_ok-nw.nw) (D c.in_ok-ne.ne) (D c.in_ok-sw.sw) (D c.in_ok-se.se) ≡ turned_tree c.args.turn (g.S.Squares.content c.args.from.now c.args.id)
whole g t c =
    let C : Id → Tree = g.S.Squares.content c.args.from.now in
    let q = c.divide-parts in
    let nw = c.in_ok-nw.ensures in
    let ne = c.in_ok-ne.ensures in
    let sw = c.in_ok-sw.ensures in
    let se = c.in_ok-se.ensures in
    let south = keeps-then sw.grows.keeps se.grows.keeps in
    quad-turned c.args.turn C q.result (C c.args.id) q.ensures.square _ _ _ _ c.placed.ensures c.placed-2.ensures c.placed-3.ensures
    c.placed-4.ensures _ _ _ _ (((keeps-then ne.grows.keeps south).contents _ nw.known).1 ∙ nw.square) ((south.contents _ ne.known).1 ∙ ne.square)
    ((se.grows.keeps.contents _ sw.known).1 ∙ sw.square) se.square

pub returns-in_err-image-clause-right : goal.returns-in_err-image-clause-right
returns-in_err-image-clause-right g t c =
    AreImages-kept c.in_err-image.ensures.keeps (g.S.Squares.content c.args.from.now) c.args.turn (value_of_id c.turn_square-4.new.known)
    c.in_ok-se.ensures.right

pub returns-in_err-image-clause-grows : goal.returns-in_err-image-clause-grows
returns-in_err-image-clause-grows g t c =
    let at = goal.at.returns-in_err-image-clause-grows g t c in
    let four = four g t at.After-turn_square-4 c.in_ok-se.ensures.grows in
    join-refused _ four.keeps four.adds c.in_err-image.ensures c.from_residual-in_err-image.ensures.1 (part-whole _ _ _ _ _ (whole g t at.After-join))

pub returns-clause-square : goal.returns-clause-square
returns-clause-square g t c = c.in_ok-image.ensures.square ∙ whole g t (goal.at.returns-clause-square g t c).After-join

pub returns-in_err-set-clause-right : goal.returns-in_err-set-clause-right
returns-in_err-set-clause-right g t c =
    AreImages-kept c.in_ok-image.ensures.keeps (g.S.Squares.content c.args.from.now) c.args.turn (value_of_id c.set.new.self)
    (λ id other e. c.in_ok-se.ensures.right id other (sym (c.in_err-set.ensures.same id) ∙ e))

pub returns-in_err-set-clause-grows : goal.returns-in_err-set-clause-grows
returns-in_err-set-clause-grows g t c =
    let at = goal.at.returns-in_err-set-clause-grows g t c in
    let four = four g t at.After-turn_square-4 c.in_ok-se.ensures.grows in
    let reported = error_is c.from_residual-in_err-set.result c.from_residual-in_err-set.ensures.1 in
    grows-still _ (keeps-then four.keeps c.in_ok-image.ensures.keeps)
    (adds-then _ four.adds c.in_ok-image.ensures.adds (λ P a. a) (part-whole _ _ _ _ _ (whole g t at.After-join))) (rw reported c.in_err-set.ensures.refusals)

pub returns-clause-right : goal.returns-clause-right
returns-clause-right g t c =
    let s = c.join.new.self in
    let C : Id → Tree = g.S.Squares.content c.args.from.now in
    let R : Id → Option Id → Type 0 = λ q o. IsRememberedImage (g.T.Squares.knows s) (g.T.Squares.content s) C c.args.turn q o in
    after_set R _ (value_of_id c.set.new.self) _ _
    (AreImages-kept c.in_ok-image.ensures.keeps C c.args.turn (value_of_id c.turn_square-4.new.known) c.in_ok-se.ensures.right) c.set.ensures.only
    (image-of _ _ C c.args.turn c.args.id c.in_ok-image.image c.in_ok-image.ensures.known (returns-clause-square g t c))

pub returns-clause-grows : goal.returns-clause-grows
returns-clause-grows g t c =
    let at = goal.at.returns-clause-grows g t c in
    let four = four g t at.After-turn_square-4 c.in_ok-se.ensures.grows in
    grows-still _ (keeps-then four.keeps c.in_ok-image.ensures.keeps)
    (adds-then _ four.adds c.in_ok-image.ensures.adds (λ P a. a) (part-whole _ _ _ _ _ (whole g t at.After-join))) tt
