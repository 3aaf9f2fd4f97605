use Rattle.std.proofs.Common.{◌∷◌, List, ℕ, drop, map, slice_index, ap, sym, ◌∙◌, subst}
use Rattle.std.proofs.lemmas.List.{map-append}
use Rattle.life_table.specs.Found.{IsFoundOf, SomeGives}
use Rattle.life_table.specs.Orders.{turns, reflected_turns, family}
use Rattle.life_table.proofs.Fitting.{images_more}
use Rattle.life_table.proofs.fit.by_images.Goals as goal

pub returns-then-site : goal.returns-then-site
returns-then-site c =
    let vars = c.args.site.now.vars.now in
    let line = c.args.line.now in
    let others : List ℕ = drop 1 c.args.site.now.cells.now in
    let behind = λ (v : List ℕ). slice_index c.args.site.now.cells.now 0 ∷ v in
    let step = c.args.site.now.ways.step in
    subst (λ list. IsFoundOf (SomeGives vars line list) c.with_turns.result)
    (sym (map-append behind (turns others step) (reflected_turns others step)) ∙ ap (λ b. map behind (family b step others)) (sym c.if-site.true))
    (images_more vars line (map behind (turns others step)) (map behind (reflected_turns others step)) c.with_turns-found.result c.with_turns.result
    c.with_turns-found.ensures c.with_turns.ensures)

pub returns-else-site : goal.returns-else-site
returns-else-site c =
    let others : List ℕ = drop 1 c.args.site.now.cells.now in
    subst (λ list. IsFoundOf (SomeGives c.args.site.now.vars.now c.args.line.now list) c.with_turns-found.result)
    (ap (λ b. map (λ v. slice_index c.args.site.now.cells.now 0 ∷ v) (family b c.args.site.now.ways.step others)) (sym c.if-site.false))
    c.with_turns-found.ensures
