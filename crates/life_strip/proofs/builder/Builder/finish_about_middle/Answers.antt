use Rattle.std.proofs.Common.{subst, ◌∙◌, Result, Ok, Err, IfOk}
use Rattle.life_base.specs.declared.kind.Kind.{Kind}
use Rattle.life_quad.proofs.GrowsLemmas.{grows-as}
use Rattle.life_strip.specs.Filling.{Building}
use Rattle.life_strip.specs.Middle.{IsSouthLevel, SomeAboutMiddle}
use Rattle.life_strip.proofs.MiddleSeen.{ends-seen, states-seen}
use Rattle.life_strip.proofs.builder.Builder.finish_about_middle.Goals as goal

ok-by : {T : Type 0} {P Q : T → Type 0} (r : Result T Kind) → IfOk r P → ((x : T) → P x → Q x) → IfOk r Q
ok-by (Ok x) p f = f x p
ok-by (Err e) p f = tt

pub finish_about_middle-requires-clause-cell : goal.finish_about_middle-requires-clause-cell
finish_about_middle-requires-clause-cell g c =
    let inside : Building = record { runs = c.self.inside.log.runs; kept = c.self.inside.plane } in
    ends-seen (g.S.Squares.knows c.args.squares.now) (g.S.Squares.content c.args.squares.now) inside _ c.self.view_is c.requires.filling c.requires.cell

pub returns-clause-level : goal.returns-clause-level
returns-clause-level g c =
    let inside : Building = record { runs = c.self.inside.log.runs; kept = c.self.inside.plane } in
    let e = states-seen (g.S.Squares.knows c.args.squares.now) (g.S.Squares.content c.args.squares.now) inside _ c.self.view_is c.requires.filling in
    ok-by c.finish_about_middle.result c.finish_about_middle.ensures.level (λ id h. subst (IsSouthLevel _) e h)

pub returns-clause-cells : goal.returns-clause-cells
returns-clause-cells g c =
    let inside : Building = record { runs = c.self.inside.log.runs; kept = c.self.inside.plane } in
    let e = states-seen (g.S.Squares.knows c.args.squares.now) (g.S.Squares.content c.args.squares.now) inside _ c.self.view_is c.requires.filling in
    ok-by c.finish_about_middle.result c.finish_about_middle.ensures.cells (λ id h x y. h x y ∙ (λ k. e k x y))

pub returns-clause-grows : goal.returns-clause-grows
returns-clause-grows g c =
    let inside : Building = record { runs = c.self.inside.log.runs; kept = c.self.inside.plane } in
    let e = states-seen (g.S.Squares.knows c.args.squares.now) (g.S.Squares.content c.args.squares.now) inside _ c.self.view_is c.requires.filling in
    grows-as _ c.finish_about_middle.ensures.grows (λ P n. subst (SomeAboutMiddle P) e n)
