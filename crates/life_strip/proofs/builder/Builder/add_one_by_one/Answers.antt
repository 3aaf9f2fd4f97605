use Rattle.std.proofs.Common.{◌≡◌, ℕ, ◌<◌, ◌++◌, ◌∷◌, List, suc, drop, drop-cons, length, get_or, append-nil, refl, sym, ap, ◌∙◌, arith, pos}
use Rattle.std.proofs.lemmas.List.{drop_all}
use Rattle.life_base.specs.Tree.{Tree}
use Rattle.life_base.specs.declared.cell.Run.{Run}
use Rattle.life_quad.proofs.GrowsLemmas.{grows-behind, grows-err}
use Rattle.life_quad.proofs.KeepingLemmas.{adds-none, adds-then, keeps-same, keeps-then}
use Rattle.life_strip.specs.Needed.{SomeOfRuns}
use Rattle.life_strip.proofs.RunLemmas.{left-more, next-first, next-more, some-above}
use Rattle.life_strip.proofs.builder.Builder.add_one_by_one.Goals as goal

-- a run in the place of one that isn't there
abbrev none : Run
none = record { x = pos 0; y = pos 0; len = 0; state = 0 }

-- the runs before one, that one, and those after it
split : (all so_far runs : List Run) (i : ℕ) → i < length runs → so_far ++ drop i runs ≡ all → so_far ++ get_or runs i none ∷ drop (suc i) runs ≡ all
split all so_far runs i h e = ap (λ z. so_far ++ z) (sym (drop-cons runs i none h)) ∙ e

pub add_run-requires-clause-positive : goal.add_run-requires-clause-positive
add_run-requires-clause-positive g c =
    (next-first c.loop-run.self.runs c.args.runs.now c.loop-run.run-index none (omega arith) c.loop-run.invariant.next).0

pub add_run-requires-clause-inside : goal.add_run-requires-clause-inside
add_run-requires-clause-inside g c =
    (next-first c.loop-run.self.runs c.args.runs.now c.loop-run.run-index none (omega arith) c.loop-run.invariant.next).1

pub add_run-requires-clause-next : goal.add_run-requires-clause-next
add_run-requires-clause-next g c =
    (next-first c.loop-run.self.runs c.args.runs.now c.loop-run.run-index none (omega arith) c.loop-run.invariant.next).2

pub loop-run-init : goal.loop-run-init
loop-run-init g c = record { filling = c.requires.filling; next = c.requires.next; left = refl; keeps = keeps-same _; adds = adds-none _ _ }

pub loop-run-preserved : goal.loop-run-preserved
loop-run-preserved g c =
    let h : c.loop-run.run-index < length c.args.runs.now = omega arith in
    let i = c.loop-run.invariant in
    let e = c.in_ok-add_run.ensures in
    let all = c.args.self.now.runs ++ c.args.runs.now in
    record {
      filling = e.filling;
      next = next-more c.loop-run.self.runs c.add_run.new.self.runs c.args.runs.now c.loop-run.run-index none h i.next e.runs;
      left = left-more all c.loop-run.self.runs c.add_run.new.self.runs c.args.runs.now c.loop-run.run-index none h i.left e.runs;
      keeps = keeps-then i.keeps e.grows.keeps;
      adds = adds-then _ i.adds e.grows.adds (λ P a. a)
          (λ P s. some-above P all c.loop-run.self.runs (drop (suc c.loop-run.run-index) c.args.runs.now) (get_or c.args.runs.now c.loop-run.run-index none)
          (split all c.loop-run.self.runs c.args.runs.now c.loop-run.run-index h i.left) s);
    }

pub returns-in_err-add_run-clause-grows : goal.returns-in_err-add_run-clause-grows
returns-in_err-add_run-clause-grows g c =
    let h : c.loop-run.run-index < length c.args.runs.now = omega arith in
    let i = c.loop-run.invariant in
    let all = c.args.self.now.runs ++ c.args.runs.now in
    let Needs : (Tree → Type 0) → Type 0 = λ P. SomeOfRuns P all in
    let grows = grows-behind Needs i.keeps i.adds c.in_err-add_run.ensures.grows
    (λ P s. some-above P all c.loop-run.self.runs (drop (suc c.loop-run.run-index) c.args.runs.now) (get_or c.args.runs.now c.loop-run.run-index none)
    (split all c.loop-run.self.runs c.args.runs.now c.loop-run.run-index h i.left) s) in
    grows-err Needs grows c.from_residual.ensures.1 (λ P a. a)

pub returns-clause-runs : goal.returns-clause-runs
returns-clause-runs g c =
    sym (append-nil c.loop-run.self.runs)
    ∙ ap (λ z. c.loop-run.self.runs ++ z) (sym (drop_all c.loop-run.run-index c.args.runs.now (omega arith)))
    ∙ c.loop-run.invariant.left

pub returns-clause-grows : goal.returns-clause-grows
returns-clause-grows g c =
    record { keeps = c.loop-run.invariant.keeps; refusals = tt; needed = λ e. absurd (cc); adds = c.loop-run.invariant.adds }
