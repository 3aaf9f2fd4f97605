use Rattle.std.proofs.Common.{ℕ, List, ◌++◌, ◌+◌, take, drop, ap, sym, ◌∙◌, arith}
use Rattle.std.proofs.lemmas.Grind.{common_steps}
use Rattle.life_base.proofs.LineEnds.{all_behind}
use Rattle.file_hints.specs.Watching.{warning_by}
use Rattle.file_hints.proofs.Watching.{by_line, by_text}
use Rattle.file_hints.proofs.watch.State.after_piece.Goals as goal

pub loop-end-preserved : goal.loop-end-preserved
loop-end-preserved c = record {
  short = grind (arith, common_steps, c.loop-end.invariant.short);
  same = λ rest.
      let left = c.loop-end.left.now in
      let end = c.in-Some.end in
      ap (λ (t : List ℕ). warning_by c.after_feed-state.result (t ++ rest)) (all_behind left (end + 1))
      ∙ by_line c.after_feed-state.result c.after_text.result c.loop-end.state (take end left) (drop (end + 1) left) rest c.in-Some.ensures.some.free
      c.after_text.ensures c.after_feed-state.ensures
      ∙ ap (λ (t : List ℕ). warning_by c.loop-end.state (t ++ rest)) (sym c.in-Some.ensures.some.cut) ∙ c.loop-end.invariant.same rest;
}

pub returns : goal.returns
returns c = λ rest.
    by_text c.after_text-2.result c.loop-end.state c.loop-end.left.now rest c.in_default.ensures.none c.after_text-2.ensures
    ∙ c.loop-end.invariant.same rest
