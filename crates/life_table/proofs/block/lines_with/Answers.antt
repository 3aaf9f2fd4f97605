use Rattle.std.proofs.Common.{◌≡◌, ℕ, ◌<◌, length, get_or, ap, sym, ◌∙◌, subst, arith, true, false}
use Rattle.std.specs.Int.{bit_at}
use Rattle.std.proofs.lemmas.List.{get_or_read}
use Rattle.life_table.specs.Index.{entry_at}
use Rattle.life_table.proofs.Indexing.{one_more_found, one_more_kept}
use Rattle.life_table.proofs.Seeing.{pass_place}
use Rattle.life_table.specs.declared.table.Transition.{Transition}
use Rattle.life_table.proofs.block.lines_with.Goals as goal
use Rattle.life_table.proofs.block.lines_with.Goals.{then-is_same, else-is_same}

pub loop-k-preserved : goal.loop-k-preserved
loop-k-preserved c =
    let i = c.loop-k.k in
    let lines = c.args.lines.now in
    let inside : i < length lines = c.loop-k-test.true in
    let space : i < 64 = omega (arith, inside, c.requires.space) in
    let Has = λ (d : Transition) (k : ℕ). entry_at (get_or lines k d).inputs c.args.p ≡ c.args.entry in
    let read = λ (d : Transition). ap (λ es. entry_at es c.args.p) c.as_slice.ensures
    ∙ ap (λ (l : Transition). entry_at l.inputs c.args.p) (get_or_read lines i c.index-lines-k.result inside c.index-lines-k.is d) in
    elim c.if-is_same.branch [
      | then-is_same w ↦ record {
        only = λ k d h below. one_more_found c.loop-k.found i (λ j. j < length lines → Has d j) space
            (λ here. sym (read d) ∙ c.is_same.ensures.0 w.if-is_same.true)
            (λ j g. c.loop-k.invariant.only j d g) k (subst (λ n. bit_at n k ≡ 1) w.found-is h) below;
        all = λ k d below same. subst (λ n. bit_at n k ≡ 1) (sym w.found-is)
            (one_more_kept c.loop-k.found i (Has d) space (λ j before. c.loop-k.invariant.all j d before) k below same);
      }
      | else-is_same w ↦ record {
        only = λ k d h. c.loop-k.invariant.only k d (subst (λ n. bit_at n k ≡ 1) w.found-is h);
        all = λ k d below same. subst (λ n. bit_at n k ≡ 1) (sym w.found-is)
            (pass_place c.loop-k.found i (Has d)
            (λ has. absurd (let yes = c.is_same.ensures.1 (read d ∙ has) in let e : true ≡ false = sym yes ∙ w.if-is_same.false in cc))
            (λ j before. c.loop-k.invariant.all j d before) k below same);
      }
    ]
