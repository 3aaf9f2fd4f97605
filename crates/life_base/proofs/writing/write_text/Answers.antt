use Rattle.std.proofs.Common.{◌≡◌, ℕ, List, ◌+◌, ◌-◌, ◌++◌, length, take, drop, sym, ap, ◌∙◌, subst, arith}
use Rattle.std.specs.Io.KnownBytes.{Appends}
use Rattle.std.proofs.KnownBytes.{Appends-trans}
use Rattle.std.proofs.lemmas.List.{take_rest}
use Rattle.std.proofs.Math.Seq.{take-add}
use Rattle.std.proofs.lemmas.Grind.{common_steps}
use Rattle.life_base.proofs.WritingLemmas.{unstalled}
use Rattle.life_base.proofs.writing.write_text.Goals as goal

-- the first i elements, and then the first n of those from i on
seam : (i n : ℕ) (xs : List ℕ) → take i xs ++ take n (take (length xs - i) (drop i xs)) ≡ take (i + n) xs
seam i n xs = sym (take-add i n xs ∙ ap (λ l. take i xs ++ take n l) (sym (take_rest xs i)))

pub loop-at-preserved : goal.loop-at-preserved
loop-at-preserved g c = record {
  within = grind (arith, common_steps, c.in_ok-count.ensures.count);
  works = c.in_ok-count.ensures.failure ∙ c.loop-at.invariant.works;
  stalled = c.in_ok-count.ensures.stalled ∙ unstalled (g.W.Sink.stalled c.loop-at.writer) c.in_ok-count.count _ c.if-count-eq0.false
      ∙ c.loop-at.invariant.stalled;
  written = subst (Appends _ _) (seam c.loop-at.at c.in_ok-count.count c.args.text.now)
      (Appends-trans _ _ _ _ _ c.loop-at.invariant.written c.in_ok-count.ensures.bytes);
}
