use Rattle.std.proofs.Common.{◌≡◌, ◌^◌, ◌<◌, ◌≤◌, min, max, ◌-◌, ◌∙◌, ap, arith, refl}
use Rattle.std.specs.Int.{bit_at}
use Rattle.std.proofs.lemmas.Nat.Bits.{bit_at-lt}
use Rattle.life_base.specs.Sets.{OuterTotalistic}
use Rattle.life_next.specs.Generation.{next_by_count, live_in}
use Rattle.life_next.specs.Counts.{count_at, counted_in}
use Rattle.life_next.proofs.CountLemmas.{few-counted}
use Rattle.life_next.proofs.WordLemmas.{bit-chosen, next-of}
use Rattle.life_next.proofs.counts.next_word.Goals as goal

pub returns : goal.returns
returns c i l =
    let w = c.args.words.now in
    let h = w.here.here in
    let counts = c.live_counted-counts.result in
    let count = count_at counts i in
    let sets = c.args.rule.now.sets in
    let counted : count ≡ live_in (counted_in c.args.rule.now.near w i) =
    c.live_counted-counts.ensures i ∙ ap (λ (z : OuterTotalistic). live_in (counted_in z.near w i)) c.rule.view_is in
    let few : count ≤ 8 = few-counted c.args.rule.now.near w i count counted in
    let births : bit_at c.columns_in.result i ≡ bit_at sets.births count = c.columns_in.ensures i l few
    ∙ ap (λ (z : OuterTotalistic). bit_at z.sets.births count) c.rule.view_is in
    let survivals : bit_at c.columns_in-2.result i ≡ bit_at sets.survivals count = c.columns_in-2.ensures i l few
    ∙ ap (λ (z : OuterTotalistic). bit_at z.sets.survivals count) c.rule.view_is in
    let fits : h < 2 ^ 64 = omega arith in
    bit-chosen c.columns_in.result c.columns_in-2.result h i (bit_at h i) fits l refl
    ∙ ap (λ z. max (min z (1 - bit_at h i)) (min (bit_at c.columns_in-2.result i) (bit_at h i))) births
    ∙ ap (λ z. max (min (bit_at sets.births count) (1 - bit_at h i)) (min z (bit_at h i))) survivals
    ∙ next-of (bit_at sets.births count) (bit_at sets.survivals count) (bit_at h i) (bit_at-lt sets.births count) (bit_at-lt sets.survivals count)
    (bit_at-lt h i)
    ∙ ap (next_by_count sets (bit_at h i)) counted
