use Rattle.std.proofs.Common.{◌≡◌, ◌⊎◌, inl, inr, ℕ, ◌+◌, ◌<◌, max, sym, ◌∙◌, ap, arith}
use Rattle.std.specs.Int.{bit_at}
use Rattle.std.proofs.lemmas.Bool.{cases_lt}
use Rattle.std.proofs.lemmas.Nat.Bits.{bit_at_or, bit_at-lt, shr_and_one}
use Rattle.life_next.specs.Counts.{count_at}
use Rattle.life_next.proofs.counts.BitCounts.columns_in.Goals.{then-set-count-eq1, else-set-count-eq1}
use Rattle.life_next.proofs.counts.BitCounts.columns_in.Goals as goal

-- a number below the next one is below this one, or this one
below-next : (n count : ℕ) → n < count + 1 → (n < count) ⊎ (n ≡ count)
below-next n count l = elim (cases_lt n count) [ inl b ↦ inl b | inr b ↦ inr (omega (arith, l, b)) ]

pub loop-count-preserved : goal.loop-count-preserved
loop-count-preserved c =
    let at : ℕ → ℕ = λ i. count_at c.args.self.now i in
    let old = c.loop-count.columns in
    let new = c.if-set-count-eq1.columns in
    let n = c.loop-count.count in
    let set = c.args.set in
    let inv = c.loop-count.invariant in
    elim c.if-set-count-eq1.branch [
      | then-set-count-eq1 w ↦
          let with = w.columns_with-columns.result in
          let or : (i : ℕ) → bit_at new i ≡ max (bit_at old i) (bit_at with i) = λ i. ap (λ z. bit_at z i) w.columns-is ∙ bit_at_or old with i in
          let one : bit_at set n ≡ 1 = sym (shr_and_one set n) ∙ w.if-set-count-eq1.true in
          record {
            found = λ i l b. elim (below-next (at i) n b) [
              | inl less ↦ (let o = or i in let a = inv.found i l less in let z = w.columns_with-columns.ensures.others i l (λ e. omega (arith, e, less)) in
                  omega (arith, o, a, z))
              | inr same ↦ (let o = or i in let z = w.columns_with-columns.ensures.here i l same in let a = inv.clear i l (omega (arith, same)) in
                  let s : bit_at set (at i) ≡ 1 = ap (bit_at set) same ∙ one in omega (arith, o, a, z, s))
            ];
            clear = λ i l b. (let o = or i in let a = inv.clear i l (omega (arith, b)) in
                let z = w.columns_with-columns.ensures.others i l (λ e. omega (arith, e, b)) in omega (arith, o, a, z));
          }
      | else-set-count-eq1 w ↦
          let same-bit : (i : ℕ) → bit_at new i ≡ bit_at old i = λ i. ap (λ z. bit_at z i) w.columns-is in
          let not : bit_at set n ≡ 1 → ⊥ = λ e. w.if-set-count-eq1.false (shr_and_one set n ∙ e) in
          record {
            found = λ i l b. elim (below-next (at i) n b) [
              | inl less ↦ same-bit i ∙ inv.found i l less
              | inr same ↦ (let o = same-bit i in let a = inv.clear i l (omega (arith, same)) in let lt = bit_at-lt set (at i) in
                  let ne : bit_at set (at i) ≡ 1 → ⊥ = (λ e. not (sym (ap (bit_at set) same) ∙ e)) in omega (arith, o, a, lt, ne))
            ];
            clear = λ i l b. same-bit i ∙ inv.clear i l (omega (arith, b));
          }
    ]
