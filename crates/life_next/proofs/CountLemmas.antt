-- The number of live neighbours.
use Rattle.std.proofs.Common.{◌≡◌, ℕ, ◌+◌, ◌<◌, ◌≤◌, [], ◌∷◌, arith, Bool, cond, inl, inr, ◌∙◌, ap, nat_eq}
use Rattle.std.proofs.lemmas.Nat.Bits.{bit_at-lt}
use Rattle.life_base.specs.declared.rule.Near.{Near}
use Rattle.life_base.specs.declared.rule.Near.TheVariants.{Moore, VonNeumann}
use Rattle.life_next.specs.Generation.{live_in}
use Rattle.life_next.specs.Counts.{NineWords, counted_in}
use Rattle.std.proofs.lemmas.Bool.Decides.{eqb_tells}

-- a state of 0 or 1 counts as itself
pub counts_itself : (a : ℕ) → a < 2 → cond (nat_eq 1 a) 1 0 ≡ a
counts_itself a l = elim (eqb_tells 1 a) [
  | inl t ↦ ap (λ (b : Bool). cond b 1 0) t.0 ∙ t.1
  | inr f ↦ ap (λ (b : Bool). cond b 1 0) f.0 ∙ (let ne = f.1 in omega (arith, l, ne))
]

pub eight : (a b c d e f g h : ℕ) → a < 2 → b < 2 → c < 2 → d < 2 → e < 2 → f < 2 → g < 2 → h < 2
    → a + b + c + d + e + f + g + h ≡ live_in (a ∷ b ∷ c ∷ d ∷ e ∷ f ∷ g ∷ h ∷ [])
eight a b c d e f g h la lb lc ld le lf lg lh =
    let ea = counts_itself a la in
    let eb = counts_itself b lb in
    let ec = counts_itself c lc in
    let ed = counts_itself d ld in
    let ee = counts_itself e le in
    let ef = counts_itself f lf in
    let eg = counts_itself g lg in
    let eh = counts_itself h lh in
    omega (arith, ea, eb, ec, ed, ee, ef, eg, eh)

pub four : (a b c d : ℕ) → a < 2 → b < 2 → c < 2 → d < 2 → a + b + c + d ≡ live_in (a ∷ b ∷ c ∷ d ∷ [])
four a b c d la lb lc ld =
    let ea = counts_itself a la in
    let eb = counts_itself b lb in
    let ec = counts_itself c lc in
    let ed = counts_itself d ld in
    omega (arith, ea, eb, ec, ed)

few-eight : (a b c d e f g h n : ℕ) → a < 2 → b < 2 → c < 2 → d < 2 → e < 2 → f < 2 → g < 2 → h < 2 → n ≡ live_in (a ∷ b ∷ c ∷ d ∷ e ∷ f ∷ g ∷ h ∷ [])
    → n ≤ 8
few-eight a b c d e f g h n la lb lc ld le lf lg lh is =
    let sum = eight a b c d e f g h la lb lc ld le lf lg lh in
    omega (arith, is, sum, la, lb, lc, ld, le, lf, lg, lh)

few-four : (a b c d n : ℕ) → a < 2 → b < 2 → c < 2 → d < 2 → n ≡ live_in (a ∷ b ∷ c ∷ d ∷ []) → n ≤ 8
few-four a b c d n la lb lc ld is =
    let sum = four a b c d la lb lc ld in
    omega (arith, is, sum, la, lb, lc, ld)

-- eight neighbours at most
pub few-counted : (near : Near) (w : NineWords) (i n : ℕ) → n ≡ live_in (counted_in near w i) → n ≤ 8
few-counted Moore w i n is =
    few-eight _ _ _ _ _ _ _ _ n (bit_at-lt w.before.here i) (bit_at-lt w.before.after i) (bit_at-lt w.here.after i) (bit_at-lt w.after.after i)
    (bit_at-lt w.after.here i) (bit_at-lt w.after.before i) (bit_at-lt w.here.before i) (bit_at-lt w.before.before i) is
few-counted VonNeumann w i n is =
    few-four _ _ _ _ n (bit_at-lt w.before.here i) (bit_at-lt w.here.after i) (bit_at-lt w.after.here i) (bit_at-lt w.here.before i) is
