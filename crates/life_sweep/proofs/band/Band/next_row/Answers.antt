use Rattle.std.proofs.Common.{◌≡◌, ◌⊎◌, inl, inr, ℕ, ◌<◌, ◌==◌, true, length, sym, ◌∙◌, arith, true≢false}
use Rattle.std.proofs.lemmas.Int.{ints}
use Rattle.std.proofs.lemmas.Bool.Decides.{eqb_tells}
use Rattle.life_base.proofs.Numbers.{not_zero}
use Rattle.life_sweep.specs.Rows.{IsInside}
use Rattle.life_sweep.proofs.BandLemmas.{first-is, begins, next-within}
use Rattle.life_sweep.proofs.band.Band.next_row.Goals.{then-not-is_empty-via-then-not-is_empty, then-not-is_empty-via-else-not-is_empty+then-not-is_empty-2}
use Rattle.life_sweep.proofs.band.Band.next_row.Goals as goal

none : (n : ℕ) → (n == 0) ≡ true → n ≡ 0
none n e = elim (eqb_tells n 0) [ inl z ↦ z.1 | inr k ↦ absurd (true≢false (sym e ∙ k.0)) ]

-- a cell stands in the middle row or the southern one
some : (c : goal.After-result-1) → (0 < length c.args.self.now.rows.here.now) ⊎ (0 < length c.args.self.now.rows.south.now)
some c = elim c.then-not-is_empty.branch [
  | then-not-is_empty-via-then-not-is_empty w ↦ inl (not_zero _ (sym c.is_empty.ensures ∙ w.if-not-is_empty.true))
  | then-not-is_empty-via-else-not-is_empty+then-not-is_empty-2 w ↦ inr (not_zero _ (sym w.is_empty-else-not-is_empty.ensures ∙ w.if-not-is_empty-2.true))
]

pub returns-then-not-is_empty-clause-within : goal.returns-then-not-is_empty-clause-within
returns-then-not-is_empty-clause-within c =
    let s = c.requires.sound in
    let within = next-within _ _ c.args.self.now.y s.here s.south (some c) in
    (omega (arith, ints, s.row.0, s.row.1), omega (arith, ints, s.row.0, within))

pub returns-then-not-is_empty-clause-row : goal.returns-then-not-is_empty-clause-row
returns-then-not-is_empty-clause-row c = inl (omega (arith, ints, c.requires.sound.row.0, c.requires.sound.row.1), some c)

inside : (c : goal.After-result-2-1) → IsInside c.in-Some.first.now
inside c = first-is IsInside c.args.self.now.rest.now c.in-Some.first.now c.in-Some.ensures.value c.requires.sound.rest

pub returns-clause-within : goal.returns-clause-within
returns-clause-within c = let i = inside c in (omega (arith, ints, i.north, i.south), omega (arith, ints, i.north, i.south))

pub returns-clause-row : goal.returns-clause-row
returns-clause-row c =
    let i = inside c in
    inr (
      none _ (sym c.is_empty.ensures ∙ c.if-not-is_empty.false),
      none _ (sym c.is_empty-else-not-is_empty.ensures ∙ c.if-not-is_empty-2.false),
      begins _ c.args.self.now.rest.now c.in-Some.first.now c.in-Some.ensures.value (omega (arith, ints, i.north, i.south)),
    )
