use Rattle.std.proofs.Common.{◌≡◌, ◌∙◌, ℕ, inl, inr, sym}
use Rattle.std.proofs.lemmas.Result.{err_from_is_err_and}
use Rattle.life_cli.proofs.WorkLemmas.{compared_in, no_first_file, no_first_input, no_second_file, no_second_input, uncompared_in}
use Rattle.life_cli.proofs.jobs.compared.Goals as goal

pub returns-in_err-a-clause-err : goal.returns-in_err-a-clause-err
returns-in_err-a-clause-err g c =
    let p = err_from_is_err_and c.from_residual.result c.from_residual.ensures.1 in
    rw (p.1, p.2) (no_first_input c.args.form _ _ c.pattern_in.new.store c.in_err-a.field-0.0 (c.pattern_in.ensures.keeps.limit ∙ c.seeded-store.ensures.most)
    (rw c.seeded-store.ensures.stored at c.in_err-a.ensures.err))

pub returns-in_err-b-clause-err : goal.returns-in_err-b-clause-err
returns-in_err-b-clause-err g c =
    let p = err_from_is_err_and c.from_residual-in_err-b.result c.from_residual-in_err-b.ensures.1 in
    let a = c.in_ok-a.ensures.pattern in
    rw (p.1, p.2) (no_second_input c.args.form _ _ a.bytes _ c.pattern_in-2.new.store c.in_err-b.field-0.0 a.read
    (rw c.seeded-store.ensures.stored at c.pattern_in.ensures.squares)
    (c.pattern_in-2.ensures.keeps.limit ∙ c.pattern_in.ensures.keeps.limit ∙ c.seeded-store.ensures.most) c.in_err-b.ensures.err)

pub returns-in_err-a-2-clause-err : goal.returns-in_err-a-2-clause-err
returns-in_err-a-2-clause-err g c =
    let p = err_from_is_err_and c.from_residual-in_err-a-2.result c.from_residual-in_err-a-2.ensures.1 in
    let a = c.in_ok-a.ensures.pattern in
    let b = c.in_ok-b.ensures.pattern in
    rw (p.1, p.2) (no_first_file c.args.form _ _ a.bytes b.bytes c.in_err-a-2.field-0.0 a.read b.read (rw c.in_err-a-2.was at a.fault))

pub returns-in_err-b-2-clause-err : goal.returns-in_err-b-2-clause-err
returns-in_err-b-2-clause-err g c =
    let p = err_from_is_err_and c.from_residual-in_err-b-2.result c.from_residual-in_err-b-2.ensures.1 in
    let a = c.in_ok-a.ensures.pattern in
    let b = c.in_ok-b.ensures.pattern in
    let r = rw c.in_ok-a-2.was at a.pattern in
    rw (p.1, p.2) (no_second_file c.args.form _ _ a.bytes b.bytes c.in_err-b-2.field-0.0 a.read b.read (r.universe, r.reads) (rw c.in_err-b-2.was at b.fault))

pub compare_in-requires-clause-a : goal.compare_in-requires-clause-a
compare_in-requires-clause-a g c =
    let a = c.in_ok-a.ensures.pattern in
    let r = rw c.in_ok-a-2.was at a.pattern in
    (a.bytes, c.patterns_stay.ensures a.bytes _ _ _ c.pattern_in-2.ensures.keeps r)

pub compare_in-requires-clause-b : goal.compare_in-requires-clause-b
compare_in-requires-clause-b g c =
    let b = c.in_ok-b.ensures.pattern in
    let q = rw c.in_ok-b-2.was at b.pattern in
    (b.bytes, q)

pub returns-clause-ok : goal.returns-clause-ok
returns-clause-ok g c =
    compared_in c.args.form _ _ c.pattern_in-2.new.store _ _ _ _
    (c.pattern_in-2.ensures.keeps.limit ∙ c.pattern_in.ensures.keeps.limit ∙ c.seeded-store.ensures.most) c.in_ok-a.ensures.pattern.read
    c.in_ok-b.ensures.pattern.read
    (c.patterns_stay.ensures _ _ _ _ c.pattern_in-2.ensures.keeps (rw c.in_ok-a-2.was at c.in_ok-a.ensures.pattern.pattern))
    (rw c.in_ok-b-2.was at c.in_ok-b.ensures.pattern.pattern) c.compare_in.result c.made_from_comparison.result
    c.made_from_comparison.ensures.answer c.made_from_comparison.ensures.refused c.compare_in.ensures.answer c.compare_in.ensures.have

pub returns-clause-err : goal.returns-clause-err
returns-clause-err g c =
    uncompared_in c.args.form _ _ c.pattern_in-2.new.store _ _ _ _
    (c.pattern_in-2.ensures.keeps.limit ∙ c.pattern_in.ensures.keeps.limit ∙ c.seeded-store.ensures.most) c.in_ok-a.ensures.pattern.read
    c.in_ok-b.ensures.pattern.read
    (c.patterns_stay.ensures _ _ _ _ c.pattern_in-2.ensures.keeps (rw c.in_ok-a-2.was at c.in_ok-a.ensures.pattern.pattern))
    (rw c.in_ok-b-2.was at c.in_ok-b.ensures.pattern.pattern) c.compare_in.result c.made_from_comparison.result
    c.made_from_comparison.ensures.answer c.made_from_comparison.ensures.refused c.compare_in.ensures.fault c.compare_in.ensures.whose

-- what has not failed has not failed once
unfailed : (n : ℕ) → n ≡ 0 → n ≡ 1 → ⊥
unfailed n works failed = let bad : 0 ≡ 1 = sym works ∙ failed in absurd cc

pub returns-in_err-a-clause-reported : goal.returns-in_err-a-clause-reported
returns-in_err-a-clause-reported g c =
    let p = err_from_is_err_and c.from_residual.result c.from_residual.ensures.1 in
    rw (p.1, p.2) (λ e. elim e [
      | inl failed ↦ c.in_err-a.ensures.reported failed
      | inr failed ↦ absurd (unfailed _ c.requires.other failed)
    ])

pub returns-in_err-b-clause-reported : goal.returns-in_err-b-clause-reported
returns-in_err-b-clause-reported g c =
    let p = err_from_is_err_and c.from_residual-in_err-b.result c.from_residual-in_err-b.ensures.1 in
    rw (p.1, p.2) (λ e. elim e [ inl failed ↦ absurd (c.in_ok-a.ensures.reported failed) | inr failed ↦ c.in_err-b.ensures.reported failed ])

pub returns-in_err-a-2-clause-reported : goal.returns-in_err-a-2-clause-reported
returns-in_err-a-2-clause-reported g c =
    λ e. elim e [ inl failed ↦ absurd (c.in_ok-a.ensures.reported failed) | inr failed ↦ absurd (c.in_ok-b.ensures.reported failed) ]

pub returns-in_err-b-2-clause-reported : goal.returns-in_err-b-2-clause-reported
returns-in_err-b-2-clause-reported g c =
    λ e. elim e [ inl failed ↦ absurd (c.in_ok-a.ensures.reported failed) | inr failed ↦ absurd (c.in_ok-b.ensures.reported failed) ]

pub returns-clause-reported : goal.returns-clause-reported
returns-clause-reported g c =
    λ e. elim e [ inl failed ↦ absurd (c.in_ok-a.ensures.reported failed) | inr failed ↦ absurd (c.in_ok-b.ensures.reported failed) ]
