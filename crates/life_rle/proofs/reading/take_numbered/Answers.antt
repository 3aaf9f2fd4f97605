use Rattle.std.proofs.Common.{◌≡◌, ◌⊎◌, ℕ, true, false, List, Err, cond, sym, ap, ◌∙◌, subst, inl, inr}
use Rattle.life_base.specs.Refusal.{OrMemory, fault_at}
use Rattle.life_base.specs.declared.kind.Kind.{Kind}
use Rattle.life_base.specs.declared.kind.Kind.TheVariants.{Memory, Spent}
use Rattle.life_base.specs.declared.fault.Fault.{Fault}
use Rattle.life_base.specs.declared.cell.TheConstants.{MAX_LEVEL}
use Rattle.life_base.specs.declared.cell.Run.{Run}
use Rattle.life_rle.specs.File.{HasRuns}
use Rattle.life_rle.specs.Grammar.{BreaksRle}
use Rattle.life_rle.proofs.LineKinds.{Breaks-placed}
use Rattle.life_rle.proofs.reading.take_numbered.Goals as goal

pub returns-in-Ok-clause-runs : goal.returns-in-Ok-clause-runs
returns-in-Ok-clause-runs c = λ h.
    let adds = c.in-Ok.ensures.runs in
    subst (λ (rs : List Run). HasRuns MAX_LEVEL c.line_into.new.self.lines rs) (sym adds.added) (adds.found c.args.runs.now.items h)

pub returns-in-Err-clause-fault : goal.returns-in-Err-clause-fault
returns-in-Err-clause-fault c =
    let kind : Kind = c.in-Err.kind in
    let number : ℕ = c.args.number in
    let lines : List (List ℕ) = c.args.reader.now.lines in
    let line : List ℕ = c.args.line.now in
    let e : c.at.result ≡ fault_at number kind = c.at.ensures in
    let reported : (kind ≡ Memory) ⊎ (kind ≡ Spent) ⊎ BreaksRle MAX_LEVEL lines line kind = c.in-Err.ensures.fault in
    let answer : OrMemory c.at.result (BreaksRle MAX_LEVEL lines line c.at.result.kind × (c.at.result.place.line ≡ number)) = elim reported [
      | inl m ↦ inl (e ∙ ap (fault_at number) m)
      | inr t ↦ elim t [
        | inl s ↦ (let r : c.args.reader.now.refused ≡ true = c.in-Err.ensures.spent.0 (ap Err s) in let q : c.args.reader.now.refused ≡ false = c.requires in
            cc)
        | inr b ↦ inr (
          subst (BreaksRle MAX_LEVEL lines line) (sym (ap (λ (f : Fault). f.kind) e)) b,
          ap (λ (f : Fault). f.place.line) e ∙ ap (λ v. cond v 0 number) (Breaks-placed MAX_LEVEL lines line kind b),
        )
      ]
    ] in
    answer
