use Rattle.std.proofs.Common.{◌≡◌, ◌⊎◌, Err, ap, inl, inr, rules}
use Rattle.life_base.specs.declared.kind.Kind.{Kind}
use Rattle.life_base.specs.declared.kind.Kind.TheVariants.{NoHeader, Spent}
use Rattle.life_base.specs.declared.cell.TheConstants.{MAX_LEVEL}
use Rattle.life_rle.proofs.Refusal.{IsPreamble-refused}
use Rattle.life_rle.proofs.lines.RleLines.end.Goals as goal

pub returns-clause-missing : goal.returns-clause-missing
returns-clause-missing c = λ r.
    (λ e. cc, λ h. absurd (IsPreamble-refused MAX_LEVEL c.args.self.lines h.0 h.1 (c.in_ok-rule.ensures.file.0, c.in_ok-rule.ensures.file.1)))

pub returns-in_err-rule-clause-whole : goal.returns-in_err-rule-clause-whole
returns-in_err-rule-clause-whole c = λ r g.
    let kind : Kind = c.in_err-rule.field-0.0 in
    let only : (kind ≡ NoHeader) ⊎ (kind ≡ Spent) = c.in_err-rule.ensures.only in
    elim only [
      | inl m ↦ (let pre = c.in_err-rule.ensures.missing (ap Err m) in absurd (IsPreamble-refused MAX_LEVEL c.args.self.lines pre.0 pre.1 g))
      | inr s ↦ (let refused = c.in_err-rule.ensures.spent.0 (ap Err s) in cc)
    ]

pub returns-clause-file : goal.returns-clause-file
returns-clause-file c = search rules
