use Rattle.std.proofs.Common.{◌≡◌, ℕ, List, cond, Err, inl, inr, sym, ap, ◌∙◌}
use Rattle.life_base.specs.Refusal.{Answers, OrMemory, fault_at}
use Rattle.life_base.specs.declared.fault.Fault.{Fault}
use Rattle.life_base.specs.declared.kind.Kind.{Kind}
use Rattle.life_base.specs.declared.kind.Kind.TheVariants.{Memory}
use Rattle.life_table.specs.Reading.{parse_line}
use Rattle.life_table.specs.declared.directive.Parsed.{Parsed}
use Rattle.life_table.specs.declared.directive.Directive.{Directive}
use Rattle.life_table.proofs.LineKinds.{directive_kind, names_line}
use Rattle.life_table.proofs.lines.TableLines.line.Goals as goal

-- the fault of a line that breaks a rule
at_line : (parsed : Parsed) (number : ℕ) (line : List ℕ) (kind : Kind) (fault : Fault) → fault ≡ fault_at number kind
    → Answers {X = Directive} (Err kind) (parse_line parsed number line)
    → OrMemory fault ((parse_line parsed number line ≡ Err fault.kind) × (fault.place.line ≡ number))
at_line parsed number line kind fault e (inl m) = let same : kind ≡ Memory = cc in inl (e ∙ ap (fault_at number) same)
at_line parsed number line kind fault e (inr b) = inr (
  sym b ∙ ap Err (sym (ap (λ (f : Fault). f.kind) e)),
  ap (λ (f : Fault). f.place.line) e ∙ ap (λ v. cond v 0 number) (names_line kind (directive_kind parsed number line kind (sym b))),
)

pub returns-in-Err-clause-err : goal.returns-in-Err-clause-err
returns-in-Err-clause-err c = at_line c.args.self.now.parsed c.args.number c.args.line.now c.in-Err.kind c.at.result c.at.ensures c.in-Err.ensures
