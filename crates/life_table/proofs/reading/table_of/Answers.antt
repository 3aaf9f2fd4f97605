use Rattle.std.proofs.Common.{sym, subst, List, rules}
use Rattle.life_table.specs.Valid.{IsSoundTable}
use Rattle.life_table.specs.declared.table.Var.{Var}
use Rattle.life_table.proofs.Good.{sound_of}
use Rattle.life_table.proofs.reading.table_of.Goals as goal

pub invariant_of-result : goal.invariant_of-result
invariant_of-result c =
    let n = c.in-Some-Some-Some.n_states in
    let h = c.in-Some-Some-Some.neighborhood in
    let y = c.in-Some-Some-Some.symmetry in
    record {
      sound = subst (λ (vars : List Var). IsSoundTable n h y vars c.args.parsed.lines) (sym c.in_ok-vars-in-Some-Some-Some.ensures.ok)
          (sound_of c.args.parsed c.requires.good n h y c.in-Some-Some-Some.is-0 c.in-Some-Some-Some.is-1 c.in-Some-Some-Some.is-2);
    }

pub returns-then-eq-clause-err : goal.returns-then-eq-clause-err
returns-then-eq-clause-err c = search rules
