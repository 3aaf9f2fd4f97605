use Rattle.std.proofs.Common.{length, sym, subst, ap, ◌∙◌, All}
use Rattle.std.proofs.lemmas.List.Elements.{All-replicate}
use Rattle.life_table.specs.Meaning.{Becomes}
use Rattle.life_table.specs.declared.table.Table.{Table}
use Rattle.life_sweep.specs.LawFacts.{RemembersAnswers, table_quiet}
use Rattle.std.proofs.lemmas.List.{length-replicate}
use Rattle.life_sweep.specs.declared.law.Known.{Known}
use Rattle.life_sweep.specs.Generation.{TableAnswers, zeros}
use Rattle.life_sweep.proofs.law.ByTable.new.Goals as goal

pub invariant_of-result : goal.invariant_of-result
invariant_of-result c =
    let items = c.in_ok-known.ensures.items_if_clones_equal (λ y h. h) in
    let known : Known = record { around = zeros; next = 0 } in
    let P = λ (k : Known). TableAnswers c.args.table.now k.around (Becomes k.next) in
    subst (λ (z : Table). RemembersAnswers z c.in_ok-known.known.items) (sym c.new.ensures) (record {
      places = ap length items ∙ length-replicate 65536 known;
      each = subst (λ z. All P z) (sym items) (All-replicate P 65536 known (table_quiet c.args.table.now));
    })
