use Rattle.std.proofs.Common.{get_or, ap, sym, ◌∙◌, inl, inr, arith, eq-eqb}
use Rattle.std.specs.Int.{bit_at}
use Rattle.std.proofs.lemmas.Bool.Decides.{eqb_tells}
use Rattle.life_table.specs.Seen.{places}
use Rattle.life_table.specs.declared.table.Entry.TheVariants as entries
use Rattle.life_table.proofs.Seeing.{or_left, or_right, all_sixteen}
use Rattle.life_table.proofs.seen.Seen.may_take_all.Goals as goal

pub loop-entry-preserved : goal.loop-entry-preserved
loop-entry-preserved c = λ j k below h.
    let i = c.loop-entry.entry-index in
    elim (eqb_tells j i) [
      | inl here ↦ or_right c.loop-entry.consumed c.places-places.result k
          (ap (λ n. bit_at n k) (c.places-places.ensures ∙ ap (λ n. places c.args.self.now (get_or c.args.inputs.now n (entries.Fixed 0))) (sym here.1)) ∙ h)
      | inr other ↦ or_left c.loop-entry.consumed c.places-places.result k (c.loop-entry.invariant j k (omega (arith, below, other.1)) h)
    ]

pub returns : goal.returns
returns c = λ some each.
    eq-eqb c.loop-entry.consumed 65535 (all_sixteen c.loop-entry.consumed (omega (arith, c.loop-entry.auto.consumed-fits))
    (λ k space. let e = each k space in c.loop-entry.invariant e.0 k (omega (arith, e.1, c.loop-entry-test.false)) e.2))
