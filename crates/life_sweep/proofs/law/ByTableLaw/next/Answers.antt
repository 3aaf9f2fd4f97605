use Rattle.std.proofs.Common.{◌<◌, length, set, sym, ◌∙◌, subst, arith, length-set, ◌↔◌}
use Rattle.std.proofs.lemmas.List.Elements.{All-set}
use Rattle.std.proofs.lemmas.Slice.Eq.{bytes_eq-Decides}
use Rattle.life_table.specs.Meaning.{Answer, Becomes}
use Rattle.life_table.specs.declared.table.Table.{Table}
use Rattle.life_sweep.specs.declared.law.Known.{Known}
use Rattle.life_sweep.specs.Generation.{TableAnswers}
use Rattle.life_sweep.specs.LawFacts.{RemembersAnswers}
use Rattle.life_sweep.proofs.law.ByTableLaw.next.Goals as goal

pub returns-then-eq-clause-next : goal.returns-then-eq-clause-next
returns-then-eq-clause-next c =
    let t = c.self.inside.index in
    let items = c.self.inside.known.items in
    let seen = c.representative-seen.result in
    let place = c.place_of-place.result in
    let there : place < length items = omega (arith, c.place_of-place.ensures, c.self.invariant.places) in
    let known = subst (λ (k : Known). TableAnswers t k.around (Becomes k.next)) (sym c.index.ensures) (c.self.invariant.each place c.index.result.now there) in
    let same = (bytes_eq-Decides c.index.result.now.around seen).0 (sym c.eq.ensures ∙ c.if-eq.true) in
    let found = subst (λ v. TableAnswers t v (Becomes c.index.result.now.next)) same known in
    let alike = subst (λ (z : Table). (answer : Answer) → TableAnswers z seen answer ↔ TableAnswers z c.args.around.now answer) c.table.ensures
    c.representative-seen.ensures.same in
    subst (λ (z : Table). TableAnswers z c.args.around.now (Becomes c.index.result.now.next)) c.self.view_is
    ((alike (Becomes c.index.result.now.next)).0 found)

pub returns-clause-next : goal.returns-clause-next
returns-clause-next c =
    let seen = c.representative-seen.result in
    let next = c.in_ok-next.next in
    let alike = subst (λ (z : Table). (answer : Answer) → TableAnswers z seen answer ↔ TableAnswers z c.args.around.now answer) c.table.ensures
    c.representative-seen.ensures.same in
    subst (λ (z : Table). TableAnswers z c.args.around.now (Becomes next)) c.self.view_is
    ((alike (Becomes next)).0 (subst (λ (z : Table). TableAnswers z seen (Becomes next)) c.grow.ensures c.in_ok-next.ensures.next))

pub invariant_of-self : goal.invariant_of-self
invariant_of-self c = subst (λ (z : Table). RemembersAnswers z c.self.inside.known.items) (sym c.grow.ensures) c.self.invariant

pub invariant_of-self-2 : goal.invariant_of-self-2
invariant_of-self-2 c =
    let t = c.self.inside.index in
    let items = c.self.inside.known.items in
    let place = c.place_of-place.result in
    let seen = c.representative-seen.result in
    let next = c.in_ok-next.next in
    let new : Known = record { around = seen; next = next } in
    let answered = subst (λ (z : Table). TableAnswers z seen (Becomes next)) c.grow.ensures c.in_ok-next.ensures.next in
    subst (λ (z : Table). RemembersAnswers z (set items place new)) (sym c.grow.ensures) (record {
      places = length-set items place new ∙ c.self.invariant.places;
      each = All-set (λ (k : Known). TableAnswers t k.around (Becomes k.next)) items place new answered c.self.invariant.each;
    })
