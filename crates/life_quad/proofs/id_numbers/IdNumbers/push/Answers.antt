use Rattle.std.proofs.lemmas.Grind.{common_steps}
use Rattle.std.proofs.Common.{◌≡◌, ◌+◌, ◌<◌, ◌++◌, ◌∷◌, [], ap, sym, ◌∙◌, subst, arith, length, length-append, length-set, map, Contains}
use Rattle.life_quad.specs.IdMap.{value_of_id}
use Rattle.life_quad.specs.Store.{id_of}
use Rattle.life_quad.specs.IdNumbers.{NumberedIds}
use Rattle.life_quad.proofs.PlaceLemmas.{number_left_by, one_listed, ids_more}
use Rattle.life_quad.proofs.id_numbers.IdNumbers.push.Goals as goal

pub overflow_add-self : goal.overflow_add-self
overflow_add-self c =
    let ids = map id_of c.self.inside.log.ids in
    let absent : ¬ Contains ids c.args.id = subst (λ (v : NumberedIds). ¬ Contains v.ids c.args.id) (sym c.self.view_is) c.requires in
    let at = c.index_from-index.ensures in
    let left = number_left_by c.self.inside.first ids c.self.inside.numbers.items (value_of_id c.self.inside.pages) c.args.id
    c.index_from-index.result c.self.invariant.0 absent at.from at.before c.self.invariant.2
    (let l = c.len.ensures in let k = c.self.inside.numbers.ok in omega (arith, l, k, c.if-index-len.false)) in
    omega (arith, left, c.self.invariant.1, c.self.invariant.2)

pub invariant_of-self : goal.invariant_of-self
invariant_of-self c =
    let ids = map id_of c.self.inside.log.ids in
    let numbers = c.self.inside.numbers.items in
    let absent : ¬ Contains ids c.args.id = subst (λ (v : NumberedIds). ¬ Contains v.ids c.args.id) (sym c.self.view_is) c.requires in
    let index = c.index_from-index.result in
    let at = c.index_from-index.ensures in
    let space : index < length numbers = let l = c.len.ensures in let k = c.self.inside.numbers.ok in omega (arith, l, k, c.if-index-len.false) in
    let number : c.self.inside.count + 1 ≡ length ids + 1 = ap (λ n. n + 1) c.self.invariant.1 in
    let more : map id_of c.then-self-inside.result.ids ≡ ids ++ c.args.id ∷ [] = ids_more c.self.inside.log.ids c.then-self-inside.result.ids c.args.id
    c.then-self-inside.ensures in
    let placed = one_listed c.self.inside.first ids numbers (value_of_id c.self.inside.pages) c.args.id index (c.self.inside.count + 1) c.self.invariant.0
    absent at.from at.before c.self.invariant.2 space number in (
      rw more placed,
      number ∙ sym (ap length more ∙ length-append ids (c.args.id ∷ [])),
      subst (λ n. n < 4294967296) (sym (length-set numbers index (c.self.inside.count + 1))) c.self.invariant.2,
      c.self.invariant.3,
    )

pub returns-clause-number : goal.returns-clause-number
returns-clause-number c = grind (arith, common_steps)
