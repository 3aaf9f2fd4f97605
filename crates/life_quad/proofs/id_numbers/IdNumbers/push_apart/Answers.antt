use Rattle.std.proofs.Common.{◌≡◌, ◌≢◌, ℕ, ◌+◌, ◌++◌, ◌∷◌, [], ap, sym, ◌∙◌, subst, rules, length, length-append, map, Contains}
use Rattle.life_quad.specs.declared.id.Id.{Id}
use Rattle.life_quad.specs.IdMap.{value_of_id}
use Rattle.life_quad.specs.Store.{id_of}
use Rattle.life_quad.specs.IdNumbers.{NumberedIds, number_by}
use Rattle.life_quad.proofs.PlaceLemmas.{same_places, in_pages, one_paged, ids_more}
use Rattle.life_quad.proofs.id_numbers.IdNumbers.push_apart.Goals as goal

pub invariant_of-self : goal.invariant_of-self
invariant_of-self c =
    let first = c.self.inside.first in
    let numbers = c.self.inside.numbers.items in
    let old : Id → ℕ = value_of_id c.self.inside.pages in
    let new : Id → ℕ = value_of_id c.set.new.self in
    let none : length numbers ≡ 0 = search rules in (
      same_places (map id_of c.self.inside.log.ids) (number_by first numbers old) (number_by first numbers new)
          (λ q. in_pages first numbers new none q ∙ c.in_err-set.ensures.same q ∙ sym (in_pages first numbers old none q)) c.self.invariant.0,
      c.self.invariant.1,
      c.self.invariant.2,
      c.self.invariant.3,
    )

pub invariant_of-self-2 : goal.invariant_of-self-2
invariant_of-self-2 c =
    let ids = map id_of c.self.inside.log.ids in
    let first = c.self.inside.first in
    let numbers = c.self.inside.numbers.items in
    let none : length numbers ≡ 0 = search rules in
    let absent : ¬ Contains ids c.args.id = subst (λ (v : NumberedIds). ¬ Contains v.ids c.args.id) (sym c.self.view_is) c.requires.new in
    let count : c.in-Some.count ≡ c.self.inside.count + 1 = search rules in
    let number : c.in-Some.count ≡ length ids + 1 = count ∙ ap (λ n. n + 1) c.self.invariant.1 in
    let more : map id_of c.then-self-inside.result.ids ≡ ids ++ c.args.id ∷ [] = ids_more c.self.inside.log.ids c.then-self-inside.result.ids c.args.id
    c.then-self-inside.ensures in
    let others : (q : Id) → q ≢ c.args.id → value_of_id c.set.new.self q ≡ value_of_id c.self.inside.pages q = c.set.ensures.others in
    let placed = one_paged first ids numbers (value_of_id c.self.inside.pages) (value_of_id c.set.new.self) c.args.id c.in-Some.count none c.self.invariant.0
    c.in_ok-set.ensures.set others absent number in (
      rw more placed,
      number ∙ sym (ap length more ∙ length-append ids (c.args.id ∷ [])),
      c.self.invariant.2,
      c.self.invariant.3,
    )
