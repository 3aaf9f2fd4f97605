use Rattle.std.proofs.Common.{◌≡◌, ◌≢◌, ℕ, ◌<◌, ◌≤◌, List, length, get_or, set, replicate, sym, ◌∙◌, ap, arith, get_or-set_same, get_or-set_other, length-append}
use Rattle.life_quad.specs.IdMap.{value_of_id}
use Rattle.life_quad.specs.Pages.{start_in, index_in}
use Rattle.life_quad.proofs.PageLemmas.{one_page, same_values}
use Rattle.life_quad.proofs.id_map.IdMap.make_space.Goals as goal

pub returns-clause-same : goal.returns-clause-same
returns-clause-same g c = λ q.
    let starts = c.self.inside.starts.items in
    let values = c.self.inside.values.items in
    let absent = c.self.inside.absent in
    let place : ℕ = c.place_of-place.result in
    let new : List ℕ = set c.make_place.new.starts.items place c.len-start.result in
    let start : c.len-start.result ≡ length values = let l = c.len-start.ensures in let k = c.self.inside.values.ok in omega (arith, l, k) in
    let space : place < length c.make_place.new.starts.items = let l = c.in_ok-make_place.ensures.space in let k = c.make_place.new.starts.ok in
    omega (arith, l, k) in
    let index : c.index_of.result ≡ index_in starts c.args.id.0 = c.index_of.ensures ∙ ap (λ s. index_in s c.args.id.0) c.deref.ensures.value in
    let none : length values ≤ index_in starts c.args.id.0 = omega (arith, start, index, c.if-index_of-start.false) in
    let here : start_in new place ≡ length values = get_or-set_same c.make_place.new.starts.items place c.len-start.result 4294967295 space ∙ start in
    let others : (p : ℕ) → p ≢ place → start_in new p ≡ start_in starts p = λ p o. get_or-set_other c.make_place.new.starts.items place p c.len-start.result
    4294967295 o ∙ c.make_place.ensures.same p in
    let items = c.in_ok-add_page.ensures.page in
    ap (λ l. get_or l (index_in new q.0) absent) items ∙ same_values starts new values absent place c.args.id.0 q.0 c.self.invariant
    (sym c.place_of-place.ensures) none here others ∙ ap (λ v. value_of_id v q) c.self.view_is

pub invariant_of-self-2 : goal.invariant_of-self-2
invariant_of-self-2 g c =
    let starts = c.self.inside.starts.items in
    let values = c.self.inside.values.items in
    let place : ℕ = c.place_of-place.result in
    let new : List ℕ = set c.make_place.new.starts.items place c.len-start.result in
    let start : c.len-start.result ≡ length values = let l = c.len-start.ensures in let k = c.self.inside.values.ok in omega (arith, l, k) in
    let space : place < length c.make_place.new.starts.items = let l = c.in_ok-make_place.ensures.space in let k = c.make_place.new.starts.ok in
    omega (arith, l, k) in
    let here : start_in new place ≡ length values = get_or-set_same c.make_place.new.starts.items place c.len-start.result 4294967295 space ∙ start in
    let others : (p : ℕ) → p ≢ place → start_in new p ≡ start_in starts p = λ p o. get_or-set_other c.make_place.new.starts.items place p c.len-start.result
    4294967295 o ∙ c.make_place.ensures.same p in
    let sum = ap length c.in_ok-add_page.ensures.page ∙ length-append values (replicate 256 c.self.inside.absent) in
    one_page starts new (length values) (length c.add_page.new.values.items) place c.self.invariant sum (omega (arith, sum, start, c.if-start.false))
    here others
