use Rattle.std.proofs.Common.{[], ◌∷◌, sym, ◌∙◌}
use Rattle.life_quad.proofs.MemoryLemmas.{nine-numbers}
use Rattle.life_quad.proofs.memory.numbers_of.Goals as goal

pub returns : goal.returns
returns c =
    let all = nine-numbers c.args.ids.now (record { 0 = 0 }) c.told-ids in
    let a = c.in_ok-number_of.ensures in
    let b = c.in_ok-number_of-2.ensures in
    let d = c.in_ok-number_of-3.ensures in
    let e = c.in_ok-number_of-4.ensures in
    let f = c.in_ok-number_of-5.ensures in
    let g = c.in_ok-number_of-6.ensures in
    let h = c.in_ok-number_of-7.ensures in
    let i = c.in_ok-number_of-8.ensures in
    let j = c.in_ok-number_of-9.ensures in
    (λ k. a k ∷ b k ∷ d k ∷ e k ∷ f k ∷ g k ∷ h k ∷ i k ∷ j k ∷ []) ∙ sym all
