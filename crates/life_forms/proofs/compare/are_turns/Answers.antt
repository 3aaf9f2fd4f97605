use Rattle.std.proofs.Common.{sym, ◌∙◌, rules}
use Rattle.life_pattern.specs.Store.{universe_in}
use Rattle.life_forms.proofs.ComparingFacts.{on-plane, turns-reported}
use Rattle.life_forms.proofs.compare.are_turns.Goals as goal

pub returns-clause-answer : goal.returns-clause-answer
returns-clause-answer c =
    let store = c.args.store.now in
    let a = c.args.a.now in
    let b = c.args.b.now in
    let reported = turns-reported c.texts_tell_universes.ensures (universe_in store a)
    (universe_in store b) c.in_ok-first.first.items c.in_ok-second.second.items
    (on-plane store a c.requires.a c.requires.a_rule (search rules)) (on-plane store b c.requires.b c.requires.b_rule (search rules))
    c.in_ok-first.ensures.text c.in_ok-second.ensures.text in
    let test = c.are_equal.ensures in
    let one = c.deref.ensures.value in
    let two = c.deref-2.ensures.value in
    (λ t. reported.0 (sym one ∙ test.0 t ∙ two), λ s. test.1 (one ∙ reported.1 s ∙ sym two))
