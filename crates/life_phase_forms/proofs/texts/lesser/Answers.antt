use Rattle.std.proofs.Common.{ℕ, List, sym, ◌∙◌, ap, ap₂, nat_cmp}
use Rattle.std.specs.Cmp.Lexicographic.{slice_cmp}
use Rattle.std.specs.Ordering.{is_lt}
use Rattle.life_phase_forms.proofs.TextLemmas.{lesser-first, lesser-second}
use Rattle.life_phase_forms.proofs.texts.lesser.Goals as goal

pub returns-then-is_lt : goal.returns-then-is_lt
returns-then-is_lt c =
    let less = λ (a b : List ℕ). is_lt (slice_cmp nat_cmp a b) in
    lesser-second c.args.first.items c.args.second.items
    (ap₂ less (sym c.as_slice.ensures.value) (sym c.as_slice-2.ensures.value) ∙ ap is_lt (sym c.cmp.ensures) ∙ sym c.is_lt.ensures ∙ c.if-is_lt.true)

pub returns-else-is_lt : goal.returns-else-is_lt
returns-else-is_lt c =
    let less = λ (a b : List ℕ). is_lt (slice_cmp nat_cmp a b) in
    lesser-first c.args.first.items c.args.second.items
    (ap₂ less (sym c.as_slice.ensures.value) (sym c.as_slice-2.ensures.value) ∙ ap is_lt (sym c.cmp.ensures) ∙ sym c.is_lt.ensures ∙ c.if-is_lt.false)
