use Rattle.std.proofs.Common.{◌≡◌, ◌+◌, ◌-◌, ◌++◌, ◌∷◌, [], length, set, arith, refl, sym, ◌∙◌, ap, subst}
use Rattle.std.proofs.lemmas.List.{set-get_or}
use Rattle.life_strip.specs.declared.spans.Span.{Span}
use Rattle.life_strip.specs.Strip.{IsExtended}
use Rattle.life_strip.proofs.SpanLemmas.{extended-push}
use Rattle.life_strip.proofs.BandLemmas.{extended-last}
use Rattle.life_strip.proofs.spans.extend.Goals as goal
use Rattle.life_strip.proofs.spans.extend.Goals.{in-Some+else-last-column, else-last-column-via-then-last-column+else-eq, else-last-column-via-else-last-column, in_default}

pub returns-then-eq-clause-columns : goal.returns-then-eq-clause-columns
returns-then-eq-clause-columns c before =
    let spans = c.args.spans.now.items in
    let last : Span = c.in-Some.last.now in
    let index = c.args.spans.now.len - 1 in
    let number : last.square.0 ≡ c.args.square.0 = grind arith in
    let same : last.square ≡ c.args.square = λ i. record { 0 = number i } in
    let some = c.in-Some.ensures.variant.0 refl in
    let place : index + 1 ≡ length spans = omega (arith, c.args.spans.now.ok, some) in
    extended-last c.args.column c.args.end c.args.square c.requires spans index last
    (record { start = last.start; end = c.args.end; square = last.square }) place before (sym c.in-Some.ensures.value) c.if-last-column.true refl refl refl same

pub returns-clause-columns : goal.returns-clause-columns
returns-clause-columns c before =
    let spans = c.args.spans.now.items in
    let kept : c.match-last_mut.spans.items ≡ spans =
    elim c.match-last_mut.branch [
      | in-Some+else-last-column w ↦
          let back = ap (set spans (c.args.spans.now.len - 1)) w.in-Some.ensures.value
          ∙ set-get_or spans (c.args.spans.now.len - 1) w.in-Some.last.now in
          ap (λ s. s.items) w.spans-is
          ∙ elim w.else-last-column.branch [
            | else-last-column-via-then-last-column+else-eq v ↦ ap (λ s. s.items) v.spans-is ∙ back
            | else-last-column-via-else-last-column v ↦ ap (λ s. s.items) v.spans-is ∙ back
          ]
      | in_default w ↦ ap (λ s. s.items) w.spans-is
    ] in
    subst (λ z. IsExtended spans z c.args.column c.args.end c.args.square)
    (sym (c.in_ok-push.ensures.items ∙ ap (λ z. z ++ record { start = c.args.column; end = c.args.end; square = c.args.square } ∷ []) kept))
    (extended-push c.args.column c.args.end c.args.square c.requires spans before)
