use Rattle.std.proofs.Common.{◌+◌, ◌++◌, ◌∷◌, [], drop, get_or, arith, refl, sym, ◌∙◌, ap, append-nil, append_assoc}
use Rattle.std.proofs.lemmas.List.{at_drop_more, at_drop_all}
use Rattle.life_quad.specs.declared.id.Id.{Id}
use Rattle.life_strip.specs.declared.spans.Span.{Span}
use Rattle.life_strip.specs.Strip.{with_squares}
use Rattle.life_strip.proofs.spans.put.Goals as goal

-- in a place beyond all of them
abbrev no_id : Id
no_id = record { 0 = 0 }

abbrev no_span : Span
no_span = record { start = 0; end = 0; square = no_id }

pub loop-i-init : goal.loop-i-init
loop-i-init c = refl

pub loop-i-preserved : goal.loop-i-preserved
loop-i-preserved c =
    let i = c.loop-i.i in
    let pieces = c.args.pieces.now in
    let ids = c.args.squares.now in
    let items = c.loop-i.spans.items in
    let lt = c.loop-i-test.true in
    let s : Span = record { start = (get_or pieces i no_span).start; end = (get_or pieces i no_span).end; square = get_or ids i no_id } in
    let left = with_squares (drop (i + 1) pieces) (drop (i + 1) ids) in
    let first = at_drop_more (λ l. with_squares l (drop i ids)) pieces i no_span lt
    ∙ at_drop_more (λ l. with_squares (get_or pieces i no_span ∷ drop (i + 1) pieces) l) ids i no_id (omega (arith, lt, c.requires)) in
    ap (λ z. z ++ left) c.in_ok-push.ensures.items ∙ append_assoc items (s ∷ []) left ∙ ap (λ z. items ++ z) (sym first) ∙ c.loop-i.invariant

pub returns-clause-put : goal.returns-clause-put
returns-clause-put c =
    let i = c.loop-i.i in
    let pieces = c.args.pieces.now in
    let ids = c.args.squares.now in
    let items = c.loop-i.spans.items in
    let none = at_drop_all (λ l. with_squares l (drop i ids)) pieces i (omega (arith, c.loop-i-test.false)) in
    sym (append-nil items) ∙ ap (λ z. items ++ z) (sym none) ∙ c.loop-i.invariant
