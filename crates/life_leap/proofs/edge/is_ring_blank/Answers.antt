use Rattle.std.proofs.Common.{◌≡◌, ◌+◌, ◌^◌, ◌&&◌, sym, ◌∙◌, subst}
use Rattle.life_pieces.specs.Pieces.{step_ahead, step_back}
use Rattle.life_leap.specs.Edge.{IsInRing, TestsBlank}
use Rattle.life_leap.proofs.EdgeTests.{ring-tests}
use Rattle.life_leap.proofs.edge.is_ring_blank.Goals as goal

pub returns : goal.returns
returns g c cells start h =
    let k = c.args.level in
    let first = step_back start (2 ^ k) in
    let last = step_ahead (step_ahead first (2 ^ (k + 1))) (2 ^ (k + 1)) in
    let n = c.are_north_halves_blank-north in
    let s = c.are_south_halves_blank-south in
    let w = c.are_west_halves_blank-west in
    let e = c.are_east_halves_blank-east in
    let all : c.both-3.result ≡ (n.result && (s.result && (w.result && e.result))) =
    c.both-3.ensures ∙ (λ i. n.result && (c.both-2.ensures ∙ (λ j. s.result && c.both.ensures j)) i) in
    subst (TestsBlank cells (IsInRing start (2 ^ (k + 2)) (2 ^ k))) (sym all)
    (ring-tests cells k start n.result s.result w.result e.result (n.ensures cells first first h.first) (s.ensures cells first last h.third)
    (w.ensures cells first first (record { first = h.first.first; second = h.second.first; third = h.third.first }))
    (e.ensures cells last first (record { first = h.first.third; second = h.second.third; third = h.third.third })))
