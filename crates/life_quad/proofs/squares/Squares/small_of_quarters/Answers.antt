-- A square of four that are made one after the other: what the five calls make.
use Rattle.std.proofs.Common.{inl}
use Rattle.life_quad.specs.Store.{two}
use Rattle.life_quad.proofs.FourLemmas.{four-made, joined-four, refused-ne, refused-nw, refused-se, refused-sw}
use Rattle.life_quad.proofs.squares.Squares.small_of_quarters.Goals as goal

pub returns-in_err-nw : goal.returns-in_err-nw
returns-in_err-nw g c = refused-nw two (λ t P. P t) (λ n P p. inl p) c.from_residual.result c.from_residual.ensures.1 c.in_err-nw.ensures

pub returns-in_err-ne : goal.returns-in_err-ne
returns-in_err-ne g c =
    let reported = c.from_residual-in_err-ne in
    refused-ne two (λ t P. P t) (λ n P p. inl p) c.in_ok-nw.ensures reported.result reported.ensures.1 c.in_err-ne.ensures

pub returns-in_err-sw : goal.returns-in_err-sw
returns-in_err-sw g c =
    let reported = c.from_residual-in_err-sw in
    refused-sw two (λ t P. P t) (λ n P p. inl p) c.in_ok-nw.ensures c.in_ok-ne.ensures reported.result reported.ensures.1 c.in_err-sw.ensures

pub returns-in_err-se : goal.returns-in_err-se
returns-in_err-se g c =
    let reported = c.from_residual-in_err-se in
    refused-se two (λ t P. P t) (λ n P p. inl p) c.in_ok-nw.ensures c.in_ok-ne.ensures c.in_ok-sw.ensures reported.result reported.ensures.1
    c.in_err-se.ensures

pub returns : goal.returns
returns g c =
    joined-four c.join.result
    (four-made two (λ t P. P t) (λ n P p. inl p) c.in_ok-nw.ensures c.in_ok-ne.ensures c.in_ok-sw.ensures c.in_ok-se.ensures)
    c.join.ensures
