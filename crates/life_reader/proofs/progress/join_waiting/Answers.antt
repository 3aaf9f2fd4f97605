use Rattle.std.proofs.Common.{◌≡◌, List, rules, subst}
use Rattle.life_base.proofs.Results.{error_is}
use Rattle.life_base.specs.Tree.{Tree}
use Rattle.life_quad.specs.Moves.{quads_of}
use Rattle.life_quad.specs.Refused.{SomeOf}
use Rattle.life_quad.specs.declared.id.Id.{Id}
use Rattle.life_quad.specs.declared.moves.Quarters.{Quarters}
use Rattle.life_quad.proofs.KeepingLemmas.{adds-as}
use Rattle.life_quad.proofs.GrowsLemmas.{grows-still}
use Rattle.life_reader.proofs.progress.join_waiting.Goals as goal

-- a square of the quarters that were joined is one of those that waited
some-waiting : (content : Id → Tree) {joined waiting : List Quarters} → joined ≡ waiting → (P : Tree → Type 0) → SomeOf P (quads_of content joined)
    → SomeOf P (quads_of content waiting)
some-waiting content e P = subst (λ (qs : List Quarters). SomeOf P (quads_of content qs)) e

pub returns-in_err-join_all-clause-grows : goal.returns-in_err-join_all-clause-grows
returns-in_err-join_all-clause-grows g c =
    let e = c.in_err-join_all.ensures in
    let more = some-waiting (g.S.Squares.content c.args.squares.now) c.as_slice.ensures.value in
    rw (error_is c.from_residual.result c.from_residual.ensures.1)
    (record { keeps = e.keeps; refusals = e.refusals; needed = λ _. more _ e.needed; adds = adds-as _ e.adds more })

pub returns-in_err-extend_from_slice-clause-grows : goal.returns-in_err-extend_from_slice-clause-grows
returns-in_err-extend_from_slice-clause-grows g c =
    let j = c.in_ok-join_all.ensures in
    let more = some-waiting (g.S.Squares.content c.args.squares.now) c.as_slice.ensures.value in
    grows-still _ j.keeps (adds-as _ j.adds more) (search rules)

pub returns-clause-grows : goal.returns-clause-grows
returns-clause-grows g c =
    let j = c.in_ok-join_all.ensures in
    let more = some-waiting (g.S.Squares.content c.args.squares.now) c.as_slice.ensures.value in
    record { keeps = j.keeps; refusals = tt; needed = λ e. absurd (cc); adds = adds-as _ j.adds more }
