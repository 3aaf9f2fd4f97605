use Rattle.std.proofs.Common.{◌≡◌, Ok, ap, ◌∙◌, subst}
use Rattle.life_base.specs.declared.cell.TheConstants.{MAX_LEVEL}
use Rattle.life_base.specs.Text.{is_too_long}
use Rattle.life_rle.specs.declared.line.Opening.TheVariants.{Comment, PositionLine, Header}
use Rattle.life_rle.specs.Grammar.{opening_of}
use Rattle.life_rle.proofs.Advance.{IsInPlane, adv-comment, adv-position, adv-header}
use Rattle.life_rle.proofs.LineKinds.{IsTameOpening, opening-tame, answered}
use Rattle.life_rle.proofs.lines.before_header.Goals as goal

pub returns-in-Comment-clause-advance : goal.returns-in-Comment-clause-advance
returns-in-Comment-clause-advance c =
    let line = c.args.line.now in
    let e : opening_of MAX_LEVEL line ≡ Ok Comment = answered _ _ _ c.in_ok-opening_of.was c.opening_of.ensures ∙ ap Ok c.in-Comment.is in
    adv-comment MAX_LEVEL c.args.position c.args.cursor line e

pub returns-in-PositionLine-clause-advance : goal.returns-in-PositionLine-clause-advance
returns-in-PositionLine-clause-advance c =
    let line = c.args.line.now in
    let p = c.in-PositionLine.found in
    let e : opening_of MAX_LEVEL line ≡ Ok (PositionLine p) = answered _ _ _ c.in_ok-opening_of.was c.opening_of.ensures ∙ ap Ok c.in-PositionLine.is in
    let plane : IsInPlane MAX_LEVEL p = subst (IsTameOpening MAX_LEVEL (is_too_long line)) e (opening-tame MAX_LEVEL line) in
    rw c.start_of.ensures (adv-position MAX_LEVEL c.args.position c.args.cursor line p e plane)

pub returns-in-Header-clause-advance : goal.returns-in-Header-clause-advance
returns-in-Header-clause-advance c =
    let line = c.args.line.now in
    let e : opening_of MAX_LEVEL line ≡ Ok (Header c.in-Header.rule) = answered _ _ _ c.in_ok-opening_of.was c.opening_of.ensures ∙ ap Ok c.in-Header.is in
    adv-header MAX_LEVEL c.args.position c.args.cursor line c.in-Header.rule e
