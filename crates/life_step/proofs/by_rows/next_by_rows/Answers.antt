use Rattle.std.proofs.Common.{subst}
use Rattle.std.proofs.lemmas.Result.{IfOk-weaker}
use Rattle.life_base.specs.declared.cell.TheConstants.{MAX_LEVEL}
use Rattle.life_base.specs.declared.rule.Rule.{Rule}
use Rattle.life_pattern.specs.Store.{Keeps, content}
use Rattle.life_pattern.specs.Universe.{IsSame, square_universe}
use Rattle.life_quad.proofs.KeepingLemmas.{adds-as, adds-then, keeps-then}
use Rattle.life_quad.specs.Keeping.{AddsOnly}
use Rattle.life_quad.specs.Store.{stored_squares}
use Rattle.life_step.specs.Stepped.{IsTextWith}
use Rattle.life_step.specs.ByRows.{HasHeaderRule, SomeOfFileByRows}
use Rattle.life_step.proofs.RowFacts.{some-of-ok, stepped-by-rows, trimmed-by_rows}
use Rattle.life_step.proofs.by_rows.next_by_rows.Goals as goal

pub returns-clause-text : goal.returns-clause-text
returns-clause-text c =
    let store = c.next_square.new.store in
    let square = c.in_ok-generation.square in
    let after = c.in_ok-after.after in
    some-of-ok _ c.ok.result c.text_of_square.result c.ok.ensures.value
    (IfOk-weaker c.text_of_square.result _ _
    (λ text h.
    stepped-by-rows c.args.bytes.now c.in-Life.life store c.in_ok-generation.generation after square text.items c.in_ok-generation.ensures.next
    c.in_ok-after.ensures.1 c.in_ok-after.ensures.0
    (subst (λ (rule : Rule). IsTextWith MAX_LEVEL (IsSame (square_universe rule after (content store square))) text.items) c.in-Life.is h))
    c.text_of_square.ensures.text)

pub returns-clause-keeps : goal.returns-clause-keeps
returns-clause-keeps c =
    subst (λ store. Keeps store c.text_of_square.new.store) c.reserve.ensures (keeps-then c.next_square.ensures.keeps c.text_of_square.ensures.keeps)

pub returns-in_err-generation-clause-adds : goal.returns-in_err-generation-clause-adds
returns-in_err-generation-clause-adds c =
    let header = subst (HasHeaderRule c.args.bytes.now) c.in-Life.is c.in_ok-rule.ensures in
    subst (λ store. AddsOnly stored_squares (λ P. SomeOfFileByRows P c.args.bytes.now) store c.next_square.new.store) c.reserve.ensures
    (adds-as _ c.next_square.ensures.adds (λ P s. (c.in-Life.life, header, s)))

pub returns-in_err-after-clause-adds : goal.returns-in_err-after-clause-adds
returns-in_err-after-clause-adds c =
    let header = subst (HasHeaderRule c.args.bytes.now) c.in-Life.is c.in_ok-rule.ensures in
    subst (λ store. AddsOnly stored_squares (λ P. SomeOfFileByRows P c.args.bytes.now) store c.next_square.new.store) c.reserve.ensures
    (adds-as _ c.next_square.ensures.adds (λ P s. (c.in-Life.life, header, s)))

pub returns-clause-adds : goal.returns-clause-adds
returns-clause-adds c =
    let header = subst (HasHeaderRule c.args.bytes.now) c.in-Life.is c.in_ok-rule.ensures in
    let next = c.in_ok-generation.ensures.next in
    subst (λ store. AddsOnly stored_squares (λ P. SomeOfFileByRows P c.args.bytes.now) store c.text_of_square.new.store) c.reserve.ensures
    (adds-then _ c.next_square.ensures.adds c.text_of_square.ensures.adds (λ P s. (c.in-Life.life, header, s))
    (λ P s. (
      c.in-Life.life,
      header,
      trimmed-by_rows c.args.bytes.now c.in-Life.life c.next_square.new.store c.in_ok-generation.generation c.in_ok-generation.square c.in_ok-rule.rule
          c.in-Life.is next P s,
    )))
