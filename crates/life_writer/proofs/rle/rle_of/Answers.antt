use Rattle.std.proofs.Common.{◌≡◌, ◌^◌, true, ap, inl, inr}
use Rattle.std.proofs.lemmas.Result.{IfOk-weaker}
use Rattle.life_base.proofs.Results.{error_is}
use Rattle.life_base.proofs.ReadBack.{rules_read_back}
use Rattle.life_base.specs.Refusal.{fault_of}
use Rattle.life_base.specs.declared.cell.TheConstants.{MAX_LEVEL}
use Rattle.life_rle.proofs.StatesRead.{states-read}
use Rattle.life_rle.proofs.TextBack.{text-back}
use Rattle.life_rle.specs.Sorted.{are_sorted_cells}
use Rattle.life_rle.specs.Written.{rle_text}
use Rattle.life_pattern.proofs.ReadFacts.{root-deep}
use Rattle.life_writer.proofs.TextFacts.{cells-sorted, is-rle, rle_texts_keep_patterns, more-cells}
use Rattle.life_writer.proofs.rle.rle_of.Goals as goal

pub cells-requires-clause-high : goal.cells-requires-clause-high
cells-requires-clause-high c = root-deep c.requires.0 _ _ c.requires.1

pub write_rle-requires : goal.write_rle-requires
write_rle-requires c =
    let e : are_sorted_cells MAX_LEVEL c.args.pattern.now.rule c.in_ok-list.list.items ≡ true = cells-sorted c.requires.0 _ _ c.requires.1
    c.in_ok-list.list.items c.in_ok-list.ensures.cells in
    cc

pub returns-clause-text : goal.returns-clause-text
returns-clause-text c =
    IfOk-weaker c.write_rle.result _ _
    (λ text e bytes r.
    let f : text.items ≡ rle_text c.args.pattern.now.rule c.args.pattern.now.generation c.in_ok-list.list.items = cc in
    is-rle bytes _ _ r c.in_ok-list.list.items c.in_ok-list.ensures.cells (2 ^ 20) c.in_ok-list.ensures.few text.items f)
    c.write_rle.ensures.text

pub returns-clause-same : goal.returns-clause-same
returns-clause-same c =
    IfOk-weaker c.write_rle.result _ _
    (λ text e bytes r.
    let f : text.items ≡ rle_text c.args.pattern.now.rule c.args.pattern.now.generation c.in_ok-list.list.items = cc in
    rle_texts_keep_patterns (text-back states-read rules_read_back) (2 ^ 20) bytes text.items
    (is-rle bytes _ _ r c.in_ok-list.list.items c.in_ok-list.ensures.cells (2 ^ 20) c.in_ok-list.ensures.few text.items f))
    c.write_rle.ensures.text

pub returns-in_err-list-clause-fault : goal.returns-in_err-list-clause-fault
returns-in_err-list-clause-fault c =
    rw (error_is c.from_residual.result c.from_residual.ensures.1) (elim c.in_err-list.ensures.refusals [
      | inl e ↦ inr (ap fault_of e, λ bytes r. more-cells bytes _ _ r (2 ^ 20) (c.in_err-list.ensures.many e))
      | inr e ↦ inl (ap fault_of e)
    ])
