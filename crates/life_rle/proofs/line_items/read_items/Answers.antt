use Rattle.std.proofs.Common.{◌≡◌, ◌⊎◌, Some, sym, subst, inl, inr, drop, ℤ, w64, to_z, of_z, to_z-of_z, FitsSigned, rules}
use Rattle.life_base.proofs.Results.{error_is}
use Rattle.life_base.specs.declared.kind.Kind.{Kind}
use Rattle.life_base.specs.declared.kind.Kind.TheVariants.{Memory}
use Rattle.life_base.specs.declared.cell.TheConstants.{MAX_LEVEL}
use Rattle.life_rle.specs.declared.cursor.Cursor.{Cursor}
use Rattle.life_rle.specs.Cursor.{row_limit}
use Rattle.life_rle.specs.Pattern.{item_fault}
use Rattle.life_rle.specs.Reader.{ItemsBreak, no_item, bad_item}
use Rattle.life_rle.proofs.ReadItems.{spelled-as, reads-as, found-small, reads_more}
use Rattle.life_rle.proofs.ShortItems.{reads-none}
use Rattle.life_rle.proofs.line_items.read_items.Goals as goal

-- a number of the type, as it is held
held : (n m : ℤ) → FitsSigned w64 n → n ≡ m → to_z w64 (of_z w64 n) ≡ m
held n m fits e = simp to_z-of_z e

-- the limit of a row that was passed as it is held
limit-is : (limit y : ℤ) → FitsSigned w64 y → limit ≡ row_limit MAX_LEVEL (to_z w64 (of_z w64 y)) → limit ≡ row_limit MAX_LEVEL y
limit-is limit y f e = simp to_z-of_z at e

pub returns-in-Broken-clause-fault : goal.returns-in-Broken-clause-fault
returns-in-Broken-clause-fault c =
    let h = c.loop-at.invariant.read in
    inr (no_item h.items (spelled-as MAX_LEVEL c.args.line.now h.items _ _ h.read.spelled c.in-Broken.ensures) h.read.sound)

pub take_item-requires-clause-count : goal.take_item-requires-clause-count
take_item-requires-clause-count c =
    let line = c.args.line.now in
    found-small MAX_LEVEL (drop c.loop-at.at line) (drop c.in-Spelled.behind line) c.in-Spelled.item (sym c.in-Spelled.ensures.2)

pub returns-in_err-cursor-in-Spelled-clause-fault : goal.returns-in_err-cursor-in-Spelled-clause-fault
returns-in_err-cursor-in-Spelled-clause-fault c =
    let line = c.args.line.now in
    let rule = c.args.rule.now in
    let h = c.loop-at.invariant.read in
    let item = c.in-Spelled.item in
    let kind : Kind = c.in_err-cursor-in-Spelled.field-0.0 in
    let now : Cursor = c.loop-at.cursor in
    let reported : (kind ≡ Memory) ⊎ (item_fault MAX_LEVEL rule now.y now.x item ≡ Some kind) = c.in_err-cursor-in-Spelled.ensures.1 in
    let answer : (kind ≡ Memory) ⊎ ItemsBreak MAX_LEVEL rule c.args.from line kind = elim reported [
      | inl m ↦ inl m
      | inr f ↦ inr (bad_item h.items item (drop c.in-Spelled.behind line) (spelled-as MAX_LEVEL line h.items _ _ h.read.spelled c.in-Spelled.ensures.2)
          h.read.sound
          (subst (λ (c : Cursor). item_fault MAX_LEVEL rule c.y c.x item ≡ Some kind) h.read.cursor f))
    ] in
    rw (error_is c.from_residual-in_err-cursor-in-Spelled.result c.from_residual-in_err-cursor-in-Spelled.ensures.1) answer

pub loop-at-preserved : goal.loop-at-preserved
loop-at-preserved c =
    let line = c.args.line.now in
    let rule = c.args.rule.now in
    let said = c.in_ok-cursor-in-Spelled.ensures in
    record {
      inside = c.in-Spelled.ensures.1;
      limit = held _ _ (search rules) (c.limit_behind-limit.ensures c.loop-at.cursor c.loop-at.invariant.limit said.cursor);
      read =
          reads_more MAX_LEVEL rule c.args.from c.loop-at.cursor line (drop c.in-Spelled.behind line) c.args.runs.now.items c.loop-at.runs.items
          c.take_item.new.runs.items c.in-Spelled.item c.in_ok-cursor-in-Spelled.cursor
          (reads-as MAX_LEVEL rule c.args.from line _ _ c.loop-at.cursor c.args.runs.now.items c.loop-at.runs.items c.loop-at.invariant.read
          c.in-Spelled.ensures.2) said.sound said.cursor said.near said.runs;
    }

pub loop-at-init : goal.loop-at-init
loop-at-init c =
    let first = c.take_first_items-at in
    record {
      inside = first.ensures.inside;
      limit = held c.row_limit-limit.result (row_limit MAX_LEVEL first.result.cursor.y) (search rules)
          (limit-is c.row_limit-limit.result first.result.cursor.y (search rules) c.row_limit-limit.ensures);
      read = first.ensures.read c.args.from c.args.runs.now.items
          (rw c.reserve_runs.ensures.runs (reads-none c.args.rule.now c.args.from c.args.line.now c.args.runs.now.items c.requires.near));
    }
