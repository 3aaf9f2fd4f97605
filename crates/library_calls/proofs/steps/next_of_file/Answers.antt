use Rattle.std.proofs.Common.{◌∙◌}
use Rattle.std.proofs.lemmas.Result.{IfOk-weaker, IfErr-weaker, err_from_is_err_and}
use Rattle.life_base.specs.declared.cell.TheConstants.{MAX_LEVEL}
use Rattle.life_pattern.specs.Store.{IsRead, RefusesIn}
use Rattle.library_calls.specs.Texts.{SomeToRead}
use Rattle.library_calls.proofs.Answering.{and-lacks}
use Rattle.library_calls.proofs.NeedFacts.{file-fits, file-low, from-empty, if-err, if-ok, needed-only, on-ok, where-ok}
use Rattle.library_calls.proofs.TextFacts.{next-by-fault, unread-by}
use Rattle.library_calls.proofs.steps.next_of_file.Goals as goal

pub next_by_table-text-requires : goal.next_by_table-text-requires
next_by_table-text-requires c = (
  c.args.bytes.now,
  if-ok (IsRead MAX_LEVEL c.args.bytes.now c.read-found.new.store) c.read-found.result c.in_ok-pattern.pattern c.in_ok-pattern.was
      c.read-found.ensures.pattern,
)

pub returns-in_err-pattern-clause-fault : goal.returns-in_err-pattern-clause-fault
returns-in_err-pattern-clause-fault c =
    let p = err_from_is_err_and c.from_residual.result c.from_residual.ensures.1 in
    let store = c.read-found.new.store in
    let fault = c.in_err-pattern.field-0.0 in
    rw (p.1, p.2) (unread-by c.args.table.now c.args.options.limit c.args.bytes.now store fault
    (c.read-found.ensures.reads.keeps.limit ∙ c.new_store-store.ensures.most)
    (if-err (RefusesIn MAX_LEVEL c.args.bytes.now store) c.read-found.result fault c.in_err-pattern.was c.read-found.ensures.fault)
    (file-low c.args.bytes.now c.new_store-store.result store c.read-found.result fault c.in_err-pattern.was c.new_store-store.ensures.empty
    (record { distinct = c.len.ensures.distinct; live = λ t there. (c.len.ensures.only t there).0 }) c.read-found.ensures.reads))

pub returns-clause-text : goal.returns-clause-text
returns-clause-text c =
    IfOk-weaker c.next_by_table-text.result _ _ (λ text is. is c.args.bytes.now
    (if-ok (IsRead MAX_LEVEL c.args.bytes.now c.read-found.new.store) c.read-found.result c.in_ok-pattern.pattern c.in_ok-pattern.was
    c.read-found.ensures.pattern)) c.next_by_table-text.ensures.stepped

pub returns-clause-fits : goal.returns-clause-fits
returns-clause-fits c =
    where-ok c.next_by_table-text.result (file-fits c.args.bytes.now c.args.options.limit c.read-found.new.store c.in_ok-pattern.pattern
    (if-ok (IsRead MAX_LEVEL c.args.bytes.now c.read-found.new.store) c.read-found.result c.in_ok-pattern.pattern c.in_ok-pattern.was
    c.read-found.ensures.pattern)
    (on-ok c.read-found.result c.in_ok-pattern.pattern c.in_ok-pattern.was c.read-found.ensures.reads.all)
    (c.read-found.ensures.reads.keeps.limit ∙ c.new_store-store.ensures.most))

pub returns-clause-fault : goal.returns-clause-fault
returns-clause-fault c =
    let store = c.read-found.new.store in
    let new = c.next_by_table-text.new.store in
    IfErr-weaker c.next_by_table-text.result _ _ (λ fault why. next-by-fault c.args.table.now c.args.options.limit c.args.bytes.now store new
    c.in_ok-pattern.pattern fault (c.next_by_table-text.ensures.keeps.limit ∙ c.read-found.ensures.reads.keeps.limit ∙ c.new_store-store.ensures.most)
    (if-ok (IsRead MAX_LEVEL c.args.bytes.now store) c.read-found.result c.in_ok-pattern.pattern c.in_ok-pattern.was c.read-found.ensures.pattern)
    (needed-only c.args.bytes.now store
    (from-empty (SomeToRead c.args.bytes.now) c.new_store-store.result store c.new_store-store.ensures.empty c.read-found.ensures.reads.adds))
    (record { distinct = c.len-2.ensures.distinct; live = λ t there. (c.len-2.ensures.only t there).0 }) c.next_by_table-text.ensures.adds why.0 why.1)
    (and-lacks _ c.next_by_table-text.result c.next_by_table-text.ensures.refused c.next_by_table-text.ensures.needed)
