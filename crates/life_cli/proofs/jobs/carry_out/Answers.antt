use Rattle.std.proofs.lemmas.Result.{err_from_is_err_and}
use Rattle.life_cli.specs.Jobs.{WritesPlacedText}
use Rattle.life_cli.proofs.WorkLemmas.{none_failed, not_so, ran_canonical, ran_done, ran_unmade, ran_unwritten}
use Rattle.life_cli.proofs.jobs.carry_out.Goals as goal

pub returns-then-writes_placed_text-clause-ran : goal.returns-then-writes_placed_text-clause-ran
returns-then-writes_placed_text-clause-ran g c =
    ran_canonical c.args.task.now _ _ _ c.run_canonical.result (c.writes_placed_text.ensures.0 c.if-writes_placed_text.true)
    (none_failed g.B.Source.failures c.args.second.now c.requires.second_reads) c.run_canonical.ensures.done c.run_canonical.ensures.canon
    c.run_canonical.ensures.refused c.run_canonical.ensures.read_reported c.run_canonical.ensures.write_reported

pub returns-in_err-made-clause-ran : goal.returns-in_err-made-clause-ran
returns-in_err-made-clause-ran g c =
    let p = err_from_is_err_and c.from_residual.result c.from_residual.ensures.1 in
    rw (p.1, p.2) (ran_unmade c.args.task.now _ _ _ _ c.in_err-made.ensures c.requires.writes c.requires.takes)

pub returns-in_err-write_whole-clause-ran : goal.returns-in_err-write_whole-clause-ran
returns-in_err-write_whole-clause-ran g c =
    let p = err_from_is_err_and c.from_residual-in_err-write_whole.result c.from_residual-in_err-write_whole.ensures.1 in
    let broken = rw c.text.ensures at c.in_err-write_whole.ensures.err in
    let other = not_so c.writes_placed_text.result (WritesPlacedText c.args.task.now) c.writes_placed_text.ensures c.if-writes_placed_text.false in
    rw (p.1, p.2) (ran_unwritten c.args.task.now _ _ _ c.in_ok-made.made _ other c.in_ok-made.ensures broken)

pub returns-clause-ran : goal.returns-clause-ran
returns-clause-ran g c =
    let written = rw c.text.ensures at c.in_ok-write_whole.ensures.ok in
    rw c.status.ensures (ran_done c.args.task.now _ _ _ c.in_ok-made.made c.in_ok-made.ensures written c.in_ok-write_whole.ensures.reported)
