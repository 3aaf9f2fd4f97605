use Rattle.rows.proofs.fill.add.Goals as goal

pub add_run-requires-clause-next : goal.add_run-requires-clause-next
add_run-requires-clause-next g c = c.requires.next _ _ (c.is_after.ensures c.if-not-is_after.false)
