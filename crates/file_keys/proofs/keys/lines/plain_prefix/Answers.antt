use Rattle.std.proofs.Common.{length, arith, ◌∙◌}
use Rattle.file_keys.proofs.KeyLines.{never, none_special, plain_run}
use Rattle.file_keys.proofs.keys.lines.plain_prefix.Goals as goal

pub returns-in-Some-clause-plain : goal.returns-in-Some-clause-plain
returns-in-Some-clause-plain c =
    let found = rw c.in-Some.is at c.memchr3.ensures in
    plain_run c.args.name.now c.in-Some.at (omega (arith, found.0.high)) found.0.before

pub returns-in-None-clause-plain : goal.returns-in-None-clause-plain
returns-in-None-clause-plain c =
    let found = rw c.in-None.is at c.memchr3.ensures in
    plain_run c.args.name.now (length c.args.name.now) (omega arith) found

pub returns-in-None-clause-any : goal.returns-in-None-clause-any
returns-in-None-clause-any c =
    let found = rw c.in-None.is at c.memchr3.ensures in
    none_special c.args.name.now found ∙ never (length c.args.name.now)
