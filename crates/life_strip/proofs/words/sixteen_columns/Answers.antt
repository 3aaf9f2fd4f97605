use Rattle.std.proofs.Common.{◌*◌, ◌-◌, ◌/◌, ◌%◌, ◌^◌, ◌∙◌, arith}
use Rattle.life_strip.proofs.WordLemmas.{part-bits, rows-bits}
use Rattle.life_strip.proofs.words.sixteen_columns.Goals as goal

pub returns-clause-first : goal.returns-clause-first
returns-clause-first c k lt =
    let s = 2 ^ (48 - 16 * c.args.part) in
    let u = c.args.upper in
    let l = c.args.lower in
    (rows-bits (u.north / s % 65536) (u.south / s % 65536) (l.north / s % 65536) (l.south / s % 65536) (omega arith) (omega arith) (omega arith) k lt).0
    ∙ part-bits u.north c.args.part k c.requires lt

pub returns-clause-second : goal.returns-clause-second
returns-clause-second c k lt =
    let s = 2 ^ (48 - 16 * c.args.part) in
    let u = c.args.upper in
    let l = c.args.lower in
    (rows-bits (u.north / s % 65536) (u.south / s % 65536) (l.north / s % 65536) (l.south / s % 65536) (omega arith) (omega arith) (omega arith) k lt).1
    ∙ part-bits u.south c.args.part k c.requires lt

pub returns-clause-third : goal.returns-clause-third
returns-clause-third c k lt =
    let s = 2 ^ (48 - 16 * c.args.part) in
    let u = c.args.upper in
    let l = c.args.lower in
    (rows-bits (u.north / s % 65536) (u.south / s % 65536) (l.north / s % 65536) (l.south / s % 65536) (omega arith) (omega arith) (omega arith) k lt).2
    ∙ part-bits l.north c.args.part k c.requires lt

pub returns-clause-fourth : goal.returns-clause-fourth
returns-clause-fourth c k lt =
    let s = 2 ^ (48 - 16 * c.args.part) in
    let u = c.args.upper in
    let l = c.args.lower in
    (rows-bits (u.north / s % 65536) (u.south / s % 65536) (l.north / s % 65536) (l.south / s % 65536) (omega arith) (omega arith) (omega arith) k lt).3
    ∙ part-bits l.south c.args.part k c.requires lt
