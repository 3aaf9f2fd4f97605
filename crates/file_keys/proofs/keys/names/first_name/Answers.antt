use Rattle.std.proofs.Common.{◌∷◌, ◌+◌, ◌∙◌, ap, sym, take, drop, add-one}
use Rattle.life_base.proofs.LineEnds.{all_behind}
use Rattle.file_keys.specs.Keys.{pieces_of}
use Rattle.file_keys.proofs.KeyLines.{piece_alone, piece_at}
use Rattle.file_keys.proofs.keys.names.first_name.Goals as goal

pub returns-in-Some-clause-first : goal.returns-in-Some-clause-first
returns-in-Some-clause-first c =
    let found = rw c.in-Some.is at c.memchr.ensures in
    let list = c.args.list.now in
    piece_at c.args.end list c.in-Some.at found.0.high found.0.before found.1
    ∙ ap (λ next. take c.in-Some.at list ∷ pieces_of c.args.end (drop next list)) (sym (add-one c.in-Some.at))
    ∙ ap (λ rest. take c.in-Some.at list ∷ pieces_of c.args.end rest) (sym (all_behind list (c.in-Some.at + 1)))

pub returns-in-None-clause-first : goal.returns-in-None-clause-first
returns-in-None-clause-first c =
    let found = rw c.in-None.is at c.memchr.ensures in
    piece_alone c.args.end c.args.list.now c.requires found
