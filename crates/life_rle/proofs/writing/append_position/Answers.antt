use Rattle.std.proofs.Common.{◌∷◌, [], ◌++◌, codes}
use Rattle.std.specs.Fmt.{signed_decimal}
use Rattle.std.proofs.lemmas.Result.{on_ok_weaker}
use Rattle.life_rle.specs.Written.{generation_text}
use Rattle.life_rle.proofs.PutItems.{four-texts}
use Rattle.life_rle.proofs.writing.append_position.Goals as goal

pub returns-clause-ok : goal.returns-clause-ok
returns-clause-ok c =
    let at = c.args.position in
    on_ok_weaker c.append-2.result
    (four-texts (codes "#CXRLE Pos=") (signed_decimal at.x ++ 44 ∷ signed_decimal at.y) (generation_text at.generation) (10 ∷ []) c.args.out.now.items
    c.append.new.out.items c.append_corner.new.out.items c.append_generation.new.out.items c.append-2.new.out.items
    c.in_ok-append.ensures.ok c.in_ok-append_corner.ensures.ok c.in_ok-append_generation.ensures.ok)
    c.append-2.ensures.ok
