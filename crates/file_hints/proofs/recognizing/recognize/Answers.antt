use Rattle.std.proofs.Common.{ap, ◌∙◌, arith}
use Rattle.file_hints.specs.Recognition.{foreign_of}
use Rattle.file_hints.proofs.FirstLines.{cut_length, whole}
use Rattle.file_hints.proofs.recognizing.recognize.Goals as goal

pub slice_bounds-recognize_head-end : goal.slice_bounds-recognize_head-end
slice_bounds-recognize_head-end c = cut_length 512 c.args.bytes.now (omega (arith, c.if-bytes-gt-HEAD.true))

pub returns-else-bytes-gt-HEAD : goal.returns-else-bytes-gt-HEAD
returns-else-bytes-gt-HEAD c =
    c.recognize_head-else-bytes-gt-HEAD.ensures
    ∙ ap (foreign_of c.args.is_table) (whole 512 c.args.bytes.now (omega (arith, c.if-bytes-gt-HEAD.false)))
