use Rattle.file_hints.proofs.Watching.{states_step}
use Rattle.file_hints.proofs.rle_watch.Items.after_states.Goals as goal

pub returns : goal.returns
returns c = λ rest lines. rw (c.has_cell_after.ensures, c.count_after.ensures, c.is_begun_after.ensures)
    (states_step c.args.self.is_sized c.args.self.has_cell c.args.self.missing c.args.self.count c.args.self.is_begun c.args.text.now rest lines
    c.requires.mark c.requires.row)
