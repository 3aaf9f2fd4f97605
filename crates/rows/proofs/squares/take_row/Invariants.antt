use denote.Shadow.{shadow}
use denote.Text.{Utf8}
use Rattle.std.proofs.Common.{All}
use Rattle.rows.proofs.squares.take_row.Given as goal

-- the mark is a text, and the store knows each square of the list
abbrev pub invariant-loop-step : goal.invariant-loop-step
invariant-loop-step g l = shadow (Utf8 l.mark) × All (g.S.Squares.knows l.squares) l.ids.items
