use Rattle.std.proofs.Common.{◌≡◌, ◌≤◌, ◌++◌, length}
use Rattle.life_base.specs.Lines.{whole_lines}
use Rattle.life_reader.specs.Space.{AddsLines}
use Rattle.life_reader.specs.Prefixes.{IsFilePrefixIn}
use Rattle.life_pattern.specs.Store.{Keeps}
use Rattle.life_reader.specs.Taking.{bytes_of}
use Rattle.life_reader.proofs.prefix.FilePrefix.take_piece.Given as goal

abbrev pub invariant-loop-end : goal.invariant-loop-end
invariant-loop-end l = record {
  prefix : IsFilePrefixIn l.store l.self;
  bytes : bytes_of l.self.pieces.lines ++ l.rest ≡ bytes_of l.initial.self.pieces.lines ++ l.initial.rest;
  shorter : length l.rest ≤ length l.initial.rest;
  keeps : Keeps l.initial.store l.store;
  adds : AddsLines (whole_lines (bytes_of l.initial.self.pieces.lines ++ l.initial.rest)) l.initial.store l.store;
}

abbrev pub decreases-loop-end : goal.decreases-loop-end
decreases-loop-end l = length l.rest
