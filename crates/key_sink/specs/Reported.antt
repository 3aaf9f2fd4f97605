-- What was reported to a sink that hashes.
use Rattle.std.specs.Prelude.{ℕ, List}
use Rattle.key_sink.specs.declared.sink.KeySink.{KeySink}
use Rattle.key_sink.specs.Pieces.{joined_pieces}

-- all bytes that were written to it
abbrev pub reported_by : KeySink → List ℕ
reported_by sink = joined_pieces sink.reported.lines
