-- What is said of a file that is accepted, and probably meant otherwise than it is read. The project's own.
use Rattle.std.specs.Prelude.{ℕ, List, ◌++◌, codes}
use Rattle.file_hints.specs.declared.warnings.Warning.{Warning}
use Rattle.file_hints.specs.declared.warnings.Warning.TheVariants as warnings

-- the sentence of a warning
abbrev pub warning_sentence : Warning → List ℕ
warning_sentence warnings.Return =
    codes "line 1 has a carriage return inside it: the file seems to have lost its line ends, so that most of it is "
    ++ codes "read as a comment"
warning_sentence warnings.NoSquares =
    codes "the file has no line of squares, so it is the blank pattern; a macrocell file that lost its line ends "
    ++ codes "looks like this"
warning_sentence warnings.Comment =
    codes "a line such as `#RB36/S23` or `#G7`, without a space, is a comment here, and a rule or a generation in "
    ++ codes "Golly"
warning_sentence warnings.NoCells =
    codes "the header gives the pattern a size, but no cell is alive, so it is the blank pattern; a file that lost its "
    ++ codes "rows looks like this"
warning_sentence warnings.Cut =
    codes "the file has no `!`, and fewer rows than its header says; a file that was cut off before its end looks "
    ++ codes "like this"
warning_sentence warnings.Joined =
    codes "another header follows the `!`, and all that follows the `!` is ignored; a file that several patterns were "
    ++ codes "joined into looks like this"
