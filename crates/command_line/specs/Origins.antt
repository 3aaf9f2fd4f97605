-- Which file a word names. The project's own.
use Rattle.std.specs.Prelude.{◌≡◌, ◌≢◌, List, ℕ, Result, codes}
use Rattle.std.specs.declared.io.Error.{Error as IoError}
use Rattle.command_line.specs.declared.origins.Origin.{Origin}
use Rattle.command_line.specs.declared.origins.Origin.TheVariants.{Standard, File}

-- exactly the word `-` names standard input, and each other word the file of that name
abbrev pub IsOriginOf : List ℕ → Origin → Type 0
IsOriginOf word Standard = word ≡ codes "-"
IsOriginOf word (File name) = (name.now ≡ word) × (word ≢ codes "-")

-- a call of an opener, from one of its states to the next, gave this for what the word names
abbrev pub OpenerGives : {F X : Type 0} → (F → Origin → Result X IoError → F → Type 0) → List ℕ → F → Result X IoError → F → Type 0
OpenerGives step word before given after = (origin : Origin) × IsOriginOf word origin × step before origin given after
