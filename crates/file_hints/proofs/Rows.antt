-- What some files are by their first bytes, and which warnings some files have.
use Rattle.std.proofs.Common.{◌≡◌, ◌∷◌, ◌++◌, [], true, false, None, Some, refl, codes}
use Rattle.file_hints.specs.Recognition.{foreign_of}
use Rattle.file_hints.specs.Damage.{warning_of}
use Rattle.file_hints.specs.declared.foreign.Foreign.TheVariants as files
use Rattle.file_hints.specs.declared.warnings.Warning.TheVariants as warnings

-- no bytes are an empty file, whatever was wanted
empty : foreign_of true [] ≡ Some files.Empty
empty = refl

packed : foreign_of false (31 ∷ 139 ∷ 8 ∷ 0 ∷ []) ≡ Some files.Gzip
packed = refl

drawn : foreign_of false (codes "GIF89a") ≡ Some files.Image
drawn = refl

nul : foreign_of false (codes "x = 3" ++ 0 ∷ []) ≡ Some files.Binary
nul = refl

page : foreign_of true (codes "\n <html>") ≡ Some files.WebPage
page = refl

old_life : foreign_of false (codes "#Life 1.05\n") ≡ Some files.Life105
old_life = refl

-- a rule table is one where a pattern was wanted, and nothing foreign where a table was
table : foreign_of false (codes "@RULE A\n") ≡ Some files.RuleTable
table = refl

table_wanted : foreign_of true (codes "@RULE A\n") ≡ None
table_wanted = refl

plain : foreign_of false (codes "!Name: x\n.O\n") ≡ Some files.Plaintext
plain = refl

plain_rows : foreign_of false (codes ".O.\n") ≡ Some files.Plaintext
plain_rows = refl

-- items without a header, after a comment and an empty line
headerless : foreign_of false (codes "#C\n\nbo$2o!\n") ≡ Some files.Headerless
headerless = refl

-- blank items are none, as they have no live cell
blank_items : foreign_of false (codes "3b!\n") ≡ None
blank_items = refl

returns : foreign_of false (codes "x = 1\ro!\r") ≡ Some files.Returns
returns = refl

pattern : foreign_of false (codes "x = 1, y = 1\no!\n") ≡ None
pattern = refl

-- ---- warnings of macrocell

lost_line_ends : warning_of (codes "[M2]\r#R B3/S23\r$*$\r") ≡ Some warnings.Return
lost_line_ends = refl

-- a carriage return at the end of a line is none inside it
two_line_ends : warning_of (codes "[M2]\r\n$*$\r\n") ≡ None
two_line_ends = refl

no_squares : warning_of (codes "[M2] (golly)\n#R B3/S23\n") ≡ Some warnings.NoSquares
no_squares = refl

rule_without_space : warning_of (codes "[M2]\n#RB36/S23\n$*$\n") ≡ Some warnings.Comment
rule_without_space = refl

old_rule_without_space : warning_of (codes "[M2]\n#R23/3\n$*$\n") ≡ Some warnings.Comment
old_rule_without_space = refl

generation_without_space : warning_of (codes "[M2]\n#G7\n$*$\n") ≡ Some warnings.Comment
generation_without_space = refl

-- a last line that hasn't ended is none
no_line_feed : warning_of (codes "[M2]\n#G7") ≡ Some warnings.NoSquares
no_line_feed = refl

-- with a space, after another letter, and after the first line of squares there is none
rule_with_space : warning_of (codes "[M2]\n#R B36/S23\n#G 7\n#Run\n#C\n$*$\n#G7\n") ≡ None
rule_with_space = refl

-- ---- warnings of RLE

no_cells : warning_of (codes "x = 3, y = 3, rule = B3/S23\n3b!\n") ≡ Some warnings.NoCells
no_cells = refl

no_cells_no_mark : warning_of (codes "#C\nx = 3, y = 3\n") ≡ Some warnings.NoCells
no_cells_no_mark = refl

-- a blank pattern of no size
no_size : warning_of (codes "x = 0, y = 0, rule = B3/S23\n!\n") ≡ None
no_size = refl

rows_lost : warning_of (codes "x = 3, y = 3\n3o$\n") ≡ Some warnings.Cut
rows_lost = refl

-- the last row counts when it has begun, and a count before `$` counts
rows_there : warning_of (codes "x = 3, y = 12\n3o10$bo$\n#C $\n2o\n") ≡ None
rows_there = refl

row_too_few : warning_of (codes "x = 3, y = 13\n3o10$bo$\n#C $\n2o\n") ≡ Some warnings.Cut
row_too_few = refl

-- with the `!` no row is lost
rows_given : warning_of (codes "x = 3, y = 3\n3o!\n") ≡ None
rows_given = refl

joined : warning_of (codes "x = 1, y = 1\no!\n x = 2, y = 1\n2o!\n") ≡ Some warnings.Joined
joined = refl

joined_in_line : warning_of (codes "x = 1, y = 1\no! x= 2, y = 1\n2o!\n") ≡ Some warnings.Joined
joined_in_line = refl

-- other text after the `!` is a comment
text_after_mark : warning_of (codes "x = 1, y = 1\no! xenon = 54\nbo$2bo$3o!\n") ≡ None
text_after_mark = refl

-- ---- neither

neither : warning_of (codes "[M3]\n#G7\n") ≡ None
neither = refl

nothing : warning_of [] ≡ None
nothing = refl
