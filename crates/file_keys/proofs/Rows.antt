-- The definitions of the command `keys` at worked examples, by computation.
use Rattle.std.proofs.Common.{◌≡◌, List, [], ◌∷◌, ◌++◌, true, false, refl, codes}
use Rattle.hex.specs.Hex.{encode_lower}
use Rattle.std.specs.declared.io.ErrorKind.TheVariants as io
use Rattle.life_base.specs.Refusal.{fault_of}
use Rattle.life_base.specs.declared.kind.Kind.TheVariants.{Full}
use Rattle.file_keys.specs.KeyRuns.{errors_of, greatest_status, Listed, names_among, output_of, reports_of, Processed, Word}
use Rattle.file_keys.specs.Keys.{escaped_name, name_mark, pieces_of, end_byte_of_name, without_advice}
use Rattle.file_keys.specs.declared.keys.outcome.Outcome.TheVariants.{Key, Refused, Unopened}
use Rattle.file_keys.specs.declared.keys.style.Style.TheVariants.{Lines, Zero, Json}

-- names as coreutils 9 writes them
plain_name : escaped_name (codes "a b.rle") ≡ codes "a b.rle"
plain_name = refl

backslash : escaped_name (codes "a\\b") ≡ codes "a\\\\b"
backslash = refl

line_feed : escaped_name (codes "a\nb") ≡ codes "a\\nb"
line_feed = refl

carriage_return : escaped_name (codes "a\rb") ≡ codes "a\\rb"
carriage_return = refl

marked : name_mark (codes "a\rb") ≡ codes "\\"
marked = refl

unmarked : name_mark (codes "a b.rle") ≡ []
unmarked = refl

-- lists of names
lines : pieces_of (end_byte_of_name false) (codes "a\n\nb c\nd") ≡ codes "a" ∷ [] ∷ codes "b c" ∷ codes "d" ∷ []
lines = refl

ended : pieces_of (end_byte_of_name false) (codes "a\n") ≡ codes "a" ∷ []
ended = refl

zeros : pieces_of (end_byte_of_name true) (codes "a\nb" ++ (0 ∷ codes "c")) ≡ codes "a\nb" ∷ codes "c" ∷ []
zeros = refl

-- the files of a run: words first, then a list, without its empty names
names : names_among false (codes "a" ∷ codes "-" ∷ []) (codes "\nb\n\nc") ≡ Word (codes "a") ∷ Word (codes "-") ∷ Listed (codes "b") ∷ Listed (codes "c") ∷ []
names = refl

abbrev processed : List Processed
processed = record { name = Word (codes "a"); outcome = Key (1 ∷ 171 ∷ []) }
    ∷ record { name = Word (codes "b"); outcome = Refused (without_advice (fault_of Full)) }
    ∷ record { name = Listed (codes "c\nd"); outcome = Unopened io.NotFound } ∷ record { name = Listed (codes "e"); outcome = Key (16 ∷ []) } ∷ []

-- their lines in their order, and the greatest status, which isn't the last one
lines_out : output_of Lines processed ≡ (encode_lower (1 ∷ 171 ∷ []) ++ codes "  a\n") ++ ((encode_lower (16 ∷ []) ++ codes "  e\n") ++ [])
lines_out = refl

lines_err : reports_of Zero processed
    ≡ codes "b: Full: The command needs more than 2^31 different squares, or a form has more than 2^21.\nc\\nd: no such file\n"
lines_err = refl

-- with --json standard error gets none of them
silent : reports_of Json processed ≡ []
silent = refl

same_lines : errors_of processed ≡ reports_of Lines processed
same_lines = refl

greatest : greatest_status processed ≡ 4
greatest = refl
