-- What a file is that is neither a pattern in a format of the program nor a rule table, by its first bytes. The rules of this file are the project's own.
use Rattle.std.specs.Prelude.{ℕ, Bool, true, false, not, ◌&&◌, ◌||◌, List, [], ◌∷◌, ◌++◌, drop, Option, None, Some, ◌==◌, if◌then◌else◌, codes}
use Rattle.std.specs.List.{list_all, list_any}
use Rattle.std.specs.Char.{is_ascii_whitespace}
use Rattle.std.specs.Str.{byte}
use Rattle.life_base.specs.Text.{begins_with, is_empty, lines_of}
use Rattle.file_hints.specs.declared.foreign.Foreign.{Foreign}
use Rattle.file_hints.specs.declared.foreign.Foreign.TheVariants as files

-- the text has this byte
abbrev pub has_byte : ℕ → List ℕ → Bool
has_byte wanted text = list_any (λ b. b == wanted) text

-- the text has no other bytes than these
abbrev pub has_only : List ℕ → List ℕ → Bool
has_only bytes text = list_all (λ b. has_byte b bytes) text

-- a file of this kind holds text, of which a line can be shown
abbrev pub holds_text : Foreign → Bool
holds_text files.Gzip = false
holds_text files.Bzip2 = false
holds_text files.Xz = false
holds_text files.Zip = false
holds_text files.Tar = false
holds_text files.Image = false
holds_text files.Binary = false
holds_text kind = true

-- the mark of a tar file is after 257 bytes
abbrev pub is_tar : List ℕ → Bool
is_tar head = begins_with (drop 257 head) (codes "ustar")

-- an image begins with the mark of PNG, of GIF or of JPEG
abbrev pub is_image : List ℕ → Bool
is_image head =
    begins_with head (137 ∷ codes "PNG") || begins_with head (codes "GIF8") || begins_with head (255 ∷ 216 ∷ 255 ∷ [])

-- what a file is that holds no text: the first of these that fits
abbrev pub binary_of : List ℕ → Option Foreign
binary_of head =
    if begins_with head (31 ∷ 139 ∷ []) then Some files.Gzip
    else (if begins_with head (codes "BZh") then Some files.Bzip2
    else (if begins_with head (253 ∷ 55 ∷ 122 ∷ 88 ∷ 90 ∷ 0 ∷ []) then Some files.Xz
    else (if begins_with head (codes "PK") then Some files.Zip
    else (if is_tar head then Some files.Tar
    else (if is_image head then Some files.Image
    else (if has_byte 0 head then Some files.Binary
    else None))))))

-- the text without the spaces, tabs, line ends and form feeds at its beginning
abbrev pub without_space : List ℕ → List ℕ
without_space [] = []
without_space (b ∷ text) = if is_ascii_whitespace b then without_space text else b ∷ text

-- what a file of text is that nobody could want here: the first of these that fits
abbrev pub text_kind_of : List ℕ → Option Foreign
text_kind_of head =
    if is_empty head then Some files.Empty
    else (if begins_with (without_space head) (codes "<") then Some files.WebPage
    else (if begins_with head (239 ∷ 187 ∷ 191 ∷ []) then Some files.ByteOrderMark
    else None))

-- the first of some texts; an empty one, if there is none
abbrev pub first_text : List (List ℕ) → List ℕ
first_text [] = []
first_text (text ∷ texts) = text

-- the lines after the first
abbrev pub lines_but_first : List (List ℕ) → List (List ℕ)
lines_but_first [] = []
lines_but_first (line ∷ lines) = lines

-- the line is one of plaintext: a comment, or a row
abbrev pub is_plaintext_line : List ℕ → Bool
is_plaintext_line line = begins_with line (codes "!") || (not (is_empty line) && has_only (codes ".O*\r") line)

-- the first line is one of plaintext
abbrev pub is_plaintext : List ℕ → Bool
is_plaintext head = is_plaintext_line (first_text (lines_of head))

-- the line is empty or a comment
abbrev pub has_no_item : List ℕ → Bool
has_no_item line = is_empty line || begins_with line (codes "#")

-- the first of the lines that is neither empty nor a comment; an empty one, if there is none
abbrev pub first_item : List (List ℕ) → List ℕ
first_item [] = []
first_item (line ∷ lines) = if has_no_item line then first_item lines else line

-- the first line of the file that is neither empty nor a comment
abbrev pub first_item_line : List ℕ → List ℕ
first_item_line head = first_item (lines_of head)

-- that line has items of RLE alone, and a live cell
abbrev pub is_headerless : List ℕ → Bool
is_headerless head = has_byte (byte "o") (first_item_line head) && has_only (codes "0123456789bo$!. \t\r" ++ 12 ∷ []) (first_item_line head)

-- what a file is where a pattern was wanted: the first of these that fits
abbrev pub other_pattern_of : List ℕ → Option Foreign
other_pattern_of head =
    if begins_with head (codes "#Life 1.05") then Some files.Life105
    else (if begins_with head (codes "#Life 1.06") then Some files.Life106
    else (if begins_with head (codes "#MCell") then Some files.MCell
    else (if begins_with head (codes "@RULE") then Some files.RuleTable
    else (if is_plaintext head then Some files.Plaintext
    else (if is_headerless head then Some files.Headerless
    else None)))))

-- the lines of the file end in carriage returns alone
abbrev pub returns_of : List ℕ → Option Foreign
returns_of head = if has_byte (byte "\r") head && not (has_byte (byte "\n") head) then Some files.Returns else None

-- the first of two answers, or else the second
abbrev pub or_else : {X : Type 0} → Option X → Option X → Option X
or_else None second = second
or_else (Some x) second = Some x

-- What a file is that begins with these bytes, if it is something that the program doesn't read, where a rule table was wanted or a pattern.
-- A rule table may be anything but a file without text, an empty one, a web page, and one with a byte order mark or without line feeds.
abbrev pub foreign_of : Bool → List ℕ → Option Foreign
foreign_of is_table head =
    or_else (binary_of head) (or_else (text_kind_of head) (or_else (if is_table then None else other_pattern_of head) (returns_of head)))
