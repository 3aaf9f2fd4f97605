-- What a file is that is no pattern in a format of the program, and what to do, in a sentence. The project's own.
use Rattle.std.specs.Prelude.{ℕ, List, codes}
use Rattle.file_hints.specs.declared.foreign.Foreign.{Foreign}
use Rattle.file_hints.specs.declared.foreign.Foreign.TheVariants as files

-- the sentence of such a file
abbrev pub advice_of : Foreign → List ℕ
advice_of files.Gzip = codes "This is a gzip file: unpack it first, with gunzip."
advice_of files.Bzip2 = codes "This is a bzip2 file: unpack it first, with bunzip2."
advice_of files.Xz = codes "This is an xz file: unpack it first, with unxz."
advice_of files.Zip = codes "This is a zip file: unpack it first, with unzip."
advice_of files.Tar = codes "This is a tar file: unpack it first, with tar -xf."
advice_of files.Image = codes "This is an image, not a pattern file."
advice_of files.Binary = codes "This isn't a text file, so it is no pattern file."
advice_of files.Empty = codes "The file is empty: save it or download it again."
advice_of files.WebPage = codes "This is a web page (HTML): download the file that it links to."
advice_of files.ByteOrderMark = codes "The file begins with a UTF-8 byte order mark: remove it, or save the file as UTF-8 without one."
advice_of files.Life105 = codes "This is a Life 1.05 file: open it in Golly, and save it as RLE or as a macrocell file."
advice_of files.Life106 = codes "This is a Life 1.06 file: open it in Golly, and save it as RLE or as a macrocell file."
advice_of files.MCell = codes "This is an MCell file: open it in Golly, and save it as RLE or as a macrocell file."
advice_of files.RuleTable = codes "This is a rule table, not a pattern: name it after the option --table of step."
advice_of files.Plaintext = codes "This is a plaintext file (.cells): open it in Golly, and save it as RLE or as a macrocell file."
advice_of files.Headerless = codes "The header is missing: put one before the items, such as x = 0, y = 0, rule = B3/S23."
advice_of files.Returns = codes "The lines end in a carriage return alone: turn each into a line feed, with tr '\\r' '\\n'."
