-- What each kind of fault means, in a sentence. The project's own.
use Rattle.std.specs.Prelude.{ℕ, List, ◌++◌, codes}
use Rattle.life_base.specs.declared.kind.Kind.{Kind}
use Rattle.life_base.specs.declared.kind.Kind.TheVariants as kinds

-- the sentence of a kind of fault
abbrev pub sentence_of : Kind → List ℕ
sentence_of kinds.NoHeader = codes "The file begins with no header, neither [M2] nor x = .., or it ends before one."
sentence_of kinds.BadHeader = codes "The header isn't x = .., y = .., rule = .."
sentence_of kinds.BadRule = codes "The rule is empty, has more than 255 bytes, or has a byte that no rule has."
sentence_of kinds.BoundedGrid = codes "The rule has a :, for a bounded grid."
sentence_of kinds.UnsupportedRule =
    codes "The rule is of a kind that the program doesn't know: it has a / and no form of B/S, or names "
    ++ codes "neighbours that aren't supported."
sentence_of kinds.BirthOnZero = codes "The rule lets a cell be born that has no live neighbour."
sentence_of kinds.BadNumber = codes "A position or the generation isn't a number."
sentence_of kinds.TooLarge = codes "The generation is 2^64 or more, or a count of RLE is above 2^62."
sentence_of kinds.BadItem = codes "The data contain something that isn't a count, a state, $ or !."
sentence_of kinds.ZeroCount = codes "A count is 0."
sentence_of kinds.StateRange = codes "A state is above 1 under a B/S rule, or above 255 in a macrocell file."
sentence_of kinds.OutOfPlane =
    codes "A position, a run or a row of RLE is outside the plane, which goes from -2^61 to 2^61 - 1. "
    ++ codes "Where no line is named, a cell outside the plane wouldn't stay 0 in a later generation."
sentence_of kinds.LateHeader =
    codes "A line #CXRLE comes between the header and the ! of RLE, or a line #R or #G after a square of a "
    ++ codes "macrocell file."
sentence_of kinds.SecondHeader = codes "A second header follows."
sentence_of kinds.BadNode = codes "A line is neither a leaf nor five numbers."
sentence_of kinds.BadLevel = codes "The level of a square isn't from 1 to 62."
sentence_of kinds.BadChild = codes "A child number doesn't refer to an earlier square one level down."
sentence_of kinds.BadLeaf = codes "A leaf has another byte than . * $, or more than 8 rows or columns."
sentence_of kinds.Timeline = codes "The file holds several patterns, with lines #FRAME."
sentence_of kinds.LineTooLong = codes "A line of the file, or of the rule table, has more than 2^20 bytes."
sentence_of kinds.Full = codes "The command needs more than 2^31 different squares, or a form has more than 2^21."
sentence_of kinds.Memory = codes "Memory was refused."
sentence_of kinds.Spent = codes "A reader that has refused was used again."
sentence_of kinds.NoRuleLine = codes "The table begins with no line @RULE NAME."
sentence_of kinds.NoTable = codes "There is no line @TABLE."
sentence_of kinds.BadDescriptor =
    codes "One of the lines n_states, neighborhood and symmetries is missing, given twice or too late, or is "
    ++ codes "wrong, or a line has another word before a :."
sentence_of kinds.UnsupportedNeighborhood = codes "The neighbourhood is neither vonNeumann nor Moore."
sentence_of kinds.UnsupportedSymmetry = codes "The neighbourhood has no such symmetries."
sentence_of kinds.BadVariable = codes "A line var isn't of its form."
sentence_of kinds.BadTransition = codes "A transition isn't of its form."
sentence_of kinds.UnboundOutput = codes "The new state of a line is a variable that isn't an input of the line."
sentence_of kinds.NotQuiet = codes "A cell of state 0 among cells of state 0 doesn't stay 0."
sentence_of kinds.RuleMismatch = codes "The rule of the pattern isn't the name of the rule table."
sentence_of kinds.NeedsTable = codes "The rule is a name, and step was given no rule table."
sentence_of kinds.Ambiguous = codes "The line of the table that fits a cell of the pattern gives it two states."
sentence_of kinds.TooManyCells = codes "More than 2^20 cells aren't 0: too many for convert --to rle and for step."
sentence_of kinds.GenerationTooLarge = codes "The step leads beyond generation 2^64 - 1, the last one that a file can name."
sentence_of kinds.StateBeyondTable = codes "A cell of the pattern has a state that the rule table lacks."
sentence_of kinds.ReadFault = codes "A file can't be opened or read, or the system gives no random bytes."
sentence_of kinds.WriteFault = codes "The output can't be written."
sentence_of kinds.InputTooLong = codes "A file has more than 2^30 bytes."
