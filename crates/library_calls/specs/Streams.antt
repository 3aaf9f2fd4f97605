-- What a stream holds, and what the calls on it tell of the bytes that were fed.
use Rattle.std.specs.Prelude.{◌≡◌, ◌⊎◌, ◌++◌, ℕ, Option, Some, None, List, []}
use Rattle.hex.specs.Hex.{encode_lower}
use Rattle.sha2.specs.Sha256.{sha256}
use Rattle.life_base.specs.Kinds.{kind_number}
use Rattle.life_base.specs.declared.cell.TheConstants.{MAX_LEVEL}
use Rattle.life_base.specs.declared.fault.Fault.{Fault}
use Rattle.life_base.specs.declared.kind.Kind.TheVariants.{Memory, Spent}
use Rattle.life_reader.specs.Feeding.{RefusesPrefix}
use Rattle.file_hints.specs.Damage.{warning_of}
use Rattle.file_hints.specs.Warnings.{warning_sentence}
use Rattle.file_hints.specs.declared.warnings.Warning.{Warning}
use Rattle.library_calls.specs.Reported.{Reported, ReturnsText, ReturnsFault}
use Rattle.library_calls.specs.Texts.{Fits, squares_of_limit, SomeToRead}
use Rattle.library_calls.specs.Outputs.{IsOutputText, RefusesTextOf, RefusesPiece}
use Rattle.library_calls.specs.declared.texts.Output.{Output}
use Rattle.library_calls.specs.declared.session.Session.{Session}
use Rattle.library_calls.specs.declared.session.Session.TheVariants.{Reading, Written, Refused}
use Rattle.library_calls.specs.declared.stream.Stream.{Stream}

-- the session of a stream, and none where it is closed
abbrev pub session_of : Stream → Option Session
session_of stream = stream.held.session

-- the stream is open, and this holds of its session
abbrev pub IsOpenStream : (Session → Type 0) → Option Session → Type 0
IsOpenStream Holds None = ⊥
IsOpenStream Holds (Some session) = Holds session

-- the bytes were fed to the session, whose end gives this output, and whose store has this limit
abbrev pub IsFed : Output → ℕ → List ℕ → Session → Type 0
IsFed output limit bytes (Reading feeding) = (feeding.output ≡ output) × (feeding.space ≡ squares_of_limit limit) × (feeding.bytes ≡ bytes)
IsFed output limit bytes (Written finished) = ⊥
IsFed output limit bytes (Refused fault) = ⊥

-- the session has this text
abbrev pub SessionHasText : List ℕ → Session → Type 0
SessionHasText text (Reading feeding) = ⊥
SessionHasText text (Written finished) = finished.text.items ≡ text
SessionHasText text (Refused fault) = ⊥

-- the session has this warning, or none
abbrev pub SessionHasWarning : Option Warning → Session → Type 0
SessionHasWarning warning (Reading feeding) = ⊥
SessionHasWarning warning (Written finished) = finished.warning ≡ warning
SessionHasWarning warning (Refused fault) = ⊥

-- the session was refused with this fault
abbrev pub HasFault : Fault → Session → Type 0
HasFault fault (Reading feeding) = ⊥
HasFault fault (Written finished) = ⊥
HasFault fault (Refused refused) = refused ≡ fault

-- the stream is open, and no byte was fed; or memory was refused, and it is closed
abbrev pub OpensStream : Output → ℕ → ℕ → Option Session → Type 0
OpensStream output limit status session = ((status ≡ 0) × IsOpenStream (IsFed output limit []) session) ⊎ ((status ≡ kind_number Memory) × (session ≡ None))

-- What a piece makes of a session, with which the bytes are these: they were fed, and have no fault that can be reported; or their fault.
pub data TakesPiece (output : Output) (limit : ℕ) (bytes : List ℕ) (session : Session) : Type 0 where
  by_piece : IsFed output limit bytes session → ((fault : Fault) → ¬ RefusesPrefix MAX_LEVEL bytes fault) → TakesPiece output limit bytes session
  by_fault : (fault : Fault) → HasFault fault session → RefusesPiece limit bytes fault → TakesPiece output limit bytes session

-- what the end makes of it: the text of the bytes, which need no more squares than the limit; or their fault
pub data Ends (output : Output) (limit : ℕ) (bytes : List ℕ) (session : Session) : Type 0 where
  by_text : (text : List ℕ) → SessionHasText text session → IsOutputText output limit bytes text → Fits (SomeToRead bytes) limit
      → Ends output limit bytes session
  by_fault : (fault : Fault) → HasFault fault session → RefusesTextOf output limit bytes fault → Ends output limit bytes session

-- if the session has a text, it has the warning of these bytes
abbrev pub WarnsOf : List ℕ → Session → Type 0
WarnsOf bytes (Reading feeding) = Unit {0}
WarnsOf bytes (Written finished) = finished.warning ≡ warning_of bytes
WarnsOf bytes (Refused fault) = Unit {0}

-- a session that has a text or a fault keeps it, and its warning
pub record StaysEnded (old new : Option Session) : Type 0 where
  pub text : (text : List ℕ) → IsOpenStream (SessionHasText text) old → IsOpenStream (SessionHasText text) new
  pub warning : (warning : Option Warning) → IsOpenStream (SessionHasWarning warning) old → IsOpenStream (SessionHasWarning warning) new
  pub fault : (fault : Fault) → IsOpenStream (HasFault fault) old → IsOpenStream (HasFault fault) new

-- what a piece makes of the session of a stream: one that was fed so far was fed the piece too, or is refused; one that has ended stays as it is
pub record Feeds (piece : List ℕ) (old new : Option Session) : Type 0 where
  pub takes : (output : Output) (limit : ℕ) (bytes : List ℕ) → IsOpenStream (IsFed output limit bytes) old
      → IsOpenStream (TakesPiece output limit (bytes ++ piece)) new
  pub stays : StaysEnded old new

-- what the end of the file makes of it: one that was fed so far ends with the text or the fault of all its bytes, and with their warning
pub record Finishes (old new : Option Session) : Type 0 where
  pub ends : (output : Output) (limit : ℕ) (bytes : List ℕ) → IsOpenStream (IsFed output limit bytes) old → IsOpenStream (Ends output limit bytes) new
  pub warns : (output : Output) (limit : ℕ) (bytes : List ℕ) → IsOpenStream (IsFed output limit bytes) old → IsOpenStream (WarnsOf bytes) new
  pub stays : StaysEnded old new

-- the call doesn't fit the stream
abbrev pub IsSpent : (status line : ℕ) → Type 0
IsSpent status line = (status ≡ kind_number Spent) × (line ≡ 0)

-- what `feed` tells of the session: that it was fed; a fault; or that its end came before
abbrev pub TellsPiece : (status line : ℕ) → Session → Type 0
TellsPiece status line (Reading feeding) = (status ≡ 0) × (line ≡ 0)
TellsPiece status line (Written finished) = IsSpent status line
TellsPiece status line (Refused fault) = (status ≡ kind_number fault.kind) × (line ≡ fault.place.line)

-- no text is given, as the call doesn't fit the stream
abbrev pub TellsNothing : (before after : List ℕ) → Reported → Type 0
TellsNothing before after it = IsSpent it.status it.line × (it.needed ≡ 0) × (after ≡ before)

-- what `finish` tells of the session: its text or its fault
abbrev pub TellsEnd : (before after : List ℕ) → Reported → Session → Type 0
TellsEnd before after it (Reading feeding) = TellsNothing before after it
TellsEnd before after it (Written finished) = ReturnsText finished.text.items before after it × (it.line ≡ 0)
TellsEnd before after it (Refused fault) = ReturnsFault fault before after it

-- the key of a text: its SHA-256, in 64 hex digits of lower case
abbrev pub key_digits : List ℕ → List ℕ
key_digits text = encode_lower (sha256 text)

-- what `finish_key` reports of the session: the key of the text that `finish` gives, or its fault
abbrev pub TellsKey : (before after : List ℕ) → Reported → Session → Type 0
TellsKey before after it (Reading feeding) = TellsNothing before after it
TellsKey before after it (Written finished) = ReturnsText (key_digits finished.text.items) before after it × (it.line ≡ 0)
TellsKey before after it (Refused fault) = ReturnsFault fault before after it

-- the sentence of a warning, and no byte for none
abbrev pub sentence_of_warning : Option Warning → List ℕ
sentence_of_warning None = []
sentence_of_warning (Some warning) = warning_sentence warning

-- the sentence of the warning of the file that a session has read to its end, and no byte for another session
abbrev pub sentence_of_session : Session → List ℕ
sentence_of_session (Reading feeding) = []
sentence_of_session (Written finished) = sentence_of_warning finished.warning
sentence_of_session (Refused fault) = []

-- the same of a stream, and no byte where it is closed
abbrev pub sentence_of_stream : Option Session → List ℕ
sentence_of_stream None = []
sentence_of_stream (Some session) = sentence_of_session session
