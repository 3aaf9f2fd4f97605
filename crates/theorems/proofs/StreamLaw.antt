-- What a run from a source to a sink leaves, where both tell their bytes.
use Rattle.std.proofs.Common.{◌≡◌, ℕ, ◌+◌, ◌^◌, ◌<◌, ◌≤◌, List, [], ◌++◌, length, length-append, ap, ◌∙◌, sym, subst, arith, Option, Some, None, append-nil}
use Rattle.std.specs.Io.KnownBytes.{Appends, Consumes, IsAtEnd}
use Rattle.life_base.specs.DeviceRuns.{SourceRun, SinkRun}
use Rattle.life_base.specs.Inputs.{ReadAll, CameBeyond}
use Rattle.life_base.specs.Text.{lines_of}
use Rattle.life_base.specs.declared.fault.Fault.{Fault}
use Rattle.life_pattern.specs.Laws.{FilesAreUnique}
use Rattle.life_canon.specs.Running.{Wrote, RunRefuses, by_reading, by_writing}
use Rattle.life_reader.specs.Reading.{by_file, by_want, by_length, by_source}
use Rattle.life_writer.specs.Listing.{canon_text}
use Rattle.life_writer.specs.Texts.{IsCanonical}
use Rattle.life_quad.specs.Store.{Nodes}
use Rattle.theorems.specs.Streams.{IsStreamFault, no_file, want, too_many, unread, unwritten}
use Rattle.theorems.proofs.RefusalLaw.{refuses_agree, want_as}

some_of : (xs ys : List ℕ) → Some xs ≡ Some ys → xs ≡ ys
some_of xs ys e = cc

pub all_read : (most : ℕ) (old new : Option (List ℕ)) (bytes read : List ℕ) → ReadAll most old new read → old ≡ Some bytes → read ≡ bytes
all_read most None new bytes read r e = cc
all_read most (Some xs) None bytes read r e = absurd r.consumed
all_read most (Some xs) (Some ys) bytes read r e =
    sym (append-nil read) ∙ ap (λ (t : List ℕ). read ++ t) (sym r.ended) ∙ sym r.consumed ∙ some_of xs bytes e

pub appended : (old new : Option (List ℕ)) (held text : List ℕ) → Appends old new text → old ≡ Some held → new ≡ Some (held ++ text)
appended None new held text h e = cc
appended (Some xs) None held text h e = absurd h
appended (Some xs) (Some ys) held text h e = ap Some (h ∙ ap (λ (t : List ℕ). t ++ text) (some_of xs held e))

pub beyond : (most : ℕ) (old new : Option (List ℕ)) (bytes : List ℕ) → CameBeyond most old new → old ≡ Some bytes → most < length bytes
beyond most None new bytes h e = cc
beyond most (Some xs) None bytes h e = absurd h.consumed
beyond most (Some xs) (Some ys) bytes h e =
    let whole : length bytes ≡ length h.bytes + length ys = ap length (sym (some_of xs bytes e) ∙ h.consumed) ∙ length-append h.bytes ys in
    let l = h.long in omega (arith, whole, l)

-- all was read, and the sink has this text after what it held
pub record HasRun (after : Option (List ℕ)) (bytes held : List ℕ) : Type 0 where
  pub text : List ℕ
  pub canonical : IsCanonical 62 bytes text
  pub written : after ≡ Some (held ++ text)

pub has_run : (source : SourceRun) (before after : Option (List ℕ)) (bytes held : List ℕ) → Wrote 62 (2 ^ 30) source (Appends before after)
    → source.before ≡ Some bytes → before ≡ Some held → HasRun after bytes held
has_run source before after bytes held r e f = record {
  text = r.text;
  canonical = subst (λ (b : List ℕ). IsCanonical 62 b r.text) (all_read (2 ^ 30) source.before source.after bytes r.bytes r.read e) r.canonical;
  written = appended before after held r.text r.written f;
}

pub at_end : (old new : Option (List ℕ)) (bytes read : List ℕ) → Consumes old new read → IsAtEnd new → old ≡ Some bytes → new ≡ Some []
at_end None new bytes read t a e = cc
at_end (Some xs) None bytes read t a e = absurd t
at_end (Some xs) (Some ys) bytes read t a e = ap Some a

-- all was read, and it was no more than may be
pub has_ended : (source : SourceRun) (before after : Option (List ℕ)) (bytes : List ℕ) → Wrote 62 (2 ^ 30) source (Appends before after)
    → source.before ≡ Some bytes → (source.after ≡ Some []) × (length bytes ≤ 2 ^ 30)
has_ended source before after bytes r e =
    let same = all_read (2 ^ 30) source.before source.after bytes r.bytes r.read e in
    let within : length bytes ≤ 2 ^ 30 = subst (λ (b : List ℕ). length b ≤ 2 ^ 30) same r.read.within in
    (at_end source.before source.after bytes r.bytes r.read.consumed r.read.ended e, within)

pub stream_fault : (store : Nodes) (source : SourceRun) (sink : SinkRun) (bytes : List ℕ) (fault : Fault)
    → RunRefuses 62 (2 ^ 30) store source sink fault → source.before ≡ Some bytes → IsStreamFault bytes source.failures sink.failures sink.stalled fault
stream_fault store source sink bytes fault (by_reading (by_file read all refuses)) e =
    let same = all_read (2 ^ 30) source.before source.after bytes read all e in
    subst (λ (b : List ℕ). IsStreamFault b source.failures sink.failures sink.stalled fault) same
    (no_file fault all.within (refuses_agree read fault refuses))
stream_fault store source sink bytes fault (by_reading (by_want w)) e = want fault (want_as store fault w)
stream_fault store source sink bytes fault (by_reading (by_length k h)) e =
    subst (IsStreamFault bytes source.failures sink.failures sink.stalled) (sym k) (too_many (beyond (2 ^ 30) source.before source.after bytes h e))
stream_fault store source sink bytes fault (by_reading (by_source k h)) e =
    subst (IsStreamFault bytes source.failures sink.failures sink.stalled) (sym k) (unread h)
stream_fault store source sink bytes fault (by_writing k h) e =
    subst (IsStreamFault bytes source.failures sink.failures sink.stalled) (sym k) (unwritten h.cause)

-- two canonical texts of one file are one
pub one_text : FilesAreUnique 62 → (bytes s t : List ℕ) → IsCanonical 62 bytes s → IsCanonical 62 bytes t → s ≡ t
one_text unique bytes s t c d =
    c.is ∙ ap (canon_text 62) (unique (lines_of bytes) c.universe d.universe c.reads d.reads) ∙ sym d.is
