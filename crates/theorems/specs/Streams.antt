-- Why the canonical text of a stream is not written.
use Rattle.std.specs.Prelude.{◌≡◌, ◌⊎◌, ◌^◌, ◌<◌, ◌≤◌, ℕ, Bool, true, List, length, Err}
use Rattle.life_base.specs.declared.fault.Fault.{Fault}
use Rattle.life_base.specs.declared.kind.Kind.TheVariants.{ReadFault, WriteFault, InputTooLong}
use Rattle.claims.specs.Files.{pattern_of, claimed_fault_of, IsShortage}

-- The fault of a stream of these bytes, of whose source and sink so many calls have failed, and whose sink has taken no bytes or has: they are no
-- file; the store is full or memory is refused; they are too many; the source failed; the sink failed or took no bytes.
pub data IsStreamFault (bytes : List ℕ) (failed_reads failed_writes : ℕ) (stalled : Bool) : Fault → Type 0 where
  no_file : (fault : Fault) → length bytes ≤ 2 ^ 30 → pattern_of bytes ≡ Err fault → IsStreamFault bytes failed_reads failed_writes stalled fault
  want : (fault : Fault) → IsShortage fault → IsStreamFault bytes failed_reads failed_writes stalled fault
  too_many : 2 ^ 30 < length bytes → IsStreamFault bytes failed_reads failed_writes stalled (claimed_fault_of InputTooLong)
  unread : failed_reads ≡ 1 → IsStreamFault bytes failed_reads failed_writes stalled (claimed_fault_of ReadFault)
  unwritten : (failed_writes ≡ 1) ⊎ (stalled ≡ true) → IsStreamFault bytes failed_reads failed_writes stalled (claimed_fault_of WriteFault)
