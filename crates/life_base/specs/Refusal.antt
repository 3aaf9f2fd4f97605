-- Which fault a refused file has, for any grammar of lines: its place, by prefixes of files, and its kind. The rules of this file
-- are the project's own.
use Rattle.std.specs.Prelude.{◌≡◌, ℕ, ◌+◌, ◌-◌, ◌^◌, ◌<◌, ◌≤◌, min, ◌⊎◌, Bool, true, false, cond, List, [], ◌∷◌, ◌++◌, length, take, codes, Option, Some, Result, Err}
use Rattle.std.specs.List.{slice_index_or}
use Rattle.life_base.specs.declared.kind.Kind.{Kind}
use Rattle.life_base.specs.declared.kind.Kind.TheVariants.{Memory}
use Rattle.life_base.specs.declared.kind.Kind.TheVariants as kinds
use Rattle.life_base.specs.declared.fault.Fault.{Fault}

-- the lines that can make a whole file of a prefix of one: a blank macrocell, a blank RLE, a table without transitions
abbrev pub continuations : List (List ℕ)
continuations =
    codes "[M2]" ∷ codes "x = 1, y = 1" ∷ codes "@RULE a" ∷ codes "@TABLE" ∷ codes "n_states:2"
    ∷ codes "neighborhood:vonNeumann" ∷ codes "neighborhood:Moore" ∷ codes "symmetries:none" ∷ []

-- those lines of a list, in their order, that are marked to be kept
abbrev pub kept_lines : List Bool → List (List ℕ) → List (List ℕ)
kept_lines [] lines = []
kept_lines (keep ∷ keeps) [] = []
kept_lines (keep ∷ keeps) (line ∷ lines) = cond keep (line ∷ kept_lines keeps lines) (kept_lines keeps lines)

-- the lines are a prefix of a file of the grammar: none, some or all of the continuations make a whole one of them
abbrev pub Prefix : (List (List ℕ) → Type 0) → List (List ℕ) → Type 0
Prefix Grammar lines = (keeps : List Bool) × Grammar (lines ++ kept_lines keeps continuations)

-- n is the least number, counted from 1, for which the first n lines are no prefix of a file; one more than there are lines,
-- if all are one
pub record IsPlace (Grammar : List (List ℕ) → Type 0) (lines : List (List ℕ)) (n : ℕ) : Type 0 where
  pub counted : 1 ≤ n
  pub within : n ≤ length lines + 1
  pub before : (k : ℕ) → k < n → Prefix Grammar (take k lines)
  pub here : n ≤ length lines → Prefix Grammar (take n lines) → ⊥

-- Why a file isn't of the grammar. `Breaks prefix line kind` says which rule is the first that a line breaks after a prefix of a file
-- (after other lines it means nothing), and `missing lines` what the lines lack that end after such a prefix.
pub record IsRefusal (Grammar : List (List ℕ) → Type 0) (Breaks : List (List ℕ) → List ℕ → Kind → Type 0)
    (missing : List (List ℕ) → Option Kind) (lines : List (List ℕ)) (fault : Fault) : Type 0 where
  pub refused : Grammar lines → ⊥
  pub n : ℕ
  pub place : IsPlace Grammar lines n
  pub line : fault.place.line ≡ min n (2 ^ 64 - 1)
  pub at_line : n ≤ length lines → Breaks (take (n - 1) lines) (slice_index_or lines (n - 1) []) fault.kind
  pub at_end : length lines < n → missing lines ≡ Some fault.kind

-- the relation of a function that answers the first rule which a line breaks
abbrev pub BreaksBy : (List (List ℕ) → List ℕ → Option Kind) → List (List ℕ) → List ℕ → Kind → Type 0
BreaksBy broken prefix line kind = broken prefix line ≡ Some kind

-- the fault that names no line
abbrev pub fault_of : Kind → Fault
fault_of kind = record { place = record { line = 0 }; kind = kind }

-- the kinds that name no line wherever they come: of a store, of memory, of a step, of a device, or of a spent reader
abbrev pub is_placeless : Kind → Bool
is_placeless kinds.Full = true
is_placeless kinds.Memory = true
is_placeless kinds.Spent = true
is_placeless kinds.RuleMismatch = true
is_placeless kinds.NeedsTable = true
is_placeless kinds.TooManyCells = true
is_placeless kinds.GenerationTooLarge = true
is_placeless kinds.StateBeyondTable = true
is_placeless kinds.ReadFault = true
is_placeless kinds.WriteFault = true
is_placeless kinds.InputTooLong = true
is_placeless _ = false

-- the fault of a line, or of no line where the kind names none
abbrev pub fault_at : ℕ → Kind → Fault
fault_at line kind = record { place = record { line = cond (is_placeless kind) 0 line }; kind = kind }

-- memory was refused
abbrev pub IsMemory : Kind → Type 0
IsMemory kind = kind ≡ Memory

-- the fact, unless memory was refused
abbrev pub OrMemory : Fault → Type 0 → Type 0
OrMemory fault P = (fault ≡ fault_of Memory) ⊎ P

-- the answer of a call, unless memory was refused
abbrev pub Answers : {X : Type 0} → Result X Kind → Result X Kind → Type 0
Answers result expected = (result ≡ Err Memory) ⊎ (result ≡ expected)
