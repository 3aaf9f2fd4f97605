-- What calls leave in a store that is lent to them.
use Rattle.std.specs.Prelude.{◌≡◌, ℕ, ◌+◌, ◌<◌, List, ◌++◌, length, Result, Err, OnOk}
use Rattle.life_base.specs.Lines.{whole_lines}
use Rattle.life_base.specs.Refusal.{fault_of}
use Rattle.life_base.specs.Text.{lines_of}
use Rattle.life_base.specs.Tree.{Tree}
use Rattle.life_base.specs.declared.cell.TheConstants.{MAX_LEVEL}
use Rattle.life_base.specs.declared.fault.Fault.{Fault}
use Rattle.life_base.specs.declared.kind.Kind.{Kind}
use Rattle.life_base.specs.declared.kind.Kind.TheVariants.{Full}
use Rattle.life_quad.specs.Grows.{KeepsStore as KeepsIn}
use Rattle.life_quad.specs.Keeping.{AddsOnly}
use Rattle.life_quad.specs.Store.{Nodes, stored_squares}
use Rattle.life_quad.specs.declared.squares.Squares.{Ghosts}
use Rattle.life_pattern.specs.Store.{IsNew, Keeps}
use Rattle.life_reader.specs.Needs.{LacksFor, LacksForPrefix, SomeOfFile, SomeOfLines}
use Rattle.life_reader.specs.Space.{AddsFile, AddsLines, HoldsFile, HoldsPrefix, HoldsOnly, sufficient_for}

-- The store is kept, and gets no square but such as the call needs; `full`, the error that tells that it holds its limit, comes only where it lacks
-- such a square. `Needs` says of a property that a square which the call needs has it.
pub record Stores {A E : Type 0} (full : E) (old new : Nodes) (result : Result A E) (Needs : (Tree → Type 0) → Type 0) : Type 0 where
  pub needed : result ≡ Err full → Needs (IsNew new)
  pub adds : AddsOnly stored_squares Needs old new
  pub keeps : Keeps old new

-- the same of squares of any kind
pub record StoresIn {X A : Type 0} (S : Ghosts X) (old new : X) (result : Result A Kind) (Needs : (Tree → Type 0) → Type 0) : Type 0 where
  pub needed : result ≡ Err Full → Needs (S.needs_node new)
  pub adds : AddsOnly S.stored Needs old new
  pub keeps : KeepsIn S old new

-- a call that needs squares of these lines
abbrev pub StoresLines : {A : Type 0} → List (List ℕ) → Nodes → Nodes → Result A Fault → Type 0
StoresLines lines old new result = Stores (fault_of Full) old new result (λ P. SomeOfLines MAX_LEVEL P lines)

-- a call that needs squares of a file
abbrev pub StoresFile : {A : Type 0} → List ℕ → Nodes → Nodes → Result A Fault → Type 0
StoresFile bytes old new result = Stores (fault_of Full) old new result (λ P. SomeOfFile MAX_LEVEL P (lines_of bytes))

-- A call that reads a file into the store. Where it succeeds, the store holds every square of the file, and no others but those that it held before
-- (`all` and `adds`). A store that gets full lacks a square of the file, and its limit leaves less than the squares for the file beside the squares that
-- it held.
pub record ReadsInto {A : Type 0} (bytes : List ℕ) (old new : Nodes) (result : Result A Fault) : Type 0 where
  pub all : OnOk result (HoldsFile bytes (stored_squares new))
  pub needed : result ≡ Err (fault_of Full) → LacksFor MAX_LEVEL bytes new
  pub adds : AddsFile bytes old new
  pub space : result ≡ Err (fault_of Full) → old.limit < length (stored_squares old) + sufficient_for (length bytes)
  pub keeps : Keeps old new

-- A call that feeds a piece after these bytes. Whatever the store held before, it is full only where its limit is below that and the squares for the bytes.
-- Which squares it has stored already is not said: a row of cells may wait for the rows below it, and `EndsInto` says that in the end all are stored.
pub record FeedsInto {A : Type 0} (before piece : List ℕ) (old new : Nodes) (result : Result A Fault) : Type 0 where
  pub needed : result ≡ Err (fault_of Full) → LacksForPrefix MAX_LEVEL (before ++ piece) new
  pub adds : AddsLines (whole_lines (before ++ piece)) old new
  pub space : result ≡ Err (fault_of Full) → (base : List Tree) → HoldsPrefix base before old
      → old.limit < length base + sufficient_for (length (before ++ piece))
  pub keeps : Keeps old new

-- the same of the call that ends the file: where it succeeds, the store holds every square of the file
pub record EndsInto {A : Type 0} (bytes : List ℕ) (old new : Nodes) (result : Result A Fault) : Type 0 where
  pub all : OnOk result (HoldsFile bytes (stored_squares new))
  pub needed : result ≡ Err (fault_of Full) → LacksFor MAX_LEVEL bytes new
  pub adds : AddsFile bytes old new
  pub space : result ≡ Err (fault_of Full) → (base : List Tree) → HoldsOnly base bytes old → old.limit < length base + sufficient_for (length bytes)
  pub keeps : Keeps old new
