-- Files of either format: what the bytes of a file say, or at which line and why they are no file. Golly Help has no word for what is no file:
-- that all files but those that begin with `[M2]` are extended RLE, and what the place of a fault is, are this project's own.
use Rattle.std.specs.Prelude.{◌≡◌, ◌⊎◌, ℕ, ◌+◌, ◌-◌, ◌^◌, min, ℤ, List, [], ◌∷◌, codes, if◌then◌else◌, Result, Ok, Err}
use Rattle.life_base.specs.Text.{lines_of, begins_with}
use Rattle.life_base.specs.declared.kind.Kind.{Kind}
use Rattle.life_base.specs.declared.kind.Kind.TheVariants.{NoHeader, Full, Memory}
use Rattle.life_base.specs.declared.fault.Fault.{Fault}
use Rattle.claims.specs.Outcomes.{◌>>=◌}
use Rattle.claims.specs.Pattern.{Pattern}
use Rattle.claims.specs.Macrocell.{first_line, with_macrocell_line, claimed_macrocell_cell}
use Rattle.claims.specs.Rle.{Lines, before_header, after_header, after_end, no_position_fields}
use Rattle.claims.specs.Rle.{with_rle_line, claimed_rle_cell as rle_cell}

-- the fault of a line; a number above 2 ^ 64 - 1 is reported as that
abbrev pub claimed_fault_at : ℕ → Kind → Fault
claimed_fault_at number kind = record { place = record { line = min number (2 ^ 64 - 1) }; kind = kind }

-- an answer, or a kind as the fault of a line
abbrev pub on_line : {A : Type 0} → ℕ → Result A Kind → Result A Fault
on_line number (Ok a) = Ok a
on_line number (Err kind) = Err (claimed_fault_at number kind)

-- What lines from this number on say after what is said already, and then what their end says; or the fault of the first line that has one. Where
-- only the end is refused, its line is the number of lines plus one.
abbrev pub read_lines : {A B : Type 0} → (A → List ℕ → Result A Kind) → (A → Result B Kind) → ℕ → A → List (List ℕ) → Result B Fault
read_lines with_one at_end number said [] = on_line number (at_end said)
read_lines with_one at_end number said (line ∷ lines) =
    on_line number (with_one said line) >>= λ next. read_lines with_one at_end (number + 1) next lines

-- a macrocell file
abbrev pub macrocell_of : List (List ℕ) → Result Pattern Fault
macrocell_of [] = Err (claimed_fault_at 1 NoHeader)
macrocell_of (line ∷ lines) =
    on_line 1 (first_line line) >>= λ begun.
    read_lines with_macrocell_line (λ file. Ok (record { rule = file.rule; generation = file.generation; cell = claimed_macrocell_cell file.nodes })) 2 begun
    lines

-- what lines of extended RLE say at their end: `!` may be lacking, and a header may not
abbrev pub end_of_rle : Lines → Result Pattern Kind
end_of_rle (before_header position) = Err NoHeader
end_of_rle (after_header file) = Ok (record { rule = file.rule; generation = file.position.generation; cell = rle_cell file })
end_of_rle (after_end file) = Ok (record { rule = file.rule; generation = file.position.generation; cell = rle_cell file })

-- what a file of either format says
unfoldable pub pattern_of : List ℕ → Result Pattern Fault
pattern_of bytes =
    if begins_with bytes (codes "[M2]") then macrocell_of (lines_of bytes)
    else read_lines with_rle_line end_of_rle 1 (before_header no_position_fields) (lines_of bytes)

-- the fault of no line
abbrev pub claimed_fault_of : Kind → Fault
claimed_fault_of kind = record { place = record { line = 0 }; kind = kind }

-- the store is full or memory is refused; that is of no line
abbrev pub IsShortage : Fault → Type 0
IsShortage fault = (fault ≡ claimed_fault_of Full) ⊎ (fault ≡ claimed_fault_of Memory)

-- Both are files, of one rule and one generation, and each cell has one state in both.
pub record SayOnePattern (a b : List ℕ) : Type 0 where
  pub first : Pattern
  pub second : Pattern
  pub first_is : pattern_of a ≡ Ok first
  pub second_is : pattern_of b ≡ Ok second
  pub rule : first.rule ≡ second.rule
  pub generation : first.generation ≡ second.generation
  pub cells : (x y : ℤ) → first.cell x y ≡ second.cell x y
