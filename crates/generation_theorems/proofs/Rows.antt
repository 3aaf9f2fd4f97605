-- Worked examples of many generations in the words of the claims.
use Rattle.std.proofs.Common.{◌≡◌, ℕ, ◌-◌, ◌^◌, List, [], ◌∷◌, codes, refl, arith, pos, negsuc, ◌&&◌, int_le, if◌then◌else◌, ℤ, Ok, Err}
use Rattle.claims.specs.Rules.{Rule, counting, named, claimed_rule_of, claimed_digits_of}
use Rattle.claims.specs.Pattern.{Pattern}
use Rattle.claims.specs.Files.{pattern_of, claimed_fault_of}
use Rattle.life_base.specs.declared.kind.Kind.TheVariants.{NeedsTable, GenerationTooLarge, OutOfPlane}
use Rattle.claims.specs.Rle.{with_rle_line}
use Rattle.generation_theorems.specs.ManyGenerations.{claimed_life_after, LeavesClaimedPlaneWithin, IsClaimedStateAfter, IsFirstReasonWithin, no_table_for, beyond_last_generation, leaves_plane_within}

abbrev three : List ℕ
three = 3 ∷ []

abbrev two_three : List ℕ
two_three = 2 ∷ 3 ∷ []

-- the states of cells of what a file says so many generations later
abbrev later_states : ℕ → List ℕ → List ℕ
later_states n bytes = elim (pattern_of bytes) [
  | Ok pattern ↦ elim pattern.rule [
    | counting m births survivals ↦
        let cell = claimed_life_after m births survivals n pattern.cell in
        cell (pos 0) (negsuc 0) ∷ cell (pos 0) (pos 0) ∷ cell (pos 0) (pos 1) ∷ cell (negsuc 0) (pos 0) ∷ cell (pos 1) (pos 0) ∷ []
    | named name ↦ []
  ]
  | Err fault ↦ []
]

-- three cells in a row turn, and turn back
turned : later_states 1 (codes "#CXRLE Pos=-1,0\nx=3,y=1\n3o!") ≡ 1 ∷ 1 ∷ 1 ∷ 0 ∷ 0 ∷ []
unfolding pattern_of claimed_rule_of claimed_digits_of with_rle_line claimed_life_after
turned = refl

turned_back : later_states 2 (codes "#CXRLE Pos=-1,0\nx=3,y=1\n3o!") ≡ 0 ∷ 1 ∷ 0 ∷ 1 ∷ 1 ∷ []
unfolding pattern_of claimed_rule_of claimed_digits_of with_rle_line claimed_life_after
turned_back = refl

-- three cells in a row from (0, y) on
abbrev row_at : ℕ → ℤ → ℤ → ℕ
row_at y column row = if int_le (pos y) row && int_le row (pos y) && int_le (pos 0) column && int_le column (pos 2) then 1 else 0

abbrev says : Rule → ℕ → (ℤ → ℤ → ℕ) → Pattern
says rule generation cell = record { rule = rule; generation = generation; cell = cell }

-- at the southern edge of the plane they leave it, although they are back two generations later
leaves : LeavesClaimedPlaneWithin 8 three two_three 2 (row_at (2 ^ 61 - 1))
unfolding claimed_life_after
leaves = (1, omega arith, omega arith, (pos 1, pos (2 ^ 61), refl, λ e. omega (arith, e)))

left_and_back : IsFirstReasonWithin 2 (says (counting 8 three two_three) 0 (row_at (2 ^ 61 - 1))) (claimed_fault_of OutOfPlane)
left_and_back = leaves_plane_within 8 three two_three refl (omega arith) leaves

-- so do they from a generation near the last one, but that has too large a number first
too_late : IsFirstReasonWithin 2 (says (counting 8 three two_three) (2 ^ 64 - 2) (row_at (2 ^ 61 - 1))) (claimed_fault_of GenerationTooLarge)
too_late = beyond_last_generation 8 three two_three refl (omega arith)

-- and a name needs a table first
needs_table : IsFirstReasonWithin 2 (says (named (87 ∷ [])) (2 ^ 64 - 2) (row_at 0)) (claimed_fault_of NeedsTable)
needs_table = no_table_for (87 ∷ []) refl (λ e. omega (arith, e))

-- under a name each cell keeps its state in no generation
named_now : IsClaimedStateAfter 0 (named (87 ∷ [])) (row_at 0) (pos 1) (pos 0) 1
named_now = (refl, refl)
