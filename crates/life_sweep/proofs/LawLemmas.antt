-- Laws: the number of live neighbours, and the neighbours that a table looks at.
use Rattle.std.proofs.Common.{◌≡◌, ℕ, ◌+◌, ◌<◌, List, [], ◌∷◌, length, drop, get_or, refl, sym, subst, arith, All, slice_index, Result, Ok, Err, IfOk, MatchResult}
use Rattle.life_base.specs.declared.fault.Fault.{Fault}
use Rattle.life_table.specs.Meaning.{Becomes, Ambiguous, Decides, count_of}
use Rattle.life_table.specs.declared.table.Table.{Table}
use Rattle.life_table.specs.declared.table.Neighborhood.{Neighborhood}
use Rattle.life_sweep.specs.Generation.{TableAnswers, neighbours_among}
use Rattle.life_next.proofs.CountLemmas.{eight}
use Rattle.life_base.specs.declared.kind.Kind.TheVariants as kinds

-- how many of eight neighbours are alive
pub count-eight : (v : List ℕ) → length v ≡ 9 → All (λ s. s < 2) v
    → get_or v 1 0 + get_or v 2 0 + get_or v 3 0 + get_or v 4 0 + get_or v 5 0 + get_or v 6 0 + get_or v 7 0 + get_or v 8 0 ≡ count_of 1 (drop 1 v)
count-eight (s ∷ a ∷ b ∷ c ∷ d ∷ e ∷ f ∷ g ∷ h ∷ []) len all =
    eight a b c d e f g h (all 1 0 (omega arith)) (all 2 0 (omega arith)) (all 3 0 (omega arith)) (all 4 0 (omega arith)) (all 5 0 (omega arith))
    (all 6 0 (omega arith)) (all 7 0 (omega arith)) (all 8 0 (omega arith))
count-eight v len all = absurd (omega (arith, len))

-- the answer at the neighbours that the table looks at is its answer
pub decided : (table : Table) (v cells : List ℕ) (n : Neighborhood) (result : Result ℕ Fault) → table.neighborhood ≡ n → cells ≡ slice_index v 0
    ∷ neighbours_among n v
    → MatchResult result (λ s. Decides table.symmetry table.vars (slice_index cells 0) (drop 1 cells) table.lines (Becomes s))
    (λ fault. (fault.kind ≡ kinds.Ambiguous) × Decides table.symmetry table.vars (slice_index cells 0) (drop 1 cells) table.lines (Ambiguous fault.place.line))
    → IfOk result (λ s. TableAnswers table v (Becomes s))
decided table v cells n (Ok s) en ec h =
    subst (λ m. Decides table.symmetry table.vars (slice_index v 0) (neighbours_among m v) table.lines (Becomes s)) (sym en)
    (subst (λ z. Decides table.symmetry table.vars (slice_index z 0) (drop 1 z) table.lines (Becomes s)) ec h)
decided table v cells n (Err f) en ec h = tt

pub whole-list : (v : List ℕ) → length v ≡ 9 → v ≡ slice_index v 0 ∷ drop 1 v
whole-list (s ∷ v) len = refl
whole-list [] len = absurd (omega (arith, len))
