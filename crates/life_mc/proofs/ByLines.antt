-- The macrocell format is a grammar of lines.
use Rattle.std.proofs.Common.{ℕ, zero, suc, ◌<◌, List, [], ◌∷◌, length, true, refl, subst, arith, append-nil, sym, codes}
use Rattle.life_base.specs.Refusal.{Prefix}
use Rattle.life_base.proofs.Refusals.{UnbrokenBelow, IsByLines}
use Rattle.life_mc.specs.Reading.{AcceptsMacrocell, broken_rule, missing_macrocell_part, rule_in_force, generation_in_force, squares_of}

module _ (top : ℕ) where
  -- lines that break no rule are a file, where there are any
  pub accepted : (lines : List (List ℕ)) → 0 < length lines → UnbrokenBelow (AcceptsMacrocell top) (broken_rule top) missing_macrocell_part lines (length lines)
      → AcceptsMacrocell top lines
  accepted lines h u = (
    record { rule = rule_in_force lines; generation = generation_in_force lines; lines = squares_of lines },
    record { header = h; unbroken = u; rule = refl; generation = refl; squares = refl },
  )

  header_line : UnbrokenBelow (AcceptsMacrocell top) (broken_rule top) missing_macrocell_part (codes "[M2]" ∷ []) 1
  unfolding broken_rule
  header_line zero h = refl
  header_line (suc k) h = absurd (omega arith)

  prefix : (lines : List (List ℕ)) → UnbrokenBelow (AcceptsMacrocell top) (broken_rule top) missing_macrocell_part lines (length lines)
      → Prefix (AcceptsMacrocell top) lines
  prefix [] u = (true ∷ [], accepted (codes "[M2]" ∷ []) (omega arith) header_line)
  prefix (line ∷ lines) u = ([], subst (AcceptsMacrocell top) (sym (append-nil (line ∷ lines))) (accepted (line ∷ lines) (omega arith) u))

  pub by_lines : IsByLines (AcceptsMacrocell top) (broken_rule top) missing_macrocell_part
  by_lines = record { sound = λ lines g. g.1.unbroken; complete = prefix }
