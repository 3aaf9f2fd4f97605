-- Where a reader stands.
use Rattle.std.proofs.Common.{◌≡◌, ℕ, true, false, List, refl, sym, subst, inr}
use Rattle.life_base.specs.Refusal.{Prefix}
use Rattle.life_rle.specs.declared.cursor.Cursor.{Cursor}
use Rattle.life_rle.specs.declared.lines.Phase.{Phase}
use Rattle.life_rle.specs.declared.lines.Phase.TheVariants as phases
use Rattle.life_rle.specs.Standing.{StandsAt, is_refused, is_over}
use Rattle.life_rle.specs.Pattern.{Rle}
use Rattle.life_rle.specs.Grammar.{IsSomeRle, IsMarked}
use Rattle.life_rle.proofs.Unique.{IsUnmarked-progress, IsMarked-progress}
use Rattle.life_rle.proofs.Refusal.{Goes, Goes-Prefix, IsPreamble-Prefix, IsPreamble-refused}

-- where a reader stands that refused nothing, the lines are a prefix
pub StandsAt-Prefix : (level : ℕ) (phase : Phase) (cursor : Cursor) (lines : List (List ℕ)) → StandsAt level phase cursor lines → is_refused phase ≡ false
    → Prefix (IsSomeRle level) lines
StandsAt-Prefix level phases.Refused cursor lines s r = cc
StandsAt-Prefix level (phases.Before position) cursor lines s r = IsPreamble-Prefix level lines _ s.1
StandsAt-Prefix level (phases.Items rule position) cursor lines s r = Goes-Prefix level lines (subst Goes (sym (IsUnmarked-progress level lines s.0 s.1)) tt)
StandsAt-Prefix level (phases.Over rule position) cursor lines s r = Goes-Prefix level lines (subst Goes (sym (IsMarked-progress level lines s.0 s.1)) tt)

-- where the lines are over, so is the phase
pub marked-is_over : (level : ℕ) (phase : Phase) (cursor : Cursor) (lines : List (List ℕ)) (file : Rle) → StandsAt level phase cursor lines
    → is_refused phase ≡ false → IsMarked level lines file → is_over phase ≡ true
marked-is_over level phases.Refused cursor lines file s r e = cc
marked-is_over level (phases.Before position) cursor lines file s r e = absurd (IsPreamble-refused level lines _ s.1 (file, inr e))
marked-is_over level (phases.Items rule position) cursor lines file s r e = let x = IsUnmarked-progress level lines s.0 s.1 in
    let y = IsMarked-progress level lines file e in cc
marked-is_over level (phases.Over rule position) cursor lines file s r e = refl
