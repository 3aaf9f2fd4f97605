-- What is true of the law of a B/S rule and of a table: there is a state, and nine zeros stay 0. And what that of a table remembers.
use Rattle.std.proofs.Common.{◌≡◌, ℕ, ◌<◌, Bool, false, ◌||◌, refl, sym, ap, subst, arith}
use Rattle.std.specs.Prelude.{if◌then◌else◌, replicate, All, Contains, ◌↔◌, ◌^◌, List, length}
use Rattle.life_base.specs.Rules.{has_digit}
use Rattle.life_base.specs.Sets.{DigitSets}
use Rattle.life_base.specs.declared.rule.Near.{Near}
use Rattle.life_table.specs.Meaning.{Becomes, Decides}
use Rattle.life_table.specs.Valid.{neighbour_count}
use Rattle.life_table.specs.Orders.{images}
use Rattle.life_table.specs.declared.table.Symmetry.{Symmetry}
use Rattle.life_table.specs.declared.table.Table.{Table}
use Rattle.life_table.specs.declared.table.Neighborhood.{Neighborhood}
use Rattle.life_table.specs.declared.table.Neighborhood.TheVariants.{VonNeumann, Moore}
use Rattle.life_table.proofs.Quiet.{zero_law}
use Rattle.life_sweep.specs.Generation.{LifeAnswers, TableAnswers, neighbours_among, zeros}
use Rattle.life_sweep.specs.declared.law.Known.{Known}
use Rattle.life_base.specs.declared.rule.Near.TheVariants as near

-- each order in which a symmetry lets the one list be read is one of the other's
abbrev pub SameImages : Symmetry → List ℕ → List ℕ → Type 0
SameImages symmetry v w = (image : List ℕ) → Contains (images symmetry v) image ↔ Contains (images symmetry w) image

-- 2^16 places, in each of which a neighbourhood is remembered, with what the table answers
pub record RemembersAnswers (table : Table) (known : List Known) : Type 0 where
  pub places : length known ≡ 2 ^ 16
  pub each : All (λ k. TableAnswers table k.around (Becomes k.next)) known

pub two_positive : 0 < 2
two_positive = omega arith

pub life_quiet : (sets : DigitSets) (near : Near) → has_digit sets.births 0 ≡ false → LifeAnswers (record { sets = sets; near = near }) zeros (Becomes 0)
life_quiet sets near.VonNeumann e = ap (λ (b : Bool). Becomes (if b || false then 1 else 0)) (sym e)
life_quiet sets near.Moore e = ap (λ (b : Bool). Becomes (if b || false then 1 else 0)) (sym e)

pub table_positive : (table : Table) → 0 < table.n_states
table_positive table = let least = table.sound.least in omega (arith, least)

zeros-named : (neighborhood : Neighborhood) → replicate (neighbour_count neighborhood) 0 ≡ neighbours_among neighborhood zeros
zeros-named VonNeumann = refl
zeros-named Moore = refl

pub table_quiet : (table : Table) → TableAnswers table zeros (Becomes 0)
table_quiet table =
    subst (λ others. Decides table.symmetry table.vars 0 others table.lines (Becomes 0)) (zeros-named table.neighborhood)
    (zero_law table.n_states table.neighborhood table.symmetry table.vars table.lines table.sound)
