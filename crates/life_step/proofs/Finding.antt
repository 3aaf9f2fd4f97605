-- The square that has a property, of those that a step needs.
use Rattle.std.proofs.Common.{ℕ, ℤ, List}
use Rattle.life_base.specs.Sets.{OuterTotalistic}
use Rattle.life_base.specs.Tree.{Tree}
use Rattle.life_base.specs.declared.rule.Rule.{Rule}
use Rattle.life_base.specs.declared.rule.Rule.TheVariants.{Life, Named}
use Rattle.life_table.specs.Meaning.{Answer}
use Rattle.life_table.specs.declared.table.Table.{Table}
use Rattle.life_sweep.specs.Refused.{SomeNext, above_cell, of_plane}
use Rattle.life_block.specs.Needed.{SomeOfNext}
use Rattle.life_block.specs.Needed as block
use Rattle.life_pattern.proofs.Found.{Found, found-as, find-part, find-trimmed}
use Rattle.life_reader.proofs.SpaceCount.{find-square}
use Rattle.life_step.specs.Refusals.{SomeOfRoot, SomeOfLife, of_generation, of_root, SomeOfTable, of_next, of_next_root, SomeByRule, SomeByTable}

find-next : (P : Tree → Type 0) (answers : List ℕ → Answer → Type 0) (cells : ℤ → ℤ → ℕ) → SomeNext P answers cells → Found P (λ Q. SomeNext Q answers cells)
find-next P answers cells (above_cell x y state next on becomes live above s) =
    found-as (λ Q k. above_cell x y state next on becomes live above k) (find-square P _ _ s)
find-next P answers cells (of_plane next becomes outside s) = found-as (λ Q k. of_plane next becomes outside k) (find-square P _ _ s)

find-generation : (P : Tree → Type 0) (rule : OuterTotalistic) (root : Tree) → SomeOfNext P rule root → Found P (λ Q. SomeOfNext Q rule root)
find-generation P rule root (block.of_square low s) = found-as (λ Q k. block.of_square low k) (find-part P _ s)
find-generation P rule root (block.of_plane is s) = found-as (λ Q k. block.of_plane is k) (find-next P _ _ s)

find-root : (P : Tree → Type 0) (cell : ℤ → ℤ → ℕ) (level least : ℕ) → SomeOfRoot P cell level least → Found P (λ Q. SomeOfRoot Q cell level least)
find-root P cell level least r =
    found-as (λ Q k. record { square = r.square; full = r.full; is = r.is; cells = r.cells; smaller = k }) (find-trimmed P r.square least r.smaller)

find-life : (P : Tree → Type 0) (rule : OuterTotalistic) (root : Tree) → SomeOfLife P rule root → Found P (λ Q. SomeOfLife Q rule root)
find-life P rule root (of_generation s) = found-as (λ Q k. of_generation k) (find-generation P rule root s)
find-life P rule root (of_root s) = found-as (λ Q k. of_root k) (find-root P _ _ _ s)

find-table : (P : Tree → Type 0) (table : Table) (root : Tree) → SomeOfTable P table root → Found P (λ Q. SomeOfTable Q table root)
find-table P table root (of_next s) = found-as (λ Q k. of_next k) (find-next P _ _ s)
find-table P table root (of_next_root next becomes s) = found-as (λ Q k. of_next_root next becomes k) (find-root P _ _ _ s)

pub find-by_rule : (P : Tree → Type 0) (rule : Rule) (root : Tree) → SomeByRule P rule root → Found P (λ Q. SomeByRule Q rule root)
find-by_rule P (Life rule) root s = find-life P rule root s
find-by_rule P (Named name) root s = absurd s

pub find-by_table : (P : Tree → Type 0) (table : Table) (rule : Rule) (root : Tree) → SomeByTable P table rule root
    → Found P (λ Q. SomeByTable Q table rule root)
find-by_table P table rule root s = found-as (λ Q k. (s.0, k)) (find-table P table root s.1)
