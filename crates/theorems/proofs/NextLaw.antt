-- The next state of a cell under a B/S rule is that of the layer below.
use Rattle.std.proofs.Common.{◌≡◌, ℕ, ◌<◌, ◌≤◌, List, [], length, Bool, true, false, cond, ◌&&◌, ◌||◌, refl, ap, ◌∙◌, arith, filter, ◌==◌, nat_eq, count_by, ℤ}
use Rattle.std.proofs.lemmas.List.Sums.{count_by-le-length}
use Rattle.std.specs.List.{list_any}
use Rattle.std.proofs.lemmas.Bool.{agree_below, agree_below_at}
use Rattle.std.proofs.lemmas.Bool.Decides.{nat_tests}
use Rattle.life_base.proofs.RoundTrip.{all_below, all_below_at}
use Rattle.life_base.proofs.RuleValues.{set_below_512}
use Rattle.life_base.specs.Rules.{counts, has_digit, most_neighbours, IsLifeRule}
use Rattle.life_base.specs.Sets.{OuterTotalistic}
use Rattle.life_base.specs.declared.rule.Near.{Near}
use Rattle.life_base.specs.declared.rule.Near.TheVariants.{Moore, VonNeumann}
use Rattle.life_next.specs.Generation.{live_in, counted_around, next_by_count, next_life as layer_next, eight_around as layer_eight, four_around as layer_four}
use Rattle.claims.specs.Generation.{claimed_next_life}

-- a count is in a set exactly if it is in the list of the set
abbrev in_list : ℕ → ℕ → Bool
in_list set n = list_any (λ d. d == n) (filter (has_digit set) counts)

each_in : all_below 512 (λ set. agree_below (in_list set) (has_digit set) 9) ≡ true
each_in = refl

in_is : (set n : ℕ) → set < 512 → n < 9 → in_list set n ≡ has_digit set n
in_is set n h l =
    agree_below_at (in_list set) (has_digit set) 9 n (all_below_at 512 (λ s. agree_below (in_list s) (has_digit s) 9) set each_in h) l

-- the number of live neighbours
ones_step : (n : ℕ) → (n == 1) ≡ nat_eq 1 n
ones_step n = grind (arith, nat_tests)

ones_are : (around : List ℕ) → count_by (λ state. state == 1) around ≡ live_in around
ones_are around = λ i. count_by (λ state. ones_step state i) around

not_both : (n : ℕ) → (n == 0) ≡ true → (n == 1) ≡ false
not_both n h = grind (arith, nat_tests)

-- by the state, the live neighbours and the sets
by_count : (births survivals state count : ℕ) → births < 512 → survivals < 512 → count < 9
    → cond {A = ℕ} (list_any (λ n. n == count)
    (cond (state == 0) (filter (has_digit births) counts) (cond (state == 1) (filter (has_digit survivals) counts) []))) 1 0
    ≡ next_by_count (record { births = births; survivals = survivals }) state count
by_count births survivals state count h l few = by (state == 0) (state == 1) (not_both state)
  where
    by : (z o : Bool) → (z ≡ true → o ≡ false)
        → cond {A = ℕ} (list_any (λ n. n == count) (cond z (filter (has_digit births) counts) (cond o (filter (has_digit survivals) counts) []))) 1 0
        ≡ cond ((z && has_digit births count) || (o && has_digit survivals count)) 1 0
    by true true e = let f = e refl in cc
    by true false e = ap (λ v. cond v 1 0) (in_is births count h few) ∙ plain (has_digit births count)
      where
        plain : (v : Bool) → cond {A = ℕ} v 1 0 ≡ cond (v || false) 1 0
        plain true = refl
        plain false = refl
    by false true e = ap (λ v. cond v 1 0) (in_is survivals count l few)
    by false false e = refl

few_ones : (around : List ℕ) → length around ≤ 8 → count_by (λ state. state == 1) around < 9
few_ones around h = let l = count_by-le-length (λ state. state == 1) around in omega (arith, l)

-- the next state of a cell
pub next_is : (rule : OuterTotalistic) → IsLifeRule rule → (cell : ℤ → ℤ → ℕ) (x y : ℤ)
    → claimed_next_life (most_neighbours rule.near) (filter (has_digit rule.sets.births) counts) (filter (has_digit rule.sets.survivals) counts) cell x y
    ≡ layer_next rule cell x y
next_is rule valid cell x y = by rule.near (set_below_512 rule.near rule.sets.births valid.births) (set_below_512 rule.near rule.sets.survivals valid.survivals)
  where
    by : (near : Near) → rule.sets.births < 512 → rule.sets.survivals < 512
        → claimed_next_life (most_neighbours near) (filter (has_digit rule.sets.births) counts) (filter (has_digit rule.sets.survivals) counts) cell x y
        ≡ next_by_count rule.sets (cell x y) (live_in (counted_around near cell x y))
    by Moore h l =
        by_count rule.sets.births rule.sets.survivals (cell x y) _ h l (few_ones (layer_eight cell x y) (omega arith))
        ∙ ap (next_by_count rule.sets (cell x y)) (ones_are (layer_eight cell x y))
    by VonNeumann h l =
        by_count rule.sets.births rule.sets.survivals (cell x y) _ h l (few_ones (layer_four cell x y) (omega arith))
        ∙ ap (next_by_count rule.sets (cell x y)) (ones_are (layer_four cell x y))
