-- What a line gives by counts at a site, over the slices that are read there: the inputs, and what comes after the first of them and of the cells.
use Rattle.std.proofs.Common.{◌≡◌, ◌≢◌, ℕ, ◌+◌, ◌-◌, ◌<◌, ◌≤◌, ◌∷◌, List, true, map, take, drop, length, get_or, ap, sym, ◌∙◌, subst, arith, length-drop, Some, None, All, IsTrue}
use Rattle.std.specs.Int.{bit_at}
use Rattle.std.specs.List.{list_any}
use Rattle.life_table.specs.Meaning.{GivesByCounts, state_of, count_of}
use Rattle.life_table.specs.Found.{IsFoundOf}
use Rattle.life_table.specs.Seen.{places}
use Rattle.life_table.specs.Site.{IsSite, IsLineAt, centre_of, others_of}
use Rattle.life_table.specs.Taking.{free_count, can_be_state, settled_state, settled_count, IsGrouped, IsSearch, Completes, CompletesWith}
use Rattle.life_table.specs.Valid.{IsEntry, is_variable}
use Rattle.life_table.proofs.Pairing.{some_place, some_entry}
use Rattle.life_table.proofs.Grouping.{are_groups}
use Rattle.life_table.proofs.Deciding.{too_many, from_gives, gives_settled, gives_open, shape_of, rest_of, rest_entries}
use Rattle.life_table.specs.declared.found.Found.{Found}
use Rattle.life_table.specs.declared.found.Found.TheVariants.{One}
use Rattle.life_table.specs.declared.groups.Group.{Group}
use Rattle.life_table.specs.declared.site.Site.{Site}
use Rattle.life_table.specs.declared.table.Entry.{Entry}
use Rattle.life_table.specs.declared.table.Entry.TheVariants as entries
use Rattle.life_table.specs.declared.table.Transition.{Transition}

-- the slice after the first
abbrev behind : {X : Type 0} → List X → List X
behind xs = take (length xs - 1) (drop 1 xs)

abbrev first_of : List Entry → Entry
first_of inputs = get_or inputs 0 (entries.Fixed 0)

abbrev GivesAt : Site → Transition → ℕ → Type 0
GivesAt site line s = GivesByCounts site.vars.now line (centre_of site) (others_of site) s

module _ (site : Site) (line : Transition) (is_site : IsSite site) (is_line : IsLineAt site line) (inputs : List Entry) (same : inputs ≡ line.inputs) where
  pub shape : line.inputs ≡ first_of inputs ∷ behind inputs
  shape = shape_of inputs line.inputs same (omega (arith, is_line.count, is_site.some))

  pub rest_are : All (IsEntry 256 site.vars.now) (behind inputs)
  rest_are = rest_entries (IsEntry 256 site.vars.now) line.inputs (first_of inputs) (behind inputs) shape is_line.inputs

  -- a line that gives a state has a neighbour for each input, and an input for each neighbour
  pub takes_all : (s : ℕ) → GivesAt site line s →
      ((i : ℕ) → i < length (behind inputs) → places site.seen.now (get_or (behind inputs) i (entries.Fixed 0)) ≢ 0)
      × ((k : ℕ) → k < 16 → (i : ℕ) × (i < length (behind inputs)) × (bit_at (places site.seen.now (get_or (behind inputs) i (entries.Fixed 0))) k ≡ 1))
  takes_all s g =
      let size : length (others_of site) ≡ length site.cells.now - 1 = length-drop 1 site.cells.now in
      let few : length (others_of site) ≤ 8 = omega (arith, size, is_site.space) in
      let counts : (t : ℕ) → count_of t (map (state_of g.choice) (behind inputs)) ≡ count_of t (others_of site) =
      λ t. ap (λ es. count_of t (map (state_of g.choice) (drop 1 es))) (sym shape) ∙ g.counts t in (
        some_place site.vars.now g.choice g.is_choice (behind inputs) (others_of site) site.seen.now rest_are few is_site.seen counts,
        some_entry site.vars.now g.choice g.is_choice (behind inputs) (others_of site) site.seen.now rest_are few is_site.seen counts
            (omega (arith, size, is_site.some)),
      )

  -- the settled inputs are too many
  pub too_many_at : (t : ℕ) → count_of t (behind site.cells.now) < settled_count (first_of inputs) (centre_of site) t (behind inputs) → (s : ℕ) →
      GivesAt site line s → ⊥
  too_many_at t few =
      subst (λ (others : List ℕ). (s : ℕ) → GivesByCounts site.vars.now line (centre_of site) others s → ⊥) (rest_of site.cells.now)
      (too_many site.vars.now line (first_of inputs) (behind inputs) shape (centre_of site) (behind site.cells.now) t few)

  module _ (groups : List Group) (grouped : IsGrouped (first_of inputs) line.output (behind inputs) groups) where
    -- they can be searched
    pub search_at : length groups ≤ 9 → IsSearch site.vars.now groups (behind site.cells.now)
    search_at few = record {
      size = omega (arith, ap length (rest_of site.cells.now), length-drop 1 site.cells.now, is_site.space);
      are_groups = are_groups site.vars.now (first_of inputs) line.output (behind inputs) groups rest_are
          (λ i is. subst (λ es. IsTrue (list_any (is_variable i) es)) shape (is_line.bound i is)) grouped;
      few = few;
      choosable = is_site.choosable;
    }

    module _ (free : ℕ)
        (left : (t : ℕ) → settled_count (first_of inputs) (centre_of site) t (behind inputs) + free_count t free (behind site.cells.now)
        ≡ count_of t (behind site.cells.now)) where
      -- the groups take the free places
      pub completes_at : (s : ℕ) → GivesAt site line s → Completes site.vars.now groups (behind site.cells.now) free
      completes_at =
          subst (λ (others : List ℕ). (s : ℕ) → GivesByCounts site.vars.now line (centre_of site) others s →
          Completes site.vars.now groups (behind site.cells.now) free) (rest_of site.cells.now)
          (from_gives site.vars.now line (first_of inputs) (behind inputs) shape (centre_of site) (behind site.cells.now) groups free grouped left)

      -- where the output is settled
      pub gives_settled_at : can_be_state site.vars.now (first_of inputs) (centre_of site) ≡ true → (o : ℕ) →
          settled_state (first_of inputs) (centre_of site) line.output ≡ Some o →
          Completes site.vars.now groups (behind site.cells.now) free → IsFoundOf (GivesAt site line) (One o)
      gives_settled_at may o is c =
          subst (λ (others : List ℕ). IsFoundOf (GivesByCounts site.vars.now line (centre_of site) others) (One o)) (rest_of site.cells.now)
          (gives_settled site.vars.now line (first_of inputs) (behind inputs) shape (centre_of site) (behind site.cells.now) groups free grouped left
          may o is c)

      -- where the output is open
      pub gives_open_at : can_be_state site.vars.now (first_of inputs) (centre_of site) ≡ true → settled_state (first_of inputs) (centre_of site) line.output
          ≡ None →
          (found : Found) → IsFoundOf (CompletesWith site.vars.now groups (behind site.cells.now) free) found → IsFoundOf (GivesAt site line) found
      gives_open_at may is found h =
          subst (λ (others : List ℕ). IsFoundOf (GivesByCounts site.vars.now line (centre_of site) others) found) (rest_of site.cells.now)
          (gives_open site.vars.now line (first_of inputs) (behind inputs) shape (centre_of site) (behind site.cells.now) groups free grouped left
          may is found h)
