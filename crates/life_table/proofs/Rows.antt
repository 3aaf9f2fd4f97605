-- Worked examples of the `.rule` format, computed.
use Rattle.std.proofs.Common.{◌≡◌, ℕ, ◌^◌, List, [], ◌∷◌, ◌++◌, map, take, length, replicate, codes, Option, Some, None, refl}
use Rattle.std.specs.List.{range_with_len, slice_index_or}
use Rattle.life_base.specs.Text.{numbered_from}
use Rattle.life_base.specs.Rules.{rule_of, life_sets, four_sets}
use Rattle.life_base.specs.declared.kind.Kind.{Kind}
use Rattle.life_base.specs.declared.kind.Kind.TheVariants.{NoRuleLine, NoTable, BadDescriptor, UnsupportedNeighborhood, UnsupportedSymmetry, BadVariable, BadTransition, UnboundOutput, NotQuiet}
use Rattle.life_table.specs.Reading.{broken_table_rule, missing_table_part, parsed_by, parse_line, parse_descriptor, name_of, section_of, table_texts, entry_of, states_listed, entries_of, variable_states, variable_of, transition_of}
use Rattle.life_table.specs.declared.directive.Parsed.{Parsed}
use Rattle.life_table.specs.declared.directive.Section.TheVariants.{Open, Behind}
use Rattle.life_table.specs.declared.table.Neighborhood.TheVariants.{VonNeumann}
use Rattle.life_table.specs.declared.table.Symmetry.TheVariants as symmetries
use Rattle.life_table.specs.declared.table.Entry.TheVariants.{Fixed}
use Rattle.life_table.specs.declared.table.Entry.TheVariants as entries
use Rattle.life_table.specs.declared.table.Transition.{Transition}

-- the rule that each line breaks, if it breaks one
abbrev faults : List (List ℕ) → List (Option Kind)
faults lines = map (λ k. broken_table_rule (take k lines) (slice_index_or lines k [])) (range_with_len 0 (length lines))

-- a fault of the line after this many lines
abbrev after : ℕ → Kind → List (Option Kind)
after n kind = replicate n None ++ Some kind ∷ []

abbrev says : List (List ℕ) → Parsed
says lines = parsed_by (numbered_from 1 lines)

-- the head of the table that spreads states to the neighbours
abbrev head : List (List ℕ)
head = codes "@RULE Spread" ∷ codes "@TABLE" ∷ codes "n_states:3" ∷ codes "neighborhood:vonNeumann" ∷ codes "symmetries:rotate4" ∷ []

abbrev spread : List (List ℕ)
spread = head ++ codes "var a={1,2}" ∷ codes "0,a,0,0,0,a" ∷ []

abbrev a_line : Transition
a_line = record { line = 7; inputs = Fixed 0 ∷ entries.Var 0 ∷ Fixed 0 ∷ Fixed 0 ∷ Fixed 0 ∷ []; output = entries.Var 0 }

-- what a text says, and what whitespace, comments and sections after the table change in it
abbrev spread_table : Parsed
spread_table = record {
  name = Some (codes "Spread");
  section = Open;
  n_states = Some 3;
  neighborhood = Some VonNeumann;
  symmetry = Some symmetries.Rotate4;
  vars = record { name = codes "a"; states = 6 ∷ 0 ∷ 0 ∷ 0 ∷ [] } ∷ [];
  lines = a_line ∷ [];
}

abbrev said_rows : List (List (List ℕ) × Parsed)
said_rows =
    (spread, spread_table) ∷
    (head ++ codes "var a={1,2}" ∷ codes "0a000a" ∷ [], spread_table) ∷
    (head ++ codes " var  a = { 1 , 2 } # two states" ∷ codes "  0 , a , 0,0 ,0, a# a:b" ∷ [], spread_table) ∷
    (spread ++ codes "@COLORS" ∷ codes "0 0 0" ∷ codes "@TABLE" ∷ codes "junk" ∷ codes "n_states:9" ∷ [], record spread_table { section = Behind }) ∷
    []

said_as_written : map (λ row. says row.0) said_rows ≡ map (λ row. row.1) said_rows
unfolding parse_line parse_descriptor name_of section_of table_texts entry_of states_listed entries_of variable_states variable_of transition_of
    rule_of life_sets four_sets
said_as_written = refl

-- states 64 and 255
high_states : (says (codes "@RULE A" ∷ codes "@TABLE" ∷ codes "n_states:256" ∷ codes "neighborhood:Moore" ∷ codes "symmetries:permute" ∷ codes "var h={64,255}"
    ∷ [])).vars ≡ record { name = codes "h"; states = 0 ∷ 1 ∷ 0 ∷ 2 ^ 63 ∷ [] } ∷ []
unfolding parse_line parse_descriptor name_of section_of table_texts entry_of states_listed entries_of variable_states variable_of transition_of
    rule_of life_sets four_sets
high_states = refl

-- texts, and which rule each of their lines breaks
abbrev fault_rows : List (List (List ℕ) × List (Option Kind))
fault_rows =
    (spread, replicate 7 None) ∷
    -- a colon in a comment
    (head ++ codes "var a={1,2}" ∷ codes "0,a,0,0,0,a # a:b" ∷ [], replicate 7 None) ∷
    (head ++ codes "var a={1,3}" ∷ [], after 5 BadVariable) ∷
    (head ++ codes "var a={1,2}" ∷ codes "0,0,0,0,0,1" ∷ [], after 6 NotQuiet) ∷
    -- an earlier line keeps the dead cell
    (head ++ codes "0,0,0,0,0,0" ∷ codes "0,0,0,0,0,1" ∷ [], replicate 7 None) ∷
    (head ++ codes "var a={1,2}" ∷ codes "var b={a}" ∷ codes "0,a,0,0,0,b" ∷ [], after 7 UnboundOutput) ∷
    (head ++ codes "var a={1,2}" ∷ codes "0,a,0,0,a" ∷ [], after 6 BadTransition) ∷
    -- a variable is used after its own line alone
    (head ++ codes "0,a,0,0,0,a" ∷ codes "var a={1,2}" ∷ [], after 5 BadTransition ++ None ∷ []) ∷
    -- a carriage return is whitespace, around an entry and not in it
    (head ++ (codes "0,0,0" ++ 13 ∷ codes ",0,0,0") ∷ (codes "0,0 0" ++ 13 ∷ codes "0,0,0,0") ∷ [], after 6 BadTransition) ∷
    (codes "@RULE A" ∷ codes "@TABLE" ∷ codes "neighborhood:hexagonal" ∷ [], after 2 UnsupportedNeighborhood) ∷
    (codes "@RULE A" ∷ codes "@TABLE" ∷ codes "symmetries:rotate8" ∷ codes "neighborhood:vonNeumann" ∷ [], after 3 UnsupportedSymmetry) ∷
    (codes "@RULE A" ∷ codes "@TABLE" ∷ codes "symmetries:rotate3" ∷ [], after 2 UnsupportedSymmetry) ∷
    (codes "@RULE A" ∷ codes "@TABLE" ∷ codes "n_states:2" ∷ codes "neighborhood:Moore" ∷ codes "@COLORS" ∷ [], after 4 BadDescriptor) ∷
    -- a missing descriptor comes before the faults of the transition
    (codes "@RULE A" ∷ codes "@TABLE" ∷ codes "n_states:2" ∷ codes "0,0,9" ∷ [], after 3 BadDescriptor) ∷
    (codes "@RULE A" ∷ codes "@TABLE" ∷ codes "n_states:2" ∷ codes "n_states:x" ∷ [], after 3 BadDescriptor) ∷
    (head ++ codes "0,0,0,0,0,0" ∷ codes "n_states:3" ∷ [], after 6 BadDescriptor) ∷
    -- a second table is passed over
    (spread ++ codes "@COLORS" ∷ codes "0 0 0" ∷ codes "@TABLE" ∷ codes "junk" ∷ codes "n_states:9" ∷ [], replicate 12 None) ∷
    -- rules of the B/S forms are no names
    (codes "@RULE B3/S23" ∷ [], after 0 NoRuleLine) ∷
    (codes "@RULE B3S23" ∷ [], after 0 NoRuleLine) ∷
    (codes "@RULE BS" ∷ [], after 0 NoRuleLine) ∷
    (codes "@RULE s23b3" ∷ [], after 0 NoRuleLine) ∷
    (codes "@RULE B0S1" ∷ [], after 0 NoRuleLine) ∷
    (codes "@RULE B3S23V" ∷ [], after 0 NoRuleLine) ∷
    []

faults_are_found : map (λ row. faults row.0) fault_rows ≡ map (λ row. row.1) fault_rows
unfolding broken_table_rule parse_line parse_descriptor name_of section_of table_texts entry_of states_listed entries_of variable_states variable_of
    transition_of rule_of
    life_sets four_sets
faults_are_found = refl

-- texts, and what is missing at their end
abbrev missing_rows : List (List (List ℕ) × Option Kind)
missing_rows =
    (spread, None) ∷
    ([], Some NoRuleLine) ∷
    (codes "@RULE A" ∷ [], Some NoTable) ∷
    (codes "@RULE A" ∷ codes "@TABLE" ∷ [], Some BadDescriptor) ∷
    []

missing_is_found : map (λ row. missing_table_part row.0) missing_rows ≡ map (λ row. row.1) missing_rows
unfolding missing_table_part parse_line parse_descriptor name_of section_of table_texts entry_of states_listed entries_of variable_states variable_of
    transition_of rule_of
    life_sets four_sets
missing_is_found = refl
