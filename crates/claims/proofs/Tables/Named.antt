-- What lines say in the layer, as types and values: the layer gives them no name outside.
use Rattle.std.proofs.Common.{[], Some, None, Result, Ok, Err, codes}
use Rattle.life_table.specs.Reader.{parsed_after, nothing_parsed}
use Rattle.life_table.specs.Reading.{parse_ahead, parse_in_table, if_states, if_neighborhood, if_symmetry}
use Rattle.life_table.specs.declared.table.Neighborhood.TheVariants.{Moore}
use Rattle.life_table.specs.declared.table.Symmetry.TheVariants.{Identity}

abbrev TypeOf : {A : Type 0} → A → Type 0
TypeOf {A} a = A

abbrev OkOf : {A E : Type 0} → Result A E → Type 0
OkOf {A} {E} r = A

abbrev IsRight : {A E : Type 0} → Result A E → Type 0
IsRight (Ok a) = Unit {0}
IsRight (Err e) = ⊥

abbrev from_ok : {A E : Type 0} → (r : Result A E) → IsRight r → A
from_ok (Ok a) h = a
from_ok (Err e) h = absurd h

-- what lines say, where they stand, and what one more says
abbrev pub Parsed : Type 0
Parsed = TypeOf nothing_parsed

abbrev pub Place : Type 0
Place = TypeOf nothing_parsed.section

abbrev pub Directive : Type 0
Directive = OkOf (parse_ahead None [])

-- before the table, in it and after it
abbrev pub before_table : Place
before_table = nothing_parsed.section

abbrev pub in_the_table : Place
in_the_table = (parsed_after nothing_parsed (from_ok (parse_ahead (Some []) (codes "@TABLE")) tt)).section

abbrev described : Parsed
described = parsed_after (parsed_after (parsed_after nothing_parsed (from_ok (if_states (Some 2)) tt)) (from_ok (if_neighborhood None (Some Moore)) tt))
    (from_ok (if_symmetry None (Some Identity)) tt)

abbrev pub behind_table : Place
behind_table = (parsed_after nothing_parsed (from_ok (parse_in_table described 1 (codes "@")) tt)).section
