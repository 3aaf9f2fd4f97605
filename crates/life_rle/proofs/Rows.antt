-- Worked examples of the definitions.
use Rattle.std.specs.List.{slice_get}
use Rattle.std.proofs.Common.{◌≡◌, subst, ℕ, ℤ, List, [], ◌∷◌, refl, inl, inr, pos, neg_ℤ, Some, None, Ok, Err, codes}
use Rattle.life_base.specs.declared.kind.Kind.TheVariants as kinds
use Rattle.life_base.specs.declared.kind.Kind.{Kind}
use Rattle.life_base.specs.declared.rule.Rule.{Rule}
use Rattle.life_base.specs.Rules.{rule_of, life_sets, four_sets, default_rule}
use Rattle.life_base.specs.Text.{lines_of}
use Rattle.life_rle.specs.States.{leading_state}
use Rattle.life_rle.specs.declared.item.Item.TheVariants.{Cells, RowEnds}
use Rattle.life_rle.specs.Items.{End, Mark, Spelled, Broken, next_of, Spells}
use Rattle.life_rle.specs.declared.position.Position.{Position}
use Rattle.life_rle.specs.Position.{position_of, default_position}
use Rattle.life_rle.specs.Pattern.{Rle, placed_items, placed_after, first_fault, rle_cell}
use Rattle.life_rle.specs.Runs.{runs_of}
use Rattle.life_rle.specs.Grammar.{IsPreamble, IsUnmarked, IsRle, BreaksRle, fault_after, by_text, by_item, opening_of, later_of}
use Rattle.life_rle.specs.declared.line.Opening.TheVariants.{PositionLine, Header}
use Rattle.life_rle.specs.declared.line.Later.TheVariants.{Data}
use Rattle.life_rle.proofs.Progress.{header-IsUnmarked}
use Rattle.life_rle.proofs.ReadSteps.{items_read, last_read, line-Spells}
use Rattle.life_base.specs.declared.cell.TheConstants.{MAX_LEVEL}

abbrev b3s23 : Rule
b3s23 = default_rule

rule_b3s23 : rule_of (codes "B3/S23") ≡ Ok b3s23
unfolding rule_of life_sets four_sets
rule_b3s23 = refl

rule_23_3 : rule_of (codes "23/3") ≡ Ok b3s23
unfolding rule_of life_sets four_sets
rule_23_3 = refl

-- a glider's five cells, with `!`
abbrev glider : Rle
glider = record { rule = b3s23; position = default_position; items = Cells 1 0 ∷ Cells 1 1 ∷ RowEnds 1 ∷ Cells 2 0 ∷ Cells 1 1 ∷ RowEnds 1 ∷ Cells 3 1 ∷ [] }

glider-Spells : Spells MAX_LEVEL (codes "bo$2bo$3o!") glider.items Mark
glider-Spells = line-Spells MAX_LEVEL 7 (codes "bo$2bo$3o!")

glider-IsRle : IsRle MAX_LEVEL (lines_of (codes "x = 3, y = 3, rule = B3/S23\nbo$2bo$3o!\n")) glider
unfolding rule_of life_sets four_sets
glider-IsRle = inr (record {
  prefix = codes "x = 3, y = 3, rule = B3/S23" ∷ [];
  last = codes "bo$2bo$3o!";
  free = [];
  whole = refl;
  earlier = [];
  final = glider.items;
  items = refl;
  begun = header-IsUnmarked MAX_LEVEL [] default_position (codes "x = 3, y = 3, rule = B3/S23") b3s23 refl refl;
  marked = inr (refl, glider-Spells);
  sound = refl;
})

glider-runs : runs_of (placed_items glider) ≡ record { x = pos 1; y = pos 0; len = 1; state = 1 } ∷ record { x = pos 2; y = pos 1; len = 1; state = 1 }
    ∷ record { x = pos 0; y = pos 2; len = 3; state = 1 } ∷ []
glider-runs = refl

glider-cell : rle_cell glider (pos 2) (pos 1) ≡ 1
glider-cell = refl

glider-cell_dead : rle_cell glider (pos 1) (pos 1) ≡ 0
glider-cell_dead = refl

-- a position line
far_left : position_of MAX_LEVEL (codes "#CXRLE Pos=-4,0") ≡ Ok (record { x = neg_ℤ (pos 4); y = pos 0; generation = 0 })
far_left = refl

late : opening_of MAX_LEVEL (codes "#CXRLE Pos=-1,-1 Gen=7") ≡ Ok (PositionLine (record { x = neg_ℤ (pos 1); y = neg_ℤ (pos 1); generation = 7 }))
late = refl

outside : opening_of MAX_LEVEL (codes "#CXRLE Pos=2305843009213693952,0") ≡ Err kinds.OutOfPlane
outside = refl

far_right : opening_of MAX_LEVEL (codes "#CXRLE Pos=576460752303423488,0")
    ≡ Ok (PositionLine (record { x = pos 576460752303423488; y = pos 0; generation = 0 }))
far_right = refl

too_old : opening_of MAX_LEVEL (codes "#CXRLE Gen=18446744073709551616") ≡ Err kinds.TooLarge
too_old = refl

cut_corner : opening_of MAX_LEVEL (codes "#CXRLE Pos=-1,") ≡ Err kinds.BadNumber
cut_corner = refl

-- of several fields of one name the last counts, and of several lines the last as a whole
abbrev corner_and_generation : ℤ → ℤ → ℕ → Position
corner_and_generation x y n = record { x = x; y = y; generation = n }

last_fields : position_of MAX_LEVEL (codes "#CXRLE\tPos=1,2 Gen=5 Pos=-3,4\r") ≡ Ok (corner_and_generation (neg_ℤ (pos 3)) (pos 4) 5)
last_fields = refl

last_line : IsPreamble MAX_LEVEL default_position (codes "#CXRLE Pos=1,2" ∷ codes "#CXRLEfoo Pos=z" ∷ codes "#CXRLE Gen=3" ∷ [])
    (corner_and_generation (pos 0) (pos 0) 3)
last_line = inr (corner_and_generation (pos 1) (pos 2) 0, refl, inl (refl, inr (corner_and_generation (pos 0) (pos 0) 3, refl, refl)))

no_fields : position_of MAX_LEVEL (codes "#CXRLE") ≡ Ok default_position
no_fields = refl

other_fields : position_of MAX_LEVEL (codes "#CXRLE pos=z Pos Gen = ,") ≡ Ok default_position
other_fields = refl

form_first : position_of MAX_LEVEL (codes "#CXRLE Pos=2305843009213693952,z") ≡ Err kinds.BadNumber
form_first = refl

two_commas : position_of MAX_LEVEL (codes "#CXRLE Pos=1,2,3") ≡ Err kinds.BadNumber
two_commas = refl

left_to_right : position_of MAX_LEVEL (codes "#CXRLE Gen=18446744073709551616 Pos=z") ≡ Err kinds.TooLarge
left_to_right = refl

least_corner : position_of MAX_LEVEL (codes "#CXRLE Pos=-2305843009213693952,-000") ≡ Ok (corner_and_generation (neg_ℤ (pos 2305843009213693952)) (pos 0) 0)
least_corner = refl

past_least : position_of MAX_LEVEL (codes "#CXRLE Pos=0,-2305843009213693953") ≡ Err kinds.OutOfPlane
past_least = refl

-- headers
no_rule : opening_of MAX_LEVEL (codes "x = 1, y = 1") ≡ Ok (Header b3s23)
no_rule = refl

tight : opening_of MAX_LEVEL (codes "x=1,y=1,rule=B3/S23 ") ≡ Ok (Header b3s23)
unfolding rule_of life_sets four_sets
tight = refl

cut_rule : opening_of MAX_LEVEL (codes "x = 2, y = 1, rule") ≡ Err kinds.BadHeader
cut_rule = refl

empty_rule : opening_of MAX_LEVEL (codes "x = 2, y = 1, rule = ") ≡ Err kinds.BadRule
unfolding rule_of life_sets four_sets
empty_rule = refl

bounded : opening_of MAX_LEVEL (codes "x = 0, y = 0, rule = B3/S23:T30,20") ≡ Err kinds.BoundedGrid
unfolding rule_of life_sets four_sets
bounded = refl

no_header : opening_of MAX_LEVEL (codes "y = 3") ≡ Err kinds.NoHeader
no_header = refl

second : later_of (codes "x = 1, y = 1") ≡ Err kinds.SecondHeader
second = refl

indented_header : opening_of MAX_LEVEL (codes " x = 1, y = 1") ≡ Err kinds.NoHeader
indented_header = refl

cut_number : opening_of MAX_LEVEL (codes "x = 1 0, y = 1") ≡ Err kinds.BadHeader
cut_number = refl

data_x : later_of (codes "xA!") ≡ Ok Data
data_x = refl

indented_second : later_of (codes " x = 1, y = 1") ≡ Ok Data
indented_second = refl

tabbed_second : later_of (codes "x\t= 1, y = 1") ≡ Ok Data
tabbed_second = refl

late_position : later_of (codes "#CXRLE Gen=1") ≡ Err kinds.LateHeader
late_position = refl

-- states
last_state : leading_state (codes "yO!") ≡ Some (255, codes "!")
last_state = refl

past_last : leading_state (codes "yP!") ≡ None
past_last = refl

prefixed_x : leading_state (codes "xA!") ≡ Some (217, codes "!")
prefixed_x = refl

capital_o : leading_state (codes "O") ≡ Some (15, [])
capital_o = refl

cut_prefix : leading_state (codes "p") ≡ None
cut_prefix = refl

behind_prefixes : leading_state (codes "zA") ≡ None
behind_prefixes = refl

-- what stands in an item's place
only_space : next_of MAX_LEVEL (codes " \t\r") ≡ End
only_space = refl

zeros : next_of MAX_LEVEL (codes "000z") ≡ Broken kinds.ZeroCount
zeros = refl

greatest_count : next_of MAX_LEVEL (codes "4611686018427387904$o") ≡ Spelled (RowEnds 4611686018427387904) (codes "o")
greatest_count = refl

broken_prefix : next_of MAX_LEVEL (codes "p A") ≡ Broken kinds.BadItem
broken_prefix = refl

-- three dead cells and two live ones, two rows down three live ones and a dead one
abbrev two_rows : Rle
two_rows = record {
  rule = b3s23;
  position = corner_and_generation (neg_ℤ (pos 4)) (pos 7) 0;
  items = Cells 3 0 ∷ Cells 2 1 ∷ RowEnds 2 ∷ Cells 3 1 ∷ Cells 1 0 ∷ [];
}

dead_run : slice_get (placed_items two_rows) 0 ≡ Some (record { row = pos 7; column = neg_ℤ (pos 4); item = Cells 3 0 })
dead_run = refl

behind_dead_run : slice_get (placed_items two_rows) 1 ≡ Some (record { row = pos 7; column = neg_ℤ (pos 1); item = Cells 2 1 })
behind_dead_run = refl

behind_row_ends : slice_get (placed_items two_rows) 3 ≡ Some (record { row = pos 9; column = neg_ℤ (pos 4); item = Cells 3 1 })
behind_row_ends = refl

last_of_run : rle_cell two_rows (pos 0) (pos 7) ≡ 1
last_of_run = refl

past_run : rle_cell two_rows (pos 1) (pos 7) ≡ 0
past_run = refl

between_rows : rle_cell two_rows (neg_ℤ (pos 4)) (pos 8) ≡ 0
between_rows = refl

-- faults of a line after a header
abbrev blank : Rle
blank = record { rule = b3s23; position = default_position; items = [] }

blank-IsUnmarked : IsUnmarked MAX_LEVEL (codes "x = 1, y = 1, rule = B3/S23" ∷ []) blank
unfolding rule_of life_sets four_sets
blank-IsUnmarked = header-IsUnmarked MAX_LEVEL [] default_position (codes "x = 1, y = 1, rule = B3/S23") b3s23 refl refl

-- what breaks a line of items after this header, where an item should stand
broken_text : (n : ℕ) (line : List ℕ) (kind : Kind) → later_of line ≡ Ok Data → last_read MAX_LEVEL n (next_of MAX_LEVEL line) ≡ Broken kind
    → first_fault MAX_LEVEL b3s23 (placed_after default_position [] (items_read MAX_LEVEL n (next_of MAX_LEVEL line))) ≡ None
    → BreaksRle MAX_LEVEL (codes "x = 1, y = 1, rule = B3/S23" ∷ []) line kind
broken_text n line kind form last sound = by_text blank (items_read MAX_LEVEL n (next_of MAX_LEVEL line)) blank-IsUnmarked form
    (subst (Spells MAX_LEVEL line (items_read MAX_LEVEL n (next_of MAX_LEVEL line))) last (line-Spells MAX_LEVEL n line)) sound

state_range : BreaksRle MAX_LEVEL (codes "x = 1, y = 1, rule = B3/S23" ∷ []) (codes "B!") kinds.StateRange
state_range = by_item blank [] (Cells 1 2) (codes "!") blank-IsUnmarked refl refl refl refl

zero_count : BreaksRle MAX_LEVEL (codes "x = 1, y = 1, rule = B3/S23" ∷ []) (codes "0o!") kinds.ZeroCount
zero_count = broken_text 3 (codes "0o!") _ refl refl refl

counted_mark : BreaksRle MAX_LEVEL (codes "x = 1, y = 1, rule = B3/S23" ∷ []) (codes "3!") kinds.BadItem
counted_mark = broken_text 3 (codes "3!") _ refl refl refl

split_count : BreaksRle MAX_LEVEL (codes "x = 1, y = 1, rule = B3/S23" ∷ []) (codes "2 o!") kinds.BadItem
split_count = broken_text 3 (codes "2 o!") _ refl refl refl

large_count : BreaksRle MAX_LEVEL (codes "x = 1, y = 1, rule = B3/S23" ∷ []) (codes "4611686018427387905b!") kinds.TooLarge
large_count = broken_text 3 (codes "4611686018427387905b!") _ refl refl refl

cut_count : BreaksRle MAX_LEVEL (codes "x = 1, y = 1, rule = B3/S23" ∷ []) (codes "bo$2") kinds.BadItem
cut_count = broken_text 4 (codes "bo$2") _ refl refl refl

-- at the last row a row end is accepted, and a second one or a cell after it isn't
abbrev at_bottom : Rle
at_bottom = record { rule = b3s23; position = record { x = pos 0; y = pos 2305843009213693951; generation = 0 }; items = [] }

one_end : fault_after MAX_LEVEL at_bottom [] (RowEnds 1) ≡ None
one_end = refl

two_ends : fault_after MAX_LEVEL at_bottom [] (RowEnds 2) ≡ Some kinds.OutOfPlane
two_ends = refl

-- at the last column one cell of any state is accepted, and a second one isn't; after a row end the column is the corner's
abbrev at_right : Rle
at_right = record { rule = b3s23; position = corner_and_generation (pos 2305843009213693951) (pos 0) 0; items = [] }

last_column : fault_after MAX_LEVEL at_right [] (Cells 1 1) ≡ None
last_column = refl

dead_column : fault_after MAX_LEVEL at_right (Cells 1 1 ∷ []) (Cells 1 0) ≡ Some kinds.OutOfPlane
dead_column = refl

next_row : fault_after MAX_LEVEL at_right (Cells 1 1 ∷ RowEnds 1 ∷ []) (Cells 1 1) ≡ None
next_row = refl

below : fault_after MAX_LEVEL at_bottom (RowEnds 1 ∷ []) (Cells 1 0) ≡ Some kinds.OutOfPlane
below = refl
