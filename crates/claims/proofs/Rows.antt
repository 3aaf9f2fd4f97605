-- The definitions at worked examples, by computation.
use Rattle.std.proofs.Common.{◌≡◌, ℕ, zero, suc, ℤ, ◌+◌, ◌^◌, ◌<◌, List, [], ◌∷◌, ◌++◌, length, map, refl, pos, neg_ℤ, Bool, true, false, cond, codes, replicate, ◌==◌, Option, Some, None, Result, Ok, Err}
use Rattle.std.specs.Fmt.{digits}
use Rattle.life_base.specs.declared.bounds.Bounds.{Bounds}
use Rattle.life_base.specs.declared.cell.Cell.{Cell}
use Rattle.life_base.specs.declared.fault.Fault.{Fault}
use Rattle.life_base.specs.declared.kind.Kind.{Kind}
use Rattle.life_base.specs.declared.kind.Kind.TheVariants as kinds
use Rattle.claims.specs.Outcomes.{◌>>=◌}
use Rattle.claims.specs.Rules.{Rule, counting, named, claimed_rule_of, claimed_digits_of, claimed_rule_text}
use Rattle.claims.specs.Pattern.{Pattern}
use Rattle.claims.specs.Macrocell.{ClaimedMacrocell, first_line, with_macrocell_line}
use Rattle.claims.specs.Rle.{PositionFields, ClaimedRle, before_header, after_header, after_end, claimed_state_of, with_rle_line}
use Rattle.claims.specs.Files.{pattern_of, claimed_fault_at}
use Rattle.claims.specs.Generation.{claimed_next_life}
use Rattle.claims.specs.Shown.{box_line}
use Rattle.claims.specs.Canonical.{middle_square, claimed_square_text}
use Rattle.claims.specs.RleText.{box_lines}
use Rattle.life_base.proofs.Texts.{too_long}

abbrev b3s23 : Rule
b3s23 = counting 8 (3 ∷ []) (2 ∷ 3 ∷ [])

-- texts with the outcome that they share
abbrev Rows : Type 0 → Type 0
Rows Outcome = List (Outcome × List (List ℕ))

abbrev row : {Outcome : Type 0} → Outcome → List (List ℕ) → Outcome × List (List ℕ)
row outcome texts = (outcome, texts)

-- each text has the outcome of its row
abbrev Each : {Outcome : Type 0} → (List ℕ → Outcome) → Rows Outcome → Type 0
Each outcome rows = map (λ row. map outcome row.1) rows ≡ map (λ row. map (λ text. row.0) row.1) rows

-- ---- rules

-- the five forms, and a letter after the first two
abbrev form_rows : Rows (Result Rule Kind)
form_rows =
    row (Ok b3s23) (codes "B3/S23" ∷ codes "B3S23" ∷ codes "S23/B3" ∷ codes "S23B3" ∷ codes "23/3" ∷ codes "b3s23" ∷ codes "B33/S232" ∷ codes " S23/B3\t" ∷
    codes "s32B333" ∷ []) ∷
    row (Ok (counting 8 [] [])) (codes "B/S" ∷ codes "/" ∷ codes "BS" ∷ []) ∷
    row (Ok (counting 8 (1 ∷ 2 ∷ 3 ∷ 4 ∷ 5 ∷ 6 ∷ 7 ∷ 8 ∷ []) (0 ∷ 1 ∷ 2 ∷ 3 ∷ 4 ∷ 5 ∷ 6 ∷ 7 ∷ 8 ∷ []))) (codes "B876543218/S876543210" ∷ []) ∷
    row (Ok (counting 4 (3 ∷ []) (2 ∷ 3 ∷ []))) (codes "B3/S23V" ∷ []) ∷
    row (Ok (counting 4 (1 ∷ 3 ∷ []) (0 ∷ 2 ∷ []))) (codes "b31s20v" ∷ []) ∷
    row (Ok (counting 4 (4 ∷ []) (4 ∷ []))) (codes "B4/S4V" ∷ []) ∷
    []

forms_are_read : Each claimed_rule_of form_rows
unfolding claimed_rule_of claimed_digits_of
forms_are_read = refl

-- texts that name no rule
abbrev unruly_rows : Rows (Result Rule Kind)
unruly_rows =
    row (Err kinds.BadRule) (codes "" ∷ codes " \t\r" ∷ codes "B3 S23" ∷ codes "B 3:" ∷ (127 ∷ []) ∷ replicate 256 97 ∷ []) ∷
    row (Err kinds.BoundedGrid) (codes "B3/S23:T20" ∷ codes ":" ∷ []) ∷
    row (Err kinds.BirthOnZero) (codes "b012/s" ∷ codes "23/30" ∷ codes "B0/S1V" ∷ []) ∷
    row (Err kinds.UnsupportedRule) (codes "B05/S2V" ∷ codes "B3/S5v" ∷ codes "B3/S23H" ∷ codes "23/3h" ∷ codes "S23/B3V" ∷ codes "23/3V" ∷ codes "s23b3v" ∷
    codes "B1/S4VV" ∷ codes "B2-a/S12" ∷ codes "B2/" ∷ codes "B9/S1" ∷ codes "B3/23" ∷ codes "345/2/4" ∷ []) ∷
    []

unruly_are_refused : Each claimed_rule_of unruly_rows
unfolding claimed_rule_of claimed_digits_of
unruly_are_refused = refl

-- all others are names, kept byte for byte, without the blanks around them
abbrev names : List (List ℕ)
names =
    codes "B3" ∷ codes "V" ∷ codes "B2-aS12" ∷ codes "B3S23VV" ∷ codes "B9S1" ∷ codes "WireWorld" ∷ codes "w22" ∷ replicate 255 97 ∷ []

names_are_kept : map claimed_rule_of names ≡ map (λ name. Ok (named name)) names
unfolding claimed_rule_of claimed_digits_of
names_are_kept = refl

blanks_are_cut : claimed_rule_of (codes " Life\r") ≡ Ok (named (codes "Life"))
unfolding claimed_rule_of claimed_digits_of
blanks_are_cut = refl

-- the canonical text of the rule that a text names
abbrev rule_text_rows : Rows (Result (List ℕ) Kind)
rule_text_rows =
    row (Ok (codes "B3/S23")) (codes "23/3" ∷ codes "b3s23" ∷ codes "B33/S232" ∷ []) ∷
    row (Ok (codes "B13/S02V")) (codes "b31s20v" ∷ []) ∷
    row (Ok (codes "B/S")) (codes "/" ∷ []) ∷
    row (Ok (codes "Life")) (codes "Life" ∷ []) ∷
    []

rules_are_reported : Each (λ text. claimed_rule_of text >>= λ rule. Ok (claimed_rule_text rule)) rule_text_rows
unfolding claimed_rule_of claimed_digits_of
rules_are_reported = refl

-- ---- states of extended RLE

abbrev state_rows : Rows (Option ℕ)
state_rows =
    row (Some 0) (codes "b" ∷ codes "." ∷ []) ∷
    row (Some 1) (codes "o" ∷ codes "A" ∷ []) ∷
    row (Some 24) (codes "X" ∷ []) ∷
    row None (codes "Y" ∷ codes "a" ∷ codes "yP" ∷ codes "yX" ∷ codes "po" ∷ codes "oA" ∷ codes "zA" ∷ codes "" ∷ []) ∷
    row (Some 25) (codes "pA" ∷ []) ∷
    row (Some 48) (codes "pX" ∷ []) ∷
    row (Some 49) (codes "qA" ∷ []) ∷
    row (Some 217) (codes "xA" ∷ []) ∷
    row (Some 241) (codes "yA" ∷ []) ∷
    row (Some 255) (codes "yO" ∷ []) ∷
    []

states_are_read : Each claimed_state_of state_rows
states_are_read = refl

-- ---- files

-- what is seen of a pattern: its rule, its generation and the states of some cells
abbrev seen_at : List (ℤ × ℤ) → Result Pattern Fault → Result (Rule × ℕ × List ℕ) Fault
seen_at places (Ok pattern) = Ok (pattern.rule, pattern.generation, map (λ place. pattern.cell place.0 place.1) places)
seen_at places (Err fault) = Err fault

-- what is said by a file, or the line and the kind of one that is refused
abbrev Seen : Type 0
Seen = Result (Rule × ℕ × List ℕ) Fault

abbrev seen : List ℕ → Seen
seen bytes = seen_at [] (pattern_of bytes)

abbrev says : Rule → ℕ → Seen
says rule generation = Ok (rule, generation, [])

abbrev refused : ℕ → Kind → Seen
refused line kind = Err (claimed_fault_at line kind)

-- five cells of a glider, and three others
abbrev glider_places : List (ℤ × ℤ)
glider_places =
    (pos 2, pos 2) ∷ (pos 3, pos 3) ∷ (pos 1, pos 4) ∷ (pos 2, pos 4) ∷ (pos 3, pos 4) ∷ (pos 1, pos 2) ∷ (neg_ℤ (pos 1), pos 2) ∷ (pos 100, pos 2) ∷ []

-- a glider in a leaf, one level higher, after a comment and a generation
glider_in_leaf :
    seen_at glider_places (pattern_of (codes "[M2] (any)\n#C x\r\n#R 23/3\n#G 7\n$$..*$...*$.***$$$$\n\n4 0 0 0 1"))
    ≡ Ok (b3s23, 7, 1 ∷ 1 ∷ 1 ∷ 1 ∷ 1 ∷ 0 ∷ 0 ∷ 0 ∷ [])
unfolding pattern_of claimed_rule_of claimed_digits_of with_macrocell_line
glider_in_leaf = refl

-- the same glider in extended RLE
glider_in_rle :
    seen_at glider_places (pattern_of (codes "#CXRLE Pos=1,2 Gen=7\nx = 3, y = 3, rule = B3/S23\nbo$2bo\n$3o!"))
    ≡ Ok (b3s23, 7, 1 ∷ 1 ∷ 1 ∷ 1 ∷ 1 ∷ 0 ∷ 0 ∷ 0 ∷ [])
unfolding pattern_of claimed_rule_of claimed_digits_of with_rle_line
glider_in_rle = refl

-- one cell at (4, 0), as it is written
one_cell :
    seen_at ((pos 4, pos 0) ∷ (pos 3, pos 0) ∷ (pos 4, pos 1) ∷ (neg_ℤ (pos 4), pos 0) ∷ [])
    (pattern_of (codes "[M2] (canonical 1)\n#R B3/S23\n....*$$$$$$$$\n4 0 0 0 1\n"))
    ≡ Ok (b3s23, 0, 1 ∷ 0 ∷ 0 ∷ 0 ∷ [])
unfolding pattern_of claimed_rule_of claimed_digits_of with_macrocell_line
one_cell = refl

-- a leaf as the root has its middle at (0, 0)
leaf_root :
    seen_at ((neg_ℤ (pos 4), neg_ℤ (pos 4)) ∷ (neg_ℤ (pos 3), neg_ℤ (pos 4)) ∷ (pos 3, neg_ℤ (pos 3)) ∷ (pos 4, neg_ℤ (pos 3)) ∷ (pos 0, pos 0) ∷ [])
    (pattern_of (codes "[M2]\n*$.......*"))
    ≡ Ok (b3s23, 0, 1 ∷ 0 ∷ 1 ∷ 0 ∷ 0 ∷ [])
unfolding pattern_of claimed_rule_of claimed_digits_of with_macrocell_line
leaf_root = refl

-- squares of mixed levels, under a name
mixed :
    seen_at ((neg_ℤ (pos 2), neg_ℤ (pos 2)) ∷ (neg_ℤ (pos 1), neg_ℤ (pos 2)) ∷ (pos 0, pos 0) ∷ (pos 1, pos 0) ∷ (pos 1, pos 1) ∷ (pos 2, pos 2) ∷ [])
    (pattern_of (codes "[M2]\r\n#R WireWorld\n#G 3\n#G 4\n1 1 2 0 255\r\n2 1 0 0 1\n"))
    ≡ Ok (named (codes "WireWorld"), 4, 1 ∷ 2 ∷ 1 ∷ 2 ∷ 255 ∷ 0 ∷ [])
unfolding pattern_of claimed_rule_of claimed_digits_of with_macrocell_line
mixed = refl

-- a gun, in lines of data
gun :
    seen_at ((pos 24, pos 0) ∷ (pos 25, pos 0) ∷ (pos 0, pos 4) ∷ (pos 35, pos 3) ∷ (pos 12, pos 8) ∷ (pos 13, pos 8) ∷ [])
    (pattern_of (codes "x = 36, y = 9, rule = B3/S23\n24bo11b$22bobo11b$12b2o6b2o12b2o$11bo3bo4b2o12b2o$2o8bo5bo3b2o14b$2o8b\n"
    ++ codes "o3bob2o4bobo11b$10bo5bo7bo11b$11bo3bo20b$12b2o!\nany thing"))
    ≡ Ok (b3s23, 0, 1 ∷ 0 ∷ 1 ∷ 1 ∷ 1 ∷ 1 ∷ [])
unfolding pattern_of claimed_rule_of claimed_digits_of with_rle_line
gun = refl

-- states by letters, at a place west and north of (0, 0), with rows that are skipped
lettered :
    seen_at ((neg_ℤ (pos 3), neg_ℤ (pos 2)) ∷ (neg_ℤ (pos 2), neg_ℤ (pos 2)) ∷ (neg_ℤ (pos 3), pos 1) ∷ (neg_ℤ (pos 2), pos 1) ∷ (pos 0, pos 1) ∷ [])
    (pattern_of (codes "#CXRLE Pos=-3,-2\nx = 0, y = 0, rule = A\nC3$2pAyO!"))
    ≡ Ok (named (codes "A"), 0, 3 ∷ 0 ∷ 25 ∷ 25 ∷ 0 ∷ [])
unfolding pattern_of claimed_rule_of claimed_digits_of with_rle_line
lettered = refl

-- macrocell files
abbrev macrocell_rows : Rows Seen
macrocell_rows =
    -- the lines before the nodes
    row (says b3s23 0) (codes "[M2]" ∷ codes "[M2]foo\n" ∷ codes "[M2]\n#RB36/S23\n#G7\n#Rule\n#\n#r x" ∷ []) ∷
    row (says (counting 8 (3 ∷ 6 ∷ []) (2 ∷ 3 ∷ [])) 7) (codes "[M2]\n#R\tLife\n#R 23/36\r\n#G 5\n#G  007 \n" ∷ []) ∷
    row (says b3s23 18446744073709551615) (codes "[M2]\n#G 18446744073709551615" ∷ []) ∷
    row (refused 3 kinds.Timeline) (codes "[M2]\n#C\n#FRAMES 1" ∷ codes "[M2]\n*$\n#FRAMEWORK" ∷ []) ∷
    row (refused 3 kinds.LateHeader) (codes "[M2]\n*$\n#R :" ∷ []) ∷
    row (refused 4 kinds.LateHeader) (codes "[M2]\n*$\n\n#G x" ∷ []) ∷
    row (refused 2 kinds.BadRule) (codes "[M2]\n#R" ∷ codes "[M2]\n#R B3 S23\n#R B3/S23" ∷ []) ∷
    row (refused 2 kinds.BoundedGrid) (codes "[M2]\n#R B3/S23:P9" ∷ []) ∷
    row (refused 2 kinds.UnsupportedRule) (codes "[M2]\n#R B3/S23H" ∷ []) ∷
    row (refused 2 kinds.BirthOnZero) (codes "[M2]\n#R B01/S" ∷ []) ∷
    row (refused 2 kinds.BadNumber) (codes "[M2]\n#G" ∷ codes "[M2]\n#G -1" ∷ codes "[M2]\n#G 1,000" ∷ []) ∷
    row (refused 2 kinds.TooLarge) (codes "[M2]\n#G 18446744073709551616" ∷ []) ∷
    row (refused 1 kinds.NoHeader) (codes "[M2\n" ∷ codes " [M2]\n" ∷ []) ∷
    row (refused 2 kinds.NoHeader) (codes "\n[M2]\n" ∷ []) ∷
    -- the nodes
    row (refused 8 kinds.BadChild) (codes "[M2]\n\t*$ \r\n\n#C\n4 1 0\t0  1\n5 0 0 0 0\n*$\n4 3 0 0 0" ∷ []) ∷
    row (says b3s23 0) (codes "[M2]\n*$\n*$\n04 01 0 0 2\n4 0 0 0 0" ∷ codes "[M2]\n$$$$$$$........$" ∷ codes "[M2]\n62 0 0 0 0" ∷ codes "[M2]\n1 0 1 1 0" ∷
    []) ∷
    row (refused 2 kinds.BadLeaf) (codes "[M2]\n$$$$$$$.........$" ∷ codes "[M2]\n$$$$$$$$$" ∷ codes "[M2]\n$$$$$$$$." ∷ codes "[M2]\n.*o$" ∷
    codes "[M2]\n. *$" ∷ []) ∷
    row (refused 2 kinds.BadNode) (codes "[M2]\n4 0 0 0" ∷ codes "[M2]\n4 0 0 0 0 0" ∷ codes "[M2]\n4 0 0 0 -1" ∷ codes "[M2]\n4 0 0 0 0x" ∷
    codes "[M2]\n #R B3/S23" ∷ []) ∷
    row (refused 2 kinds.BadLevel) (codes "[M2]\n0 0 0 0 0" ∷ codes "[M2]\n63 0 0 0 0" ∷ []) ∷
    row (refused 2 kinds.StateRange) (codes "[M2]\n1 0 0 0 2" ∷ []) ∷
    row (says (named (codes "A")) 0) (codes "[M2]\n#R A\n1 0 0 0 255\n*$" ∷ []) ∷
    row (refused 3 kinds.StateRange) (codes "[M2]\n#R A\n1 0 0 0 256" ∷ []) ∷
    row (refused 2 kinds.BadChild) (codes "[M2]\n4 0 0 0 1" ∷ []) ∷
    row (refused 3 kinds.BadChild) (codes "[M2]\n*$\n5 1 0 0 0" ∷ codes "[M2]\n*$\n4 0 0 3 0\n*$" ∷ []) ∷
    []

macrocells_are_reported : Each seen macrocell_rows
unfolding pattern_of claimed_rule_of claimed_digits_of with_macrocell_line with_rle_line
macrocells_are_reported = refl

-- extended RLE
abbrev rle_rows : Rows Seen
rle_rows =
    -- the lines before the header
    row (refused 1 kinds.NoHeader) (codes "" ∷ codes "bo$2bo$3o!" ∷ []) ∷
    row (refused 4 kinds.NoHeader) (codes "\n \t\r\n#C\n" ∷ []) ∷
    row (refused 2 kinds.NoHeader) (codes "#C\n x = 3, y = 3" ∷ []) ∷
    row (says b3s23 0) (codes "#C\n#CXRLE Gen=3 Pos=1,2\n#N\n#CXRLE Pos=5,-7\nx=1,y=1\n" ∷ codes "#CXRLEPos=z\nx=1,y=1\n" ∷
    codes "#CXRLE Pos=-2305843009213693952,2305843009213693951\nx=1,y=1\no!" ∷ []) ∷
    row (says b3s23 4) (codes "#CXRLE Gen=3 pos=z Pos Gen=5 Foo=1,2 Gen=4\nx=1,y=1\n" ∷ []) ∷
    row (refused 1 kinds.BadNumber) (codes "#CXRLE Pos=1\n" ∷ codes "#CXRLE Pos=1,2,3\n" ∷ codes "#CXRLE Pos=1, 2\n" ∷ codes "#CXRLE Pos=+1,2\n" ∷
    codes "#CXRLE Pos=2305843009213693952,x\n" ∷ []) ∷
    row (refused 1 kinds.OutOfPlane) (codes "#CXRLE Pos=2305843009213693952,0\n" ∷ codes "#CXRLE Pos=0,-2305843009213693953\n" ∷ []) ∷
    row (refused 2 kinds.BadNumber) (codes "#C\n#CXRLE Gen=x Gen=1\n" ∷ []) ∷
    row (refused 1 kinds.TooLarge) (codes "#CXRLE Gen=18446744073709551616\n" ∷ []) ∷
    -- the header
    row (says b3s23 0) (codes "x=3,y=003" ∷ []) ∷
    row (says (counting 8 (3 ∷ 6 ∷ []) (2 ∷ 3 ∷ [])) 0) (codes "x \t= 3 ,\ty = 9999999999999999999999 , rule = B36/S23 \r\n" ∷ []) ∷
    row (refused 1 kinds.BadHeader) (codes "x = 3" ∷ codes "x = 3, y = -3" ∷ codes "x = 3, y = 3 3" ∷ codes "x = 3, y = 3," ∷ codes "x = 3, y = 3, rule" ∷
    codes "x = 3, y = 3 rule = B3/S23" ∷ codes "x = 3, y = 3, ru le = B3/S23" ∷ codes "xA" ∷ []) ∷
    row (refused 1 kinds.BadRule) (codes "x = 3, y = 3, rule =" ∷ codes "x = 3, y = 3, rule = B3/S23 foo" ∷ []) ∷
    row (refused 1 kinds.UnsupportedRule) (codes "x = 3, y = 3, rule = B3/S23," ∷ []) ∷
    row (refused 1 kinds.BoundedGrid) (codes "x = 3, y = 3, rule = LifeHistory:T9" ∷ []) ∷
    row (refused 1 kinds.BirthOnZero) (codes "x = 3, y = 3, rule = B03/S23" ∷ []) ∷
    -- the lines after it
    row (says b3s23 0) (codes "x=1,y=1\n\n#C\n#CXRLEfoo\n b o\t$\r\n2b" ∷ codes "x=1,y=1\no!o0o\n#CXRLE\nx=1\n0" ∷
    codes "#CXRLE Pos=-2305843009213693952,0\nx=1,y=1\n4611686018427387904o" ∷ codes "#CXRLE Pos=2305843009213693951,0\nx=1,y=1\no$o" ∷
    codes "#CXRLE Pos=0,2305843009213693951\nx=1,y=1\no$" ∷ []) ∷
    row (refused 2 kinds.LateHeader) (codes "x=1,y=1\n#CXRLE Pos=z" ∷ []) ∷
    row (refused 2 kinds.SecondHeader) (codes "x=1,y=1\nx =" ∷ []) ∷
    row (refused 3 kinds.SecondHeader) (codes "x=1,y=1\no\nx=1,y=1" ∷ []) ∷
    row (says (named (codes "A")) 0) (codes "x=1,y=1,rule=A\nxA" ∷ []) ∷
    row (refused 2 kinds.StateRange) (codes "x=1,y=1\nxA" ∷ codes "x=1,y=1\nO" ∷ codes "x=1,y=1\n5B0o" ∷ []) ∷
    row (refused 2 kinds.ZeroCount) (codes "x=1,y=1\n3o$0b" ∷ codes "x=1,y=1\n00o" ∷ []) ∷
    row (refused 2 kinds.TooLarge) (codes "x=1,y=1\n4611686018427387905o" ∷ []) ∷
    row (refused 2 kinds.BadItem) (codes "x=1,y=1\n3 o" ∷ codes "x=1,y=1\n3o2!" ∷ codes "x=1,y=1\nz" ∷ codes "x=1,y=1\n2yP" ∷ []) ∷
    row (refused 3 kinds.BadItem) (codes "x=1,y=1\no\n3\no" ∷ []) ∷
    row (refused 3 kinds.OutOfPlane) (codes "#CXRLE Pos=2305843009213693951,0\nx=1,y=1\n2b" ∷ codes "#CXRLE Pos=0,2305843009213693951\nx=1,y=1\no$b" ∷
    codes "#CXRLE Pos=0,2305843009213693951\nx=1,y=1\no2$" ∷ []) ∷
    []

rles_are_reported : Each seen rle_rows
unfolding pattern_of claimed_rule_of claimed_digits_of with_rle_line
rles_are_reported = refl

-- ---- almost accepted

-- at how many places two lists differ; more than any number of places where one is longer
abbrev differing : List ℕ → List ℕ → ℕ
differing [] [] = 0
differing (a ∷ first) (b ∷ second) = cond (a == b) (differing first second) (1 + differing first second)
differing first second = 2 + length first + length second

-- an accepted file, one that differs from it in a byte, and its fault
abbrev near_rows : List (List ℕ × List ℕ × ℕ × Kind)
near_rows =
    (codes "[M2]\n$$..*$...*$.***$$$$\n4 0 0 0 1", codes "[M2]\n$$..*$...*$.***$$$$\n4 0 0 0 2", 3, kinds.BadChild) ∷
    (codes "[M2]\n$$..*$...*$.***$$$$\n4 0 0 0 1", codes "[M2]\n$$..*$...*$.***$$$$\n5 0 0 0 1", 3, kinds.BadChild) ∷
    (codes "[M2]\n$$..*$...*$.***$$$$\n4 0 0 0 1", codes "[M2]\n$$..*$...*$.***$$$$\n4 0 0.0 1", 3, kinds.BadNode) ∷
    (codes "[M2]\n#R B3/S23\n........", codes "[M2]\n#R B0/S23\n........", 2, kinds.BirthOnZero) ∷
    (codes "[M2]\n#R B3/S23\n.......$", codes "[M2]\n#R B3/S23\n.......0", 3, kinds.BadLeaf) ∷
    (codes "[M2]\n#R A\n1 0 0 0 255", codes "[M2]\n#R A\n1 0 0 0 256", 3, kinds.StateRange) ∷
    (codes "#CXRLE Pos=0,0\nx=1,y=1\no!", codes "#CXRLE Pos=0.0\nx=1,y=1\no!", 1, kinds.BadNumber) ∷
    (codes "x = 3, y = 3\nbo$2bo$3o!", codes "y = 3, y = 3\nbo$2bo$3o!", 1, kinds.NoHeader) ∷
    (codes "x = 3, y = 3\nbo$2bo$3o!", codes "x = 3; y = 3\nbo$2bo$3o!", 1, kinds.BadHeader) ∷
    (codes "x = 3, y = 3\nbo$2bo$3o!", codes "x = 3, y = 3\nbo$0bo$3o!", 2, kinds.ZeroCount) ∷
    (codes "x = 3, y = 3\nbo$2bo$3o!", codes "x = 3, y = 3\nbo$2bo$3 !", 2, kinds.BadItem) ∷
    []

nearly : map (λ row. differing row.0 row.1) near_rows ≡ map (λ row. 1) near_rows
nearly = refl

abbrev is_accepted : Result (Rule × ℕ × List ℕ) Fault → Bool
is_accepted (Ok said) = true
is_accepted (Err fault) = false

nearly_accepted : map (λ row. is_accepted (seen_at [] (pattern_of row.0))) near_rows ≡ map (λ row. true) near_rows
unfolding pattern_of claimed_rule_of claimed_digits_of with_macrocell_line with_rle_line
nearly_accepted = refl

nearly_refused : map (λ row. seen_at [] (pattern_of row.1)) near_rows ≡ map (λ row. refused row.2 row.3) near_rows
unfolding pattern_of claimed_rule_of claimed_digits_of with_macrocell_line with_rle_line
nearly_refused = refl

-- ---- lines of more than 2 ^ 20 bytes, and a first line without `[M2]`

first_too_long : (line : List ℕ) → 2 ^ 20 < length line → first_line line ≡ Err kinds.LineTooLong
first_too_long line h = rw (too_long line h) refl

later_too_long : (file : ClaimedMacrocell) (line : List ℕ) → 2 ^ 20 < length line → with_macrocell_line file line ≡ Err kinds.LineTooLong
unfolding with_macrocell_line
later_too_long file line h = rw (too_long line h) refl

open_too_long : (position : PositionFields) (line : List ℕ) → 2 ^ 20 < length line → with_rle_line (before_header position) line ≡ Err kinds.LineTooLong
unfolding with_rle_line
open_too_long position line h = rw (too_long line h) refl

data_too_long : (file : ClaimedRle) (line : List ℕ) → 2 ^ 20 < length line → with_rle_line (after_header file) line ≡ Err kinds.LineTooLong
unfolding with_rle_line
data_too_long file line h = rw (too_long line h) refl

ended_is_free : (file : ClaimedRle) (line : List ℕ) → with_rle_line (after_end file) line ≡ Ok (after_end file)
unfolding with_rle_line
ended_is_free file line = refl

no_header : first_line (codes "x = 3, y = 3") ≡ Err kinds.NoHeader
no_header = refl

-- ---- one generation

-- the states of the cells from -1 to 1 in both directions, row by row
abbrev nine : (ℤ → ℤ → ℕ) → List ℕ
nine cell =
    let west = neg_ℤ (pos 1) in
    cell west west ∷ cell (pos 0) west ∷ cell (pos 1) west ∷ cell west (pos 0) ∷ cell (pos 0) (pos 0) ∷ cell (pos 1) (pos 0) ∷ cell west (pos 1)
    ∷ cell (pos 0) (pos 1) ∷ cell (pos 1) (pos 1) ∷ []

-- what is next to the cells that a file says
abbrev next_nine : List ℕ → List ℕ
next_nine bytes = elim (pattern_of bytes) [
  | Ok pattern ↦ elim pattern.rule [ counting n births survivals ↦ nine (claimed_next_life n births survivals pattern.cell) | named name ↦ [] ]
  | Err fault ↦ []
]

-- three cells in a row, whose neighbours are eight; and under the same digits four
blinker : next_nine (codes "#CXRLE Pos=-1,0\nx=3,y=1\n3o!") ≡ 0 ∷ 1 ∷ 0 ∷ 0 ∷ 1 ∷ 0 ∷ 0 ∷ 1 ∷ 0 ∷ []
unfolding pattern_of claimed_rule_of claimed_digits_of with_rle_line
blinker = refl

four : next_nine (codes "#CXRLE Pos=-1,0\nx=3,y=1,rule=B1/S2V\n3o!") ≡ 1 ∷ 1 ∷ 1 ∷ 0 ∷ 1 ∷ 0 ∷ 1 ∷ 1 ∷ 1 ∷ []
unfolding pattern_of claimed_rule_of claimed_digits_of with_rle_line
four = refl

-- ---- what is shown

boxed : box_line (Some (record { left = neg_ℤ (pos 1); top = pos 2; right = pos 3; bottom = pos 2 })) ≡ codes "box -1 2 5 1\n"
unfolding digits
boxed = refl

unboxed : box_line None ≡ codes "box none\n"
unboxed = refl

-- ---- canonical texts

-- the text of the square of this level about the middle of the plane, of what a file says
abbrev text_at : ℕ → List ℕ → List ℕ
text_at level bytes = elim (pattern_of bytes) [
  | Ok pattern ↦ claimed_square_text pattern.rule pattern.generation (middle_square pattern.cell level)
  | Err fault ↦ []
]

abbrev header : List ℕ
header = codes "[M2] (canonical 1)\n"

glider_text : text_at 3 (codes "x = 3, y = 3, rule = B3/S23\nbo$2bo$3o!\n") ≡ header ++ codes "#R B3/S23\n$$$$.....*$......*$....***$$\n"
unfolding pattern_of claimed_rule_of claimed_digits_of with_rle_line
glider_text = refl

blank_text : text_at 3 (codes "x = 0, y = 0, rule = 23/3\n!\n") ≡ header ++ codes "#R B3/S23\n"
unfolding pattern_of claimed_rule_of claimed_digits_of with_rle_line
blank_text = refl

one_cell_text : text_at 4 (codes "#CXRLE Pos=4,0\nx = 1, y = 1, rule = B3/S23\no!\n") ≡ header ++ codes "#R B3/S23\n....*$$$$$$$$\n4 0 0 0 1\n"
unfolding pattern_of claimed_rule_of claimed_digits_of with_rle_line digits
one_cell_text = refl

-- equal quarters have one line
shared_text : text_at 4 (codes "#CXRLE Pos=-4,0\nx = 9, y = 1, rule = B3/S23\no7bo!\n") ≡ header ++ codes "#R B3/S23\n....*$$$$$$$$\n4 0 0 1 1\n"
unfolding pattern_of claimed_rule_of claimed_digits_of with_rle_line digits
shared_text = refl

-- a higher root, squares below the leaves, a leaf twice, and a square that the root doesn't reach
higher_text :
    text_at 4 (codes "[M2] (golly 4.2)\n#R B3/S23\n....*$$$$$$$$\n4 1 0 0 0\n5 2 0 0 0\n6 3 0 0 0\n7 4 0 0 0\n8 5 0 0 0\n9 0 0 0 6\n")
    ≡ header ++ codes "#R B3/S23\n....*$$$$$$$$\n4 0 0 0 1\n"
unfolding pattern_of claimed_rule_of claimed_digits_of with_macrocell_line digits
higher_text = refl

below_leaves_text : text_at 4 (codes "[M2]\n1 1 0 0 0\n2 1 0 0 0\n3 0 2 0 0\n4 0 0 0 3\n") ≡ header ++ codes "#R B3/S23\n....*$$$$$$$$\n4 0 0 0 1\n"
unfolding pattern_of claimed_rule_of claimed_digits_of with_macrocell_line digits
below_leaves_text = refl

repeated_text :
    text_at 4 (codes "[M2]\n#R B3/S23\n....*$$$$$$$$\n....*$$$$$$$$\n*$$$$$$$$\n4 0 0 1 2\n")
    ≡ header ++ codes "#R B3/S23\n....*$$$$$$$$\n4 0 0 1 1\n"
unfolding pattern_of claimed_rule_of claimed_digits_of with_macrocell_line digits
repeated_text = refl

-- a name, whose squares have lines from level 1 on, and a generation
named_text : text_at 1 (codes "#CXRLE Pos=-1,-1 Gen=7\nx = 2, y = 1, rule = WireWorld\nApA!\n") ≡ header ++ codes "#R WireWorld\n#G 7\n1 1 25 0 0\n"
unfolding pattern_of claimed_rule_of claimed_digits_of with_rle_line digits
named_text = refl

-- leaves are numbered in the order in which a walk visits them, which is not that of the file
walked_text : text_at 4 (codes "[M2]\n*$\n.*$\n4 2 1 0 0\n") ≡ header ++ codes "#R B3/S23\n.*$$$$$$$$\n*$$$$$$$$\n4 1 2 0 0\n"
unfolding pattern_of claimed_rule_of claimed_digits_of with_macrocell_line digits
walked_text = refl

-- ---- texts in extended RLE

-- the lines of these cells in this box, under B3/S23
abbrev lines_in : Bounds → List Cell → List (List ℕ)
lines_in box cells = box_lines b3s23 0 (Some box) cells

abbrev live_at : ℤ → ℤ → Cell
live_at x y = record { x = x; y = y; state = 1 }

abbrev box_from : ℤ → ℤ → ℤ → ℤ → Bounds
box_from left top right bottom = record { left = left; top = top; right = right; bottom = bottom }

two_cells :
    lines_in (box_from (neg_ℤ (pos 4)) (pos 0) (pos 4) (pos 0)) (live_at (neg_ℤ (pos 4)) (pos 0) ∷ live_at (pos 4) (pos 0) ∷ [])
    ≡ codes "#CXRLE Pos=-4,0" ∷ codes "x = 9, y = 1, rule = B3/S23" ∷ codes "o7bo!" ∷ []
unfolding digits
two_cells = refl

no_cells : box_lines b3s23 0 None [] ≡ codes "#CXRLE Pos=0,0" ∷ codes "x = 0, y = 0, rule = B3/S23" ∷ codes "!" ∷ []
unfolding digits
no_cells = refl

-- cells of a name, with a generation
named_cells :
    box_lines (named (codes "WireWorld")) 7 (Some (box_from (neg_ℤ (pos 1)) (neg_ℤ (pos 1)) (pos 0) (neg_ℤ (pos 1))))
    (record { x = neg_ℤ (pos 1); y = neg_ℤ (pos 1); state = 1 } ∷ record { x = pos 0; y = neg_ℤ (pos 1); state = 25 } ∷ [])
    ≡ codes "#CXRLE Pos=-1,-1 Gen=7" ∷ codes "x = 2, y = 1, rule = WireWorld" ∷ codes "ApA!" ∷ []
unfolding digits
named_cells = refl

-- so many live cells in every second column from this one on
abbrev every_second : ℕ → ℕ → List Cell
every_second zero column = []
every_second (suc n) column = live_at (pos column) (pos 0) ∷ every_second n (column + 2)

-- 36 cells, whose first line of items has 70 bytes
long_row :
    lines_in (box_from (pos 0) (pos 0) (pos 70) (pos 0)) (every_second 36 0)
    ≡ codes "#CXRLE Pos=0,0" ∷ codes "x = 71, y = 1, rule = B3/S23"
    ∷ codes "obobobobobobobobobobobobobobobobobobobobobobobobobobobobobobobobobobob" ∷ codes "o!" ∷ []
unfolding digits
long_row = refl

-- rows that are skipped
rows_apart :
    lines_in (box_from (pos 1) (pos 0) (pos 3) (pos 3)) (live_at (pos 3) (pos 0) ∷ live_at (pos 1) (pos 3) ∷ live_at (pos 2) (pos 3) ∷ [])
    ≡ codes "#CXRLE Pos=1,0" ∷ codes "x = 3, y = 4, rule = B3/S23" ∷ codes "2bo3$2o!" ∷ []
unfolding digits
rows_apart = refl
