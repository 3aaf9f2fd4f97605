-- Worked forms: the eight images of a glider at four places, a blank pattern, 256 states, wide sides. Lines are computed in a small square, which
-- gives those of the whole plane.
use Rattle.std.proofs.Common.{◌≡◌, ℕ, ◌-◌, ◌^◌, true, false, List, [], ◌∷◌, ◌++◌, map, fold, refl, ℤ, pos, negsuc, neg_ℤ, ◌+ℤ◌, if◌then◌else◌, codes, nat_cmp, is_gt, arith}
use Rattle.std.proofs.lemmas.Int.{ints}
use Rattle.std.specs.Int.{int_min}
use Rattle.std.specs.Cmp.Lexicographic.{slice_cmp}
use Rattle.life_base.specs.declared.rule.Rule.TheVariants.{Named}
use Rattle.life_mc.specs.declared.line.Line.{Line}
use Rattle.life_mc.specs.declared.line.Line.TheVariants.{Leaf, Quad}
use Rattle.life_mc.specs.Writing.{mc_text, leaf_row_text}
use Rattle.life_pattern.specs.Universe.{square, corner, centred_square, whole}
use Rattle.life_writer.specs.Listing.{listed_squares, rows_of, canonical_file}
use Rattle.life_writer.proofs.Spots.{Spot, spot, life, pattern_of, canonical_lines}
use Rattle.life_forms.specs.Turns.{Turn, every_turn, turn_of, turned_column, turned_row, inverse_turn, turn_after}
use Rattle.life_forms.specs.Forms.{IsInPlace, at_zero, at_edge, plane_end}

-- where a turn puts a cell
abbrev turned_spot : Turn → Spot → Spot
turned_spot t s = spot (turned_column (inverse_turn t) s.x s.y) (turned_row (inverse_turn t) s.x s.y) s.state

abbrev shifted_spot : ℤ → ℤ → Spot → Spot
shifted_spot a b s = spot (s.x +ℤ a) (s.y +ℤ b) s.state

abbrev least_x : Spot → List Spot → ℤ
least_x s [] = s.x
least_x s (t ∷ ts) = int_min s.x (least_x t ts)

abbrev least_y : Spot → List Spot → ℤ
least_y s [] = s.y
least_y s (t ∷ ts) = int_min s.y (least_y t ts)

-- cells of a box that is not wide, moved
abbrev moved_spots : List Spot → List Spot
moved_spots [] = []
moved_spots (s ∷ ss) = map (shifted_spot (neg_ℤ (least_x s ss)) (neg_ℤ (least_y s ss))) (s ∷ ss)

abbrev glider_at : ℤ → ℤ → List Spot
glider_at a b =
    map (shifted_spot a b) (spot (pos 1) (pos 0) 1 ∷ spot (pos 2) (pos 1) 1 ∷ spot (pos 0) (pos 2) 1 ∷ spot (pos 1) (pos 2) 1 ∷ spot (pos 2) (pos 2) 1 ∷ [])

-- the cells of the eight images, moved, in the order of `every_turn`
abbrev eight_images : List Spot → List (List Spot)
eight_images cells = map (λ t. moved_spots (map (turned_spot t) cells)) every_turn

-- far east, at the middle, at the corner and at the edge
abbrev places : List (ℤ × ℤ)
places =
    (pos 1000, negsuc 6) ∷
    (negsuc 1, negsuc 0) ∷
    (neg_ℤ (pos (2 ^ 61)), neg_ℤ (pos (2 ^ 61))) ∷
    (pos (2 ^ 61 - 3), pos (2 ^ 61 - 3)) ∷
    []

-- at each place a glider has the same eight
row_gliders : map (λ place. eight_images (glider_at place.0 place.1)) places ≡ map (λ place. eight_images (glider_at (pos 0) (pos 0))) places
row_gliders = refl

-- the eight of an image are the eight by its turn and one more: the same in another order
row_image_of_a_glider : eight_images (map (turned_spot (turn_of false true false)) (glider_at (pos 0) (pos 0)))
    ≡ map (λ t. moved_spots (map (turned_spot (turn_after (turn_of false true false) t)) (glider_at (pos 0) (pos 0)))) every_turn
row_image_of_a_glider = refl

-- the eight are made by two reflections in turn
row_turns : every_turn
    ≡ turn_of false false false ∷ map (λ t. turn_after t (turn_of false true false)) (turn_of false false false ∷ [])
    ++ map (λ t. turn_after t (turn_of true false false)) (turn_of false true false ∷ [])
    ++ map (λ t. turn_after t (turn_of false true false)) (turn_of true true false ∷ [])
    ++ map (λ t. turn_after t (turn_of true false false)) (turn_of true true true ∷ [])
    ++ map (λ t. turn_after t (turn_of false true false)) (turn_of false true true ∷ [])
    ++ map (λ t. turn_after t (turn_of true false false)) (turn_of false false true ∷ [])
    ++ map (λ t. turn_after t (turn_of false true false)) (turn_of true false true ∷ [])
row_turns = refl

-- the lines of an image, moved
abbrev image_lines : Turn → List Spot → List Line
image_lines t cells = canonical_lines 3 (pattern_of life (moved_spots (map (turned_spot t) cells)))

-- a leaf whose south-east quarter has these rows
abbrev leaf_of : ℕ → ℕ → ℕ → List Line
leaf_of a b c = Leaf (0 ∷ 0 ∷ 0 ∷ 0 ∷ a ∷ b ∷ c ∷ 0 ∷ []) ∷ []

abbrev leaves : List (List Line)
leaves =
    leaf_of 4 2 14 ∷ leaf_of 4 8 14 ∷ leaf_of 6 10 2 ∷ leaf_of 12 10 8 ∷ leaf_of 14 8 4 ∷ leaf_of 14 2 4 ∷ leaf_of 8 10 12 ∷ leaf_of 2 10 6 ∷ []

row_leaves : map (λ t. image_lines t (glider_at (pos 5) (negsuc 8))) every_turn ≡ leaves
unfolding canonical_file whole listed_squares centred_square corner square rows_of
row_leaves = refl

-- the text of a leaf, and the least of texts
abbrev text_of : List Line → List ℕ
text_of lines = mc_text (record { rule = life; generation = 0; lines = lines })

abbrev lesser : List ℕ → List ℕ → List ℕ
lesser a b = if is_gt (slice_cmp nat_cmp a b) then b else a

-- of the eight texts this one is the least: `....*$....*.*$....**$` after four empty rows
row_turned_glider : fold lesser (text_of (leaf_of 4 2 14)) (map text_of leaves) ≡ codes "[M2] (canonical 1)\n#R B3/S23\n$$$$....*$....*.*$....**$$\n"
unfolding leaf_row_text
row_turned_glider = refl

-- nothing is itself
row_blank : canonical_lines 4 (pattern_of life (moved_spots [])) ≡ []
unfolding canonical_file whole listed_squares centred_square corner square rows_of
row_blank = refl

-- under a name: states to 255, from the plane's corner
row_states : canonical_lines 2 (pattern_of (Named (87 ∷ []))
    (moved_spots (spot (neg_ℤ (pos (2 ^ 61))) (neg_ℤ (pos (2 ^ 61))) 255 ∷ spot (neg_ℤ (pos (2 ^ 61)) +ℤ pos 1)
    (neg_ℤ (pos (2 ^ 61))) 25 ∷ []))) ≡ Quad 1 255 25 0 0 ∷ Quad 2 0 0 0 1 ∷ []
unfolding canonical_file whole listed_squares centred_square corner square rows_of
row_states = refl

-- ---- sides on the plane of level 62

edge_is : plane_end 62 ≡ pos (2 ^ 61)
unfolding corner
edge_is = refl

-- half the plane wide: from 0 on
row_half : IsInPlace 62 (pos 0) (pos (2 ^ 61 - 1))
unfolding corner
row_half = at_zero refl (omega (arith, ints))

-- one more: it begins at -1, and ends with the plane
row_wide : IsInPlace 62 (negsuc 0) (pos (2 ^ 61 - 1))
unfolding corner
row_wide = at_edge (omega (arith, ints)) refl

-- as wide as the plane: where it is
row_widest : IsInPlace 62 (neg_ℤ (pos (2 ^ 61))) (pos (2 ^ 61 - 1))
unfolding corner
row_widest = at_edge (omega (arith, ints)) refl
