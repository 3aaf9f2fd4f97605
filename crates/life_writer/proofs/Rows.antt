-- Worked patterns: the canonical lines, computed in a small square, which gives those of the whole plane.
use Rattle.std.proofs.Common.{◌≡◌, [], ◌∷◌, refl, pos, negsuc}
use Rattle.life_base.specs.declared.rule.Rule.TheVariants.{Named}
use Rattle.life_mc.specs.Squares.{tree_of}
use Rattle.life_mc.specs.declared.line.Line.TheVariants.{Leaf, Quad}
use Rattle.life_quad.specs.Moves.{trimmed_square}
use Rattle.life_pattern.specs.Universe.{square, corner, centred_square, whole}
use Rattle.life_writer.specs.Listing.{listed_squares, rows_of, lines_for, canonical_file}
use Rattle.life_writer.proofs.Spots.{spot, life, pattern_of, canonical_lines}

-- one cell at (4, 0)
row_at_4_0 : canonical_lines 4 (pattern_of life (spot (pos 4) (pos 0) 1 ∷ [])) ≡ Leaf (8 ∷ 0 ∷ 0 ∷ 0 ∷ 0 ∷ 0 ∷ 0 ∷ 0 ∷ []) ∷ Quad 4 0 0 0 1 ∷ []
unfolding canonical_file whole listed_squares centred_square corner square rows_of
row_at_4_0 = refl

-- a glider at the centre: one leaf
row_glider : canonical_lines 4
    (pattern_of life (spot (pos 1) (pos 0) 1 ∷ spot (pos 2) (pos 1) 1 ∷ spot (pos 0) (pos 2) 1 ∷ spot (pos 1) (pos 2) 1 ∷ spot (pos 2) (pos 2) 1 ∷ []))
    ≡ Leaf (0 ∷ 0 ∷ 0 ∷ 0 ∷ 4 ∷ 2 ∷ 14 ∷ 0 ∷ []) ∷ []
unfolding canonical_file whole listed_squares centred_square corner square rows_of
row_glider = refl

-- equal quarters share one line
row_shared : canonical_lines 5 (pattern_of life (spot (negsuc 3) (pos 0) 1 ∷ spot (pos 4) (pos 0) 1 ∷ [])) ≡ Leaf (8 ∷ 0 ∷ 0 ∷ 0 ∷ 0 ∷ 0 ∷ 0 ∷ 0 ∷ [])
    ∷ Quad 4 0 0 1 1 ∷ []
unfolding canonical_file whole listed_squares centred_square corner square rows_of
row_shared = refl

-- nothing: no line
row_blank : canonical_lines 5 (pattern_of life []) ≡ []
unfolding canonical_file whole listed_squares centred_square corner square rows_of
row_blank = refl

-- a name: a line of level 1
row_named : canonical_lines 4 (pattern_of (Named (87 ∷ [])) (spot (negsuc 0) (negsuc 0) 1 ∷ spot (pos 0) (negsuc 0) 25 ∷ [])) ≡ Quad 1 1 25 0 0 ∷ []
unfolding canonical_file whole listed_squares centred_square corner square rows_of
row_named = refl

-- the order of the walk: the north-west quarter first
row_order : lines_for life (listed_squares
    (trimmed_square (tree_of (Leaf (128 ∷ 0 ∷ 0 ∷ 0 ∷ 0 ∷ 0 ∷ 0 ∷ 0 ∷ []) ∷ Leaf (64 ∷ 0 ∷ 0 ∷ 0 ∷ 0 ∷ 0 ∷ 0 ∷ 0 ∷ []) ∷ Quad 4 2 1 0 0 ∷ []) 4 3) 3) 3)
    ≡ Leaf (64 ∷ 0 ∷ 0 ∷ 0 ∷ 0 ∷ 0 ∷ 0 ∷ 0 ∷ []) ∷ Leaf (128 ∷ 0 ∷ 0 ∷ 0 ∷ 0 ∷ 0 ∷ 0 ∷ 0 ∷ []) ∷ Quad 4 1 2 0 0 ∷ []
unfolding listed_squares rows_of
row_order = refl

-- a line twice, and a line that isn't reached
row_repeats : lines_for life (listed_squares
    (trimmed_square (tree_of (Leaf (8 ∷ 0 ∷ 0 ∷ 0 ∷ 0 ∷ 0 ∷ 0 ∷ 0 ∷ []) ∷ Leaf (8 ∷ 0 ∷ 0 ∷ 0 ∷ 0 ∷ 0 ∷ 0 ∷ 0 ∷ [])
    ∷ Leaf (128 ∷ 0 ∷ 0 ∷ 0 ∷ 0 ∷ 0 ∷ 0 ∷ 0 ∷ [])
    ∷ Quad 4 0 0 1 2 ∷ []) 4 4) 3) 3)
    ≡ Leaf (8 ∷ 0 ∷ 0 ∷ 0 ∷ 0 ∷ 0 ∷ 0 ∷ 0 ∷ []) ∷ Quad 4 0 0 1 1 ∷ []
unfolding listed_squares rows_of
row_repeats = refl

-- a root that is too high: trimmed twice
row_high : lines_for life (listed_squares
    (trimmed_square (tree_of (Leaf (8 ∷ 0 ∷ 0 ∷ 0 ∷ 0 ∷ 0 ∷ 0 ∷ 0 ∷ []) ∷ Quad 4 1 0 0 0 ∷ Quad 5 2 0 0 0 ∷ Quad 6 0 0 0 3 ∷ []) 6 4) 3)
    3)
    ≡ Leaf (8 ∷ 0 ∷ 0 ∷ 0 ∷ 0 ∷ 0 ∷ 0 ∷ 0 ∷ []) ∷ Quad 4 0 0 0 1 ∷ []
unfolding listed_squares rows_of
row_high = refl
