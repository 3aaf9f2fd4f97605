-- Words of the proofs on squares.
use Rattle.std.proofs.Common.{ℕ, zero, suc, ◌-◌, ◌<◌, Bool, ◌&&◌, if◌then◌else◌, int_le, int_lt, ℤ, pos, ◌+ℤ◌, ◌^◌}
use Rattle.life_base.specs.declared.cell.TheConstants.{MAX_LEVEL}
use Rattle.life_base.specs.Tree.{Tree, point, quad, depth, blank, is_blank_tree as is_blank}
use Rattle.life_pattern.specs.Universe.{corner}
use Rattle.life_pattern.specs.Quarters.{quarters_of}

-- the greatest level, less one
abbrev pub below_top : ℕ
below_top = MAX_LEVEL - 1

-- the square has depth k throughout
pub data HasDepth : ℕ → Tree → Type 0 where
  point_depth : {state : ℕ} → HasDepth zero (point state)
  quad_depth : {k : ℕ} {nw ne sw se : Tree} → HasDepth k nw → HasDepth k ne → HasDepth k sw → HasDepth k se → HasDepth (suc k) (quad nw ne sw se)

-- every cell has a state below the bound
abbrev pub StatesBelow : ℕ → Tree → Type 0
StatesBelow bound (point state) = state < bound
StatesBelow bound (quad nw ne sw se) = StatesBelow bound nw × StatesBelow bound ne × StatesBelow bound sw × StatesBelow bound se

-- each of the four quarters
abbrev pub nw_of : Tree → Tree
nw_of t = (quarters_of t).0

abbrev pub ne_of : Tree → Tree
ne_of t = (quarters_of t).1

abbrev pub sw_of : Tree → Tree
sw_of t = (quarters_of t).2

abbrev pub se_of : Tree → Tree
se_of t = (quarters_of t).3

-- the square of the four inner grandchildren
abbrev pub middle : Tree → Tree
middle t = quad (se_of (nw_of t)) (sw_of (ne_of t)) (ne_of (sw_of t)) (nw_of (se_of t))

-- the twelve outer grandchildren are blank
abbrev pub has_blank_border : Tree → Bool
has_blank_border t =
    is_blank (nw_of (nw_of t)) && is_blank (ne_of (nw_of t)) && is_blank (sw_of (nw_of t))
    && is_blank (nw_of (ne_of t)) && is_blank (ne_of (ne_of t)) && is_blank (se_of (ne_of t))
    && is_blank (nw_of (sw_of t)) && is_blank (sw_of (sw_of t)) && is_blank (se_of (sw_of t))
    && is_blank (ne_of (se_of t)) && is_blank (sw_of (se_of t)) && is_blank (se_of (se_of t))

-- the middle, taken at most n times, as long as the border is blank
abbrev pub trim_times : ℕ → Tree → Tree
trim_times zero t = t
trim_times (suc n) t = if has_blank_border t then trim_times n (middle t) else t

-- without its blank borders, down to depth m at the least
unfoldable pub trimmed_to : Tree → ℕ → Tree
trimmed_to t m = trim_times (depth t - m) t

-- four quarters in the middle, and blank squares around them
abbrev pub grown_quarters : Tree → Tree → Tree → Tree → Tree
grown_quarters nw ne sw se =
    quad
    (quad (blank (depth nw)) (blank (depth nw)) (blank (depth nw)) nw)
    (quad (blank (depth nw)) (blank (depth nw)) ne (blank (depth nw)))
    (quad (blank (depth nw)) sw (blank (depth nw)) (blank (depth nw)))
    (quad se (blank (depth nw)) (blank (depth nw)) (blank (depth nw)))

-- whether the coordinate is one of the square of depth k in the middle of the plane
abbrev pub is_within : ℕ → ℤ → Bool
is_within k x = int_le (corner k) x && int_lt x (corner k +ℤ pos (2 ^ k))
