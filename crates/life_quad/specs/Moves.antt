-- Squares made of other squares: one level higher, and without blank outer grandchildren.
use Rattle.std.specs.Prelude.{◌≡◌, ◌+◌, ◌<◌, ℕ, zero, suc, Bool, ◌&&◌, nat_lt, if◌then◌else◌, List, [], ◌∷◌, map}
use Rattle.std.specs.List.{list_all}
use Rattle.life_base.specs.declared.cell.TheConstants.{MAX_LEVEL}
use Rattle.life_base.specs.Tree.{Tree, point, quad, depth, blank, is_blank_tree}
use Rattle.life_quad.specs.declared.id.Id.{Id}
use Rattle.life_quad.specs.declared.moves.Quarters.{Quarters}

-- of the quarters of a square: each is known, and one level lower
pub record AreQuarters (knows : Id → Type 0) (content : Id → Tree) (t : Tree) (quarters : Quarters) : Type 0 where
  pub nw : knows quarters.nw
  pub ne : knows quarters.ne
  pub sw : knows quarters.sw
  pub se : knows quarters.se
  pub nw_level : depth (content quarters.nw) + 1 ≡ depth t
  pub ne_level : depth (content quarters.ne) + 1 ≡ depth t
  pub sw_level : depth (content quarters.sw) + 1 ≡ depth t
  pub se_level : depth (content quarters.se) + 1 ≡ depth t

-- four squares can be joined: each is known, all are of one level, and this is below the greatest
pub record CanJoin (knows : Id → Type 0) (content : Id → Tree) (quarters : Quarters) : Type 0 where
  pub nw : knows quarters.nw
  pub ne : knows quarters.ne
  pub sw : knows quarters.sw
  pub se : knows quarters.se
  pub ne_level : depth (content quarters.ne) ≡ depth (content quarters.nw)
  pub sw_level : depth (content quarters.sw) ≡ depth (content quarters.nw)
  pub se_level : depth (content quarters.se) ≡ depth (content quarters.nw)
  pub space : depth (content quarters.nw) < MAX_LEVEL

-- the square of four quarters
abbrev pub quad_of : (Id → Tree) → Quarters → Tree
quad_of content q = quad (content q.nw) (content q.ne) (content q.sw) (content q.se)

-- the squares of several times four quarters, in their order
abbrev pub quads_of : (Id → Tree) → List Quarters → List Tree
quads_of content quarters = map (quad_of content) quarters

-- the twelve outer grandchildren
abbrev pub outer : Tree → List Tree
outer (quad (quad a b c _) (quad d e _ f) (quad g _ h i) (quad _ j k l)) =
    a ∷ b ∷ c ∷ d ∷ e ∷ f ∷ g ∷ h ∷ i ∷ j ∷ k ∷ l ∷ []
outer _ = []

-- the square of the four inner grandchildren
abbrev pub inner : Tree → Tree
inner (quad (quad _ _ _ nw) (quad _ _ ne _) (quad _ sw _ _) (quad se _ _ _)) = quad nw ne sw se
inner t = t

-- the square is above the least level, and its outer grandchildren are blank
abbrev pub can_trim : Tree → ℕ → Bool
can_trim t least = nat_lt least (depth t) && list_all is_blank_tree (outer t)

-- the square after at most n steps of trimming
abbrev pub trim_up_to : ℕ → Tree → ℕ → Tree
trim_up_to zero t least = t
trim_up_to (suc n) t least = if can_trim t least then trim_up_to n (inner t) least else t

-- while the square can be trimmed, the square of its inner grandchildren
abbrev pub trimmed_square : Tree → ℕ → Tree
trimmed_square t least = trim_up_to (depth t) t least

-- one level higher, with t in the middle of blank squares
abbrev pub grown_square : Tree → Tree
grown_square (point s) = point s
grown_square (quad nw ne sw se) =
    let e = blank (depth nw) in quad (quad e e e nw) (quad e e ne e) (quad e sw e e) (quad se e e e)
