-- Squares as they are seen, turned.
use Rattle.std.proofs.Common.{◌≡◌, ℕ, ◌<◌, Bool, true, false, Option, Some, None, sym, ap, subst, MatchOption}
use Rattle.life_base.specs.Tree.{Tree, point, quad, depth, IsFull}
use Rattle.life_mc.specs.Squares.{HasStatesUpTo}
use Rattle.life_quad.specs.Turning.{turned_half, one_of_four, side_of, turned_tree}
use Rattle.life_quad.specs.declared.turning.Turn.{Turn}
use Rattle.life_quad.proofs.TurningLemmas.{depth-turned}

one-states : (most : ℕ) (u v : Bool) (a b c d : Tree) → HasStatesUpTo most a → HasStatesUpTo most b → HasStatesUpTo most c → HasStatesUpTo most d
    → HasStatesUpTo most (one_of_four u v a b c d)
one-states most false false a b c d p q r s = p
one-states most true false a b c d p q r s = q
one-states most false true a b c d p q r s = r
one-states most true true a b c d p q r s = s

pub states-turned : (most : ℕ) (turn : Turn) (t : Tree) → HasStatesUpTo most t → HasStatesUpTo most (turned_tree turn t)
states-turned most turn (point s) h = h
states-turned most turn (quad a b c d) h =
    let at = λ (u v : Bool).
    one-states most u v (turned_tree turn a) (turned_tree turn b) (turned_tree turn c) (turned_tree turn d) (states-turned most turn a h.0)
    (states-turned most turn b h.1) (states-turned most turn c h.2) (states-turned most turn d h.3) in (
      at (side_of turn false false) (turned_half turn false false),
      at (side_of turn true false) (turned_half turn true false),
      at (side_of turn false true) (turned_half turn false true),
      at (side_of turn true true) (turned_half turn true true),
    )

-- a cell is seen as it is
pub state-turned : (turn : Turn) (t : Tree) → IsFull t → (r : Option ℕ) → MatchOption r (0 < depth t) (λ s. t ≡ point s)
    → MatchOption r (0 < depth (turned_tree turn t)) (λ s. turned_tree turn t ≡ point s)
state-turned turn t full None deep = subst (λ (n : ℕ). 0 < n) (sym (depth-turned turn t full)) deep
state-turned turn t full (Some s) is = ap (turned_tree turn) is
