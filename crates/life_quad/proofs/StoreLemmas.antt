-- The squares of a store of nodes, and what stays when one is added.
use Rattle.std.proofs.Common.{◌≡◌, length-append, Contains, ◌⊎◌, inl, inr, ℕ, suc, ◌+◌, ◌-◌, ◌≤◌, ◌<◌, Bool, true, false, nat_lt, List, [], ◌∷◌, ◌++◌, length, fold, map, Some, slice_get, get_or, refl, sym, ◌∙◌, ap, subst, arith}
use Rattle.std.proofs.lemmas.List.Sums.{fold-append}
use Rattle.std.proofs.lemmas.List.{get_or_append_left, map_push}
use Rattle.std.proofs.Math.Seq.{get_or-append_seam}
use Rattle.std.proofs.lemmas.Option.{slice_get-get_or, slice_get_within, get_or_from_slice_get}
use Rattle.life_base.specs.declared.cell.TheConstants.{MAX_LEVEL}
use Rattle.life_quad.specs.declared.id.Id.{Id}
use Rattle.life_quad.specs.declared.id.Node.{Node}
use Rattle.life_base.specs.Tree.{Tree, point, quad, depth, is_blank_tree, IsFull}
use Rattle.life_quad.specs.Store.{Nodes, id_of, square_of, small_square, node_square, squares, levels_of, is_blank_id, IsIdWithin, IsEarlier, IsNode, IsSoundStore, IsIdOf, as_small, as_node, Knows}
use Rattle.life_base.proofs.Squares.{is_blank-blank}
use Rattle.life_quad.specs.StoreLaws.{Kinds, a_state, a_blank, a_small, a_node, kind_of, small_node, Names, the_state, the_blank, the_node, names}
use Rattle.life_quad.proofs.SmallLemmas.{small_range}

abbrev push_square : List Tree → Node → List Tree
push_square stored n = stored ++ node_square stored n ∷ []

-- a new node adds its square last
pub squares-push : (ns : List Node) (n : Node) → squares (ns ++ n ∷ []) ≡ squares ns ++ node_square (squares ns) n ∷ []
unfolding squares
squares-push ns n = fold-append push_square [] ns (n ∷ [])

length-fold : (acc : List Tree) (ns : List Node) → length (fold push_square acc ns) ≡ length acc + length ns
length-fold acc [] = omega arith
length-fold acc (n ∷ ns) =
    let one : length (acc ++ node_square acc n ∷ []) ≡ length acc + 1 = length-append acc (node_square acc n ∷ []) in
    length-fold (push_square acc n) ns ∙ omega (arith, one)

-- a new node adds its level last
pub levels-push : (ns : List Node) (n : Node) → levels_of (ns ++ n ∷ []) ≡ levels_of ns ++ depth (node_square (squares ns) n) ∷ []
levels-push ns n = ap (map depth) (squares-push ns n) ∙ map_push depth (squares ns) (node_square (squares ns) n)

-- each node has its square
pub length-squares : (ns : List Node) → length (squares ns) ≡ length ns
unfolding squares
length-squares ns = length-fold [] ns ∙ omega arith

-- a new store has no square
pub squares-nil : squares [] ≡ []
unfolding squares
squares-nil = refl

-- an Id keeps its square when squares are added
pub square_of-append : (stored more : List Tree) (id : Id) → id.0 < 66064 + length stored → square_of (stored ++ more) id ≡ square_of stored id
unfolding square_of
square_of-append stored more id h = by (kind_of stored id)
  where
    by : Kinds stored id → square_of (stored ++ more) id ≡ square_of stored id
    by (a_state l e) = grind arith
    by (a_blank l u e) = grind arith
    by (a_small l u e) = grind arith
    by (a_node l e) =
        let at : get_or (stored ++ more) (id.0 - 66064) (point 0) ≡ get_or stored (id.0 - 66064) (point 0) = get_or_append_left stored more (point 0)
        (id.0 - 66064) (omega arith) in
        grind arith

-- a node keeps its square when squares are added
pub node_square-append : (stored more : List Tree) (i : ℕ) (n : Node) → i ≤ length stored → IsIdWithin i (id_of n.nw) → IsIdWithin i (id_of n.ne)
    → IsIdWithin i (id_of n.sw) → IsIdWithin i (id_of n.se)
    → node_square (stored ++ more) n ≡ node_square stored n
node_square-append stored more i n le a b c d =
    let ea = square_of-append stored more (id_of n.nw) (omega (arith, a.below)) in
    let eb = square_of-append stored more (id_of n.ne) (omega (arith, b.below)) in
    let ec = square_of-append stored more (id_of n.sw) (omega (arith, c.below)) in
    let ed = square_of-append stored more (id_of n.se) (omega (arith, d.below)) in
    λ j. quad (ea j) (eb j) (ec j) (ed j)

module _ {X : Type 0} (xs : List X) where
  -- an element stays at its index
  pub slice_get-append : (ys : List X) (i : ℕ) (x : X) → slice_get xs i ≡ Some x → slice_get (xs ++ ys) i ≡ Some x
  slice_get-append ys i x e =
      let lt = slice_get_within xs i x e in
      let here = get_or_from_slice_get xs i x x e in
      let there = get_or_append_left xs ys x i lt in
      slice_get-get_or (xs ++ ys) i x (omega (arith, length-append xs ys)) ∙ ap Some (there ∙ here)

  -- an element was there before, or it is the one that was added
  pub slice_get-push_cases : (x y : X) (i : ℕ) → slice_get (xs ++ x ∷ []) i ≡ Some y → (slice_get xs i ≡ Some y) ⊎ ((i ≡ length xs) × (y ≡ x))
  slice_get-push_cases x y i e = by (nat_lt i (length xs)) refl
    where
      lt : i < length (xs ++ x ∷ [])
      lt = slice_get_within (xs ++ x ∷ []) i y e

      here : get_or (xs ++ x ∷ []) i y ≡ y
      here = get_or_from_slice_get (xs ++ x ∷ []) i y y e

      by : (b : Bool) → nat_lt i (length xs) ≡ b → (slice_get xs i ≡ Some y) ⊎ ((i ≡ length xs) × (y ≡ x))
      by true h =
          let below : i < length xs = grind arith in
          inl (slice_get-get_or xs i y below ∙ ap Some (sym (get_or_append_left xs (x ∷ []) y i below) ∙ here))
      by false h =
          let above : length xs ≤ i = grind arith in
          let same : i ≡ length xs = omega (arith, lt, length-append xs (x ∷ [])) in
          inr (same, sym here ∙ ap (λ k. get_or (xs ++ x ∷ []) k y) same ∙ get_or-append_seam xs x [] y)

-- what is before a node stays so when Ids are added
IsEarlier-more : (log log' : List ℕ) (i : ℕ) (id : Id) → ((k : ℕ) → Contains log k → Contains log' k) → IsEarlier log i id → IsEarlier log' i id
IsEarlier-more log log' i id more e = record { named = e.named; joined = λ l u. more id.0 (e.joined l u) }

-- a node stays sound when squares are added
pub IsNode-append : (log : List ℕ) (stored more : List Tree) (i : ℕ) (n : Node) → i ≤ length stored → IsNode log stored i n → IsNode log (stored ++ more) i n
IsNode-append log stored more i n le e =
    let same = node_square-append stored more i n le e.nw.named e.ne.named e.sw.named e.se.named in
    record {
      nw = e.nw;
      ne = e.ne;
      sw = e.sw;
      se = e.se;
      full = subst IsFull (sym same) e.full;
      low = subst (λ t. depth t ≤ MAX_LEVEL) (sym same) e.low;
      not_blank = ap is_blank_tree same ∙ e.not_blank;
    }

-- and when Ids are added
pub IsNode-more : (log log' : List ℕ) (stored : List Tree) (i : ℕ) (n : Node) → ((k : ℕ) → Contains log k → Contains log' k) → IsNode log stored i n
    → IsNode log' stored i n
IsNode-more log log' stored i n more e = record {
  nw = IsEarlier-more log log' i (id_of n.nw) more e.nw;
  ne = IsEarlier-more log log' i (id_of n.ne) more e.ne;
  sw = IsEarlier-more log log' i (id_of n.sw) more e.sw;
  se = IsEarlier-more log log' i (id_of n.se) more e.se;
  full = e.full;
  low = e.low;
  not_blank = e.not_blank;
}

-- the square of a node's Id
pub square_of-node : (s : Nodes) (i : ℕ) (n : Node) (id : Id) → IsSoundStore s → slice_get s.nodes i ≡ Some n → id.0 ≡ 66064 + i
    → square_of (squares s.nodes) id ≡ node_square (squares s.nodes) n
square_of-node s i n id h at e = by (kind_of (squares s.nodes) id)
  where
    by : Kinds (squares s.nodes) id → square_of (squares s.nodes) id ≡ node_square (squares s.nodes) n
    by (a_state l f) = absurd (omega arith)
    by (a_blank l u f) = absurd (omega arith)
    by (a_small l u f) = absurd (omega arith)
    by (a_node l f) =
        let same : id.0 - 66064 ≡ i = omega arith in
        f ∙ ap (λ k. get_or (squares s.nodes) k (point 0)) same ∙ get_or_from_slice_get (squares s.nodes) i _ (point 0) (h.square i n at)

-- the square of a small square's Id
pub square_of-small : (S : List Tree) (id : Id) → 512 ≤ id.0 → id.0 < 66064 → square_of S id ≡ small_square id.0
square_of-small S id l u = by (kind_of S id)
  where
    by : Kinds S id → square_of S id ≡ small_square id.0
    by (a_state m f) = absurd (omega arith)
    by (a_blank m v f) = absurd (omega arith)
    by (a_small m v f) = f
    by (a_node m f) = absurd (omega arith)

-- the square of a node's or a small square's Id
pub square_of-id : (s : Nodes) (n : Node) (id : Id) → IsSoundStore s → IsIdOf s n id → square_of (squares s.nodes) id ≡ node_square (squares s.nodes) n
square_of-id s n id h (as_node i e at) = square_of-node s i n id h at e
square_of-id s n id h (as_small e there) =
    let r = small_range n.nw n.ne n.sw n.se id.0 e in
    square_of-small (squares s.nodes) id r.0 r.1 ∙ small_node (squares s.nodes) n id.0 e

-- a known Id is that of a blank square exactly if its square is blank
pub is_blank-content : (s : Nodes) (id : Id) → Knows s id → is_blank_tree (square_of (squares s.nodes) id) ≡ is_blank_id id
is_blank-content s id h = by (names s id h)
  where
    by : Names s id → is_blank_tree (square_of (squares s.nodes) id) ≡ is_blank_id id
    by (the_state l e) = ap is_blank_tree e ∙ grind arith
    by (the_blank k l i e) = ap is_blank_tree e ∙ is_blank-blank (suc k) ∙ grind arith
    by (the_node i n l le at node e) = ap is_blank_tree e ∙ node.not_blank ∙ grind arith
