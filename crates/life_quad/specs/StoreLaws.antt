-- Facts about stores of nodes: proofs, for the ghost members of the stores.
use Rattle.std.proofs.Common.{◌≡◌, true≢false, ℕ, suc, ◌+◌, ◌-◌, ◌≤◌, ◌<◌, Bool, true, false, nat_lt, List, length, None, Some, slice_get, get_or, refl, sym, ◌∙◌, ap, subst, arith}
use Rattle.std.proofs.lemmas.Option.{slice_get-get_or, get_or_from_slice_get}
use Rattle.life_base.specs.declared.cell.TheConstants.{MAX_LEVEL}
use Rattle.life_quad.specs.declared.id.Id.{Id}
use Rattle.life_quad.specs.declared.id.Node.{Node}
use Rattle.life_base.specs.Tree.{Tree, point, quad, depth, blank, is_blank_tree, IsFull}
use Rattle.life_quad.specs.Store.{Nodes, id_of, square_of, small_square, small_number_of, node_square, squares, IsEarlier, IsNode, IsShared, IsIdOf, as_small, as_node, Knows}
use Rattle.life_quad.specs.SmallLaws.{smalls, small_square-is}
use Rattle.life_base.proofs.Squares.{depth-blank, full-blank, is_blank-blank, quad_nw, quad_ne, quad_sw, quad_se, point_state, point≢quad}

-- what kind of square an Id names
pub data Kinds (stored : List Tree) (id : Id) : Type 0 where
  a_state : id.0 < 256 → square_of stored id ≡ point id.0 → Kinds stored id
  a_blank : 256 ≤ id.0 → id.0 < 512 → square_of stored id ≡ blank (id.0 - 255) → Kinds stored id
  a_small : 512 ≤ id.0 → id.0 < 66064 → square_of stored id ≡ small_square id.0 → Kinds stored id
  a_node : 66064 ≤ id.0 → square_of stored id ≡ get_or stored (id.0 - 66064) (point 0) → Kinds stored id

pub kind_of : (stored : List Tree) (id : Id) → Kinds stored id
unfolding square_of
kind_of stored id = by (nat_lt id.0 256) refl (nat_lt id.0 512) refl (nat_lt id.0 66064) refl
  where
    by : (b : Bool) → nat_lt id.0 256 ≡ b → (c : Bool) → nat_lt id.0 512 ≡ c → (d : Bool) → nat_lt id.0 66064 ≡ d → Kinds stored id
    by true e c f d g = a_state (grind arith) (grind arith)
    by false e true f d g = a_blank (grind arith) (grind arith) (grind arith)
    by false e false f true g = a_small (grind arith) (grind arith) (grind arith)
    by false e false f false g = a_node (grind arith) (grind arith)

-- the square of a small square's quarters
pub small_node : (S : List Tree) (n : Node) (k : ℕ) → small_number_of n ≡ Some k → small_square k ≡ node_square S n
small_node S n k h = small_square-is S n.nw n.ne n.sw n.se k (smalls n.nw n.ne n.sw n.se k h)

-- the square of a known Id, which is a state, a blank square, or the square of a node or of the quarters of a small square
pub data Names (s : Nodes) (id : Id) : Type 0 where
  the_state : id.0 < 256 → square_of (squares s.nodes) id ≡ point id.0 → Names s id
  the_blank : (k : ℕ) → k < MAX_LEVEL → id.0 ≡ 256 + k → square_of (squares s.nodes) id ≡ blank (suc k) → Names s id
  the_node : (i : ℕ) (n : Node) → 512 ≤ id.0 → i ≤ length s.nodes → IsIdOf s n id → IsNode s.log (squares s.nodes) i n
      → square_of (squares s.nodes) id ≡ node_square (squares s.nodes) n → Names s id

pub names : (s : Nodes) (id : Id) → Knows s id → Names s id
names s id h = by (kind_of (squares s.nodes) id)
  where
    by : Kinds (squares s.nodes) id → Names s id
    by (a_state l e) = the_state l e
    by (a_blank l u e) =
        let low = h.named.blank u in
        let k : id.0 - 255 ≡ suc (id.0 - 256) = omega arith in
        the_blank (id.0 - 256) (omega arith) (omega arith) (e ∙ ap blank k)
    by (a_small l u e) =
        let there = h.joined l u in
        let small = h.sound.small id.0 there u in
        the_node 0 small.quarters l (omega arith) (as_small small.number there) small.is (e ∙ small_node (squares s.nodes) small.quarters id.0 small.number)
    by (a_node l e) =
        let i = id.0 - 66064 in
        let lt : i < length s.nodes = omega (arith, h.named.below) in
        let n : Node = get_or s.nodes i (record { nw = 0; ne = 0; sw = 0; se = 0 }) in
        let at : slice_get s.nodes i ≡ Some n = slice_get-get_or s.nodes i _ lt in
        the_node i n (omega arith) (omega arith) (as_node i (omega arith) at) (h.sound.entries i n at)
        (e ∙ get_or_from_slice_get (squares s.nodes) i _ (point 0) (h.sound.square i n at))

-- a known Id names a full square
pub full_content : (s : Nodes) (id : Id) → Knows s id → IsFull (square_of (squares s.nodes) id)
full_content s id h = by (names s id h)
  where
    by : Names s id → IsFull (square_of (squares s.nodes) id)
    by (the_state l e) = subst IsFull (sym e) l
    by (the_blank k l i e) = subst IsFull (sym e) (full-blank (suc k))
    by (the_node i n l le at node e) = subst IsFull (sym e) node.full

-- of the greatest level at most
pub low_content : (s : Nodes) (id : Id) → Knows s id → depth (square_of (squares s.nodes) id) ≤ MAX_LEVEL
low_content s id h = by (names s id h)
  where
    by : Names s id → depth (square_of (squares s.nodes) id) ≤ MAX_LEVEL
    by (the_state l e) = let f = ap depth e in omega arith
    by (the_blank k l i e) = let f : depth (square_of (squares s.nodes) id) ≡ suc k = ap depth e ∙ depth-blank (suc k) in omega arith
    by (the_node i n l le at node e) = subst (λ t. depth t ≤ MAX_LEVEL) (sym e) node.low

-- Ids with one number are equal
pub same_ids : {a b : Id} → a.0 ≡ b.0 → a ≡ b
same_ids e = λ i. record { 0 = e i }

blank≢false : (t : Tree) → is_blank_tree t ≡ true → is_blank_tree t ≡ false → ⊥
blank≢false t a b = true≢false (sym a ∙ b)

-- two known Ids of the square t are equal
abbrev IsAlone : Nodes → Tree → Type 0
IsAlone s t = (a b : Id) → Knows s a → Knows s b → square_of (squares s.nodes) a ≡ t → square_of (squares s.nodes) b ≡ t → a ≡ b

-- a node has one Id
pub one_id : (s : Nodes) → IsShared s → (n : Node) (a b : Id) → IsIdOf s n a → IsIdOf s n b → a ≡ b
one_id s shared n a b (as_small e x) (as_small f y) = let same : Some a.0 ≡ Some b.0 = sym e ∙ f in same_ids (cc)
one_id s shared n a b (as_small e x) (as_node i f at) = absurd (let none : Some a.0 ≡ None = sym e ∙ shared.apart i n at in cc)
one_id s shared n a b (as_node i e at) (as_small f y) = absurd (let none : Some b.0 ≡ None = sym f ∙ shared.apart i n at in cc)
one_id s shared n a b (as_node i e at) (as_node j f to) = let same = shared.once i j n at to in same_ids (omega arith)

same_quads : (s : Nodes) → IsShared s → (p q r u : Tree) (a b : Id) → Knows s a → Knows s b
    → square_of (squares s.nodes) a ≡ quad p q r u → square_of (squares s.nodes) b ≡ quad p q r u
    → IsAlone s p → IsAlone s q → IsAlone s r → IsAlone s u → a ≡ b
same_quads s shared p q r u a b ha hb ea eb on_nw on_ne on_sw on_se = by (names s a ha) (names s b hb)
  where
    child : (i : ℕ) (id : Id) → i ≤ length s.nodes → IsEarlier s.log i id → Knows s id
    child i id le h = record { sound = ha.sound; named = record { below = omega (arith, h.named.below); blank = h.named.blank }; joined = h.joined }

    by : Names s a → Names s b → a ≡ b
    by (the_state l e) other = absurd (point≢quad (sym e ∙ ea))
    by (the_blank k l i e) (the_state m f) = absurd (point≢quad (sym f ∙ eb))
    by (the_blank k l i e) (the_blank k' l' i' f) =
        let d : suc k ≡ suc k' = sym (depth-blank (suc k)) ∙ ap depth (sym e ∙ ea ∙ sym eb ∙ f) ∙ depth-blank (suc k') in
        same_ids (omega arith)
    by (the_blank k l i e) (the_node i' n' l' le' at' node' f) =
        absurd (blank≢false (node_square (squares s.nodes) n') (ap is_blank_tree (sym f ∙ eb ∙ sym ea ∙ e) ∙ is_blank-blank (suc k)) node'.not_blank)
    by (the_node i n l le at node e) (the_state m f) = absurd (point≢quad (sym f ∙ eb))
    by (the_node i n l le at node e) (the_blank k' l' i' f) =
        absurd (blank≢false (node_square (squares s.nodes) n) (ap is_blank_tree (sym e ∙ ea ∙ sym eb ∙ f) ∙ is_blank-blank (suc k')) node.not_blank)
    by (the_node i n l le at node e) (the_node i' n' l' le' at' node' f) =
        let left = sym e ∙ ea in
        let right = sym f ∙ eb in
        let nw = on_nw (id_of n.nw) (id_of n'.nw) (child i (id_of n.nw) le node.nw) (child i' (id_of n'.nw) le' node'.nw) (quad_nw left) (quad_nw right) in
        let ne = on_ne (id_of n.ne) (id_of n'.ne) (child i (id_of n.ne) le node.ne) (child i' (id_of n'.ne) le' node'.ne) (quad_ne left) (quad_ne right) in
        let sw = on_sw (id_of n.sw) (id_of n'.sw) (child i (id_of n.sw) le node.sw) (child i' (id_of n'.sw) le' node'.sw) (quad_sw left) (quad_sw right) in
        let se = on_se (id_of n.se) (id_of n'.se) (child i (id_of n.se) le node.se) (child i' (id_of n'.se) le' node'.se) (quad_se left) (quad_se right) in
        let same : n ≡ n' = λ x. record { nw = (nw x).0; ne = (ne x).0; sw = (sw x).0; se = (se x).0 } in
        one_id s shared n' a b (subst (λ m. IsIdOf s m a) same at) at'

-- two known Ids of one square are equal
pub same_id_at : (s : Nodes) → IsShared s → (t : Tree) (a b : Id) → Knows s a → Knows s b
    → square_of (squares s.nodes) a ≡ t → square_of (squares s.nodes) b ≡ t → a ≡ b
same_id_at s shared (point v) a b ha hb ea eb = same_ids (only a (names s a ha) ea ∙ sym (only b (names s b hb) eb))
  where
    only : (id : Id) → Names s id → square_of (squares s.nodes) id ≡ point v → id.0 ≡ v
    only id (the_state l e) f = point_state (sym e ∙ f)
    only id (the_blank k l i e) f = absurd (point≢quad (sym f ∙ e))
    only id (the_node i n l le at node e) f = absurd (point≢quad (sym f ∙ e))
same_id_at s shared (quad p q r u) a b ha hb ea eb =
    same_quads s shared p q r u a b ha hb ea eb
    (λ x y hx hy ex ey. same_id_at s shared p x y hx hy ex ey) (λ x y hx hy ex ey. same_id_at s shared q x y hx hy ex ey)
    (λ x y hx hy ex ey. same_id_at s shared r x y hx hy ex ey) (λ x y hx hy ex ey. same_id_at s shared u x y hx hy ex ey)

pub same_id : (s : Nodes) → IsShared s → (a b : Id) → Knows s a → Knows s b → square_of (squares s.nodes) a ≡ square_of (squares s.nodes) b → a ≡ b
same_id s shared a b ha hb e = same_id_at s shared (square_of (squares s.nodes) b) a b ha hb e refl
