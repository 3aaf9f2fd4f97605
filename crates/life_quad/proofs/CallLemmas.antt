-- What the calls of a shared store answer.
use Rattle.std.proofs.Common.{◌≡◌, ◌≢◌, length-append, Contains, ◌⊎◌, inl, inr, true≢false, ◌&&◌, ℕ, zero, suc, ◌+◌, ◌-◌, ◌≤◌, ◌<◌, Bool, true, false, List, [], ◌∷◌, ◌++◌, length, None, Some, slice_get, get_or, Result, Ok, Err, OnOk, OnErr, refl, sym, ◌∙◌, ap, subst, arith, map, ◌↔◌, nat_lt, append-nil, ◌^◌, if◌then◌else◌, IfErr, IsErr, IsErrAnd}
use Rattle.std.proofs.lemmas.List.Elements.{All-cons, All-nil, Contains-append_left, Contains-append_right, Contains-push, Contains-push_cases, Contains-get_or}
use Rattle.std.proofs.lemmas.List.{length-map, get_or-map, map_push}
use Rattle.std.specs.List.{list_any, position, All, AllPairs}
use Rattle.std.proofs.lemmas.List.Quantifiers.{position-Some}
use Rattle.indexmap.specs.IndexSet.{insert_key}
use Rattle.std.proofs.lemmas.Option.{slice_get-get_or, slice_get_within, get_or_from_slice_get}
use Rattle.std.proofs.lemmas.List.Folds.{list_any_at}
use Rattle.std.proofs.lemmas.Bool.{cases_eq}
use Rattle.life_base.specs.declared.kind.Kind.{Kind}
use Rattle.life_base.specs.declared.kind.Kind.TheVariants.{Full, Memory}
use Rattle.life_base.specs.declared.cell.TheConstants.{MAX_LEVEL}
use Rattle.life_quad.specs.declared.id.Id.{Id}
use Rattle.life_quad.specs.declared.id.Node.{Node}
use Rattle.life_quad.specs.contracts.id.NodePartialEq.TheImpl.{eq-value}
use Rattle.life_base.specs.Tree.{Tree, point, quad, depth, quarters, blank, is_blank_tree, IsFull}
use Rattle.life_base.proofs.Squares.{depth-blank, is_blank-blank, blank_is, quad_nw, quad_ne, quad_sw, quad_se, point_state, point≢quad}
use Rattle.life_base.proofs.Basics.{slice_get-last}
use Rattle.life_quad.specs.Store.{Nodes, two, four, small_square, small_number_of, id_of, square_of, node_square, squares, levels_of, content, stored_squares, is_blank_id, IsIdWithin, IsEarlier, IsNode, IsSmall, IsSoundStore, IsShared, Knows, IsIdOf, as_small, as_node, Joined, was_there, is_new, AnswersJoin, HasSeen}
use Rattle.life_quad.specs.Keeping.{KeepsSquares, AddsOnly, IsShortageKind}
use Rattle.life_quad.specs.IdNumbers.{first_of}
use Rattle.life_quad.proofs.SmallLemmas.{small_range, quarters_range}
use Rattle.life_quad.specs.StoreLaws.{Kinds, a_state, a_blank, a_small, a_node, kind_of, Names, the_state, the_blank, the_node, names, same_id, same_ids, small_node, full_content}
use Rattle.life_quad.proofs.StoreLemmas.{length-squares, squares-push, square_of-append, square_of-node, square_of-small, square_of-id, is_blank-content, slice_get-push_cases, node_square-append}
use Rattle.life_quad.proofs.KeepingLemmas.{keeps-same, adds-none}
use Rattle.life_quad.proofs.MakingLemmas.{Joins}
use Rattle.life_quad.proofs.GrowLemmas.{with_id, with_node, with_both, IsSound-id, IsSound-both, IsShared-id, IsShared-both}

-- one more node is within the limit and gets an Id of 32 bits
pub record HasSpace (s : Nodes) : Type 0 where
  pub limit : length s.log < s.limit
  pub few : 66064 + length s.nodes < 2 ^ 32

pub square_of-state : (S : List Tree) (v : ℕ) → v < 256 → square_of S (id_of v) ≡ point v
unfolding square_of
square_of-state S v l = grind arith

pub square_of-blank : (S : List Tree) (l : ℕ) → 0 < l → l ≤ MAX_LEVEL → square_of S (id_of (255 + l)) ≡ blank l
unfolding square_of
square_of-blank S l pos low =
    let e : 255 + l - 255 ≡ l = omega arith in
    let f : blank (255 + l - 255) ≡ blank l = ap blank e in
    grind arith

-- a known Id of a blank square
pub blank_id : (s : Nodes) (id : Id) (l : ℕ) → Knows s id → square_of (squares s.nodes) id ≡ blank l → ((l ≡ 0) × (id.0 ≡ 0)) ⊎ ((0 < l) × (id.0 ≡ 255 + l))
blank_id s id zero h e = by (names s id h)
  where
    by : Names s id → ((zero ≡ 0) × (id.0 ≡ 0)) ⊎ ((0 < zero) × (id.0 ≡ 255 + zero))
    by (the_state m f) = inl (refl, point_state (sym f ∙ e))
    by (the_blank k m i f) = absurd (point≢quad (sym e ∙ f))
    by (the_node i n l' le at node f) = absurd (point≢quad (sym e ∙ f))
blank_id s id (suc l) h e = by (names s id h)
  where
    by : Names s id → ((suc l ≡ 0) × (id.0 ≡ 0)) ⊎ ((0 < suc l) × (id.0 ≡ 255 + suc l))
    by (the_state m f) = absurd (point≢quad (sym f ∙ e))
    by (the_blank k m i f) =
        let d : suc k ≡ suc l = sym (depth-blank (suc k)) ∙ ap depth (sym f ∙ e) ∙ depth-blank (suc l) in
        inr (omega arith, omega arith)
    by (the_node i n l' le at node f) =
        absurd (true≢false (sym (is_blank-blank (suc l)) ∙ ap is_blank_tree (sym e ∙ f) ∙ node.not_blank))

pub alone_zero : (s : Nodes) (l : ℕ) → l ≡ 0 → (id : Id) → Knows s id → square_of (squares s.nodes) id ≡ blank l → id ≡ id_of 0
alone_zero s l z id h e = by (blank_id s id l h e)
  where
    by : ((l ≡ 0) × (id.0 ≡ 0)) ⊎ ((0 < l) × (id.0 ≡ 255 + l)) → id ≡ id_of 0
    by (inl p) = same_ids p.1
    by (inr p) = let q = p.0 in absurd (omega arith)

pub alone_blank : (s : Nodes) (l : ℕ) → 0 < l → (id : Id) → Knows s id → square_of (squares s.nodes) id ≡ blank l → id ≡ id_of (255 + l)
alone_blank s l z id h e = by (blank_id s id l h e)
  where
    by : ((l ≡ 0) × (id.0 ≡ 0)) ⊎ ((0 < l) × (id.0 ≡ 255 + l)) → id ≡ id_of (255 + l)
    by (inl p) = let q = p.0 in absurd (omega arith)
    by (inr p) = same_ids p.1

-- the three kinds of Ids by their numbers
pub state_content : (s : Nodes) (id : Id) → Knows s id → id.0 < 256 → square_of (squares s.nodes) id ≡ point id.0
unfolding square_of
state_content s id h l = grind arith

pub blank_content : (s : Nodes) (id : Id) → Knows s id → 256 ≤ id.0 → id.0 < 512 → square_of (squares s.nodes) id ≡ blank (suc (id.0 - 256))
blank_content s id h l u = by (names s id h)
  where
    by : Names s id → square_of (squares s.nodes) id ≡ blank (suc (id.0 - 256))
    by (the_state m f) = absurd (omega arith)
    by (the_blank k m i f) = let e : k ≡ id.0 - 256 = omega arith in f ∙ ap (λ z. blank (suc z)) e
    by (the_node i n l' le at node f) = absurd (omega arith)

pub node_content : (s : Nodes) (id : Id) (n : Node) → IsSoundStore s → 66064 ≤ id.0 → slice_get s.nodes (id.0 - 66064) ≡ Some n
    → square_of (squares s.nodes) id ≡ node_square (squares s.nodes) n
node_content s id n h l at = square_of-node s (id.0 - 66064) n id h at (omega arith)

-- the level of a node's square
pub node_level : (s : Nodes) (id : Id) (level d : ℕ) → Knows s id → 66064 ≤ id.0 → level ≡ get_or (levels_of s.nodes) (id.0 - 66064) d
    → level ≡ depth (square_of (squares s.nodes) id)
node_level s id level d h l at = by (kind_of (squares s.nodes) id)
  where
    lt : id.0 - 66064 < length (squares s.nodes)
    lt = let m = h.named.below in omega (arith, m, length-squares s.nodes)

    by : Kinds (squares s.nodes) id → level ≡ depth (square_of (squares s.nodes) id)
    by (a_state m e) = absurd (omega arith)
    by (a_blank m u e) = absurd (omega arith)
    by (a_small m u e) = absurd (omega arith)
    by (a_node m e) = at ∙ get_or-map depth (squares s.nodes) (id.0 - 66064) (point 0) d lt ∙ sym (ap depth e)

-- a known Id is among the cells, the blank and small squares, and the nodes that have levels
pub named_level : (s : Nodes) (id : Id) (levels : List ℕ) → levels ≡ levels_of s.nodes → Knows s id → IsIdWithin (length levels) id
named_level s id levels e h =
    let len : length levels ≡ length s.nodes = ap length e ∙ length-map (squares s.nodes) depth ∙ length-squares s.nodes in
    record { below = omega (arith, h.named.below, len); blank = h.named.blank }

-- a quarter of a node or of a small square is known
pub knows_quarter : (s : Nodes) (i : ℕ) (id : Id) → IsSoundStore s → i ≤ length s.nodes → IsEarlier s.log i id → Knows s id
knows_quarter s i id h le e = record { sound = h; named = record { below = omega (arith, e.named.below); blank = e.named.blank }; joined = e.joined }

-- a known small square by its quarters
pub small_content : (s : Nodes) (id : Id) → Knows s id → 512 ≤ id.0 → id.0 < 66064 → IsSmall s.log (squares s.nodes) id.0
small_content s id h l u = h.sound.small id.0 (h.joined l u) u

pub small_level : (s : Nodes) (id : Id) → Knows s id → 512 ≤ id.0 → id.0 < 66064 → depth (square_of (squares s.nodes) id) ≡ (if nat_lt id.0 528 then 1 else 2)
unfolding small_square
small_level s id h l u = ap depth (square_of-small (squares s.nodes) id l u) ∙ by (nat_lt id.0 528) refl
  where
    by : (b : Bool) → nat_lt id.0 528 ≡ b → depth (if nat_lt id.0 528 then two (id.0 - 512) else four (id.0 - 528)) ≡ (if nat_lt id.0 528 then 1 else 2)
    by true e = rw e refl
    by false e = rw e refl

-- the Id of a square of a level or a higher one that isn't blank comes after those of all small squares, unless the level may be that of one
pub from_first : (s : Nodes) (level : ℕ) (id : Id) → Knows s id → level ≤ depth (content s id) → is_blank_tree (content s id) ≡ false → first_of level ≤ id.0
from_first s level id h high shown = by (nat_lt 2 level) refl
  where
    node : 2 < level → Kinds (squares s.nodes) id → 66064 ≤ id.0
    node lt (a_state m e) = let d : depth (content s id) ≡ 0 = ap depth (state_content s id h m) in absurd (omega (arith, lt, high, d))
    node lt (a_blank m u e) =
        let b : is_blank_tree (content s id) ≡ true = ap is_blank_tree (blank_content s id h m u) ∙ is_blank-blank (suc (id.0 - 256)) in
        absurd (true≢false (sym b ∙ shown))
    node lt (a_small m u e) = let d = small_level s id h m u in absurd (least (nat_lt id.0 528) d)
      where
        least : (b : Bool) → depth (content s id) ≡ (if b then 1 else 2) → ⊥
        least true d = omega (arith, lt, high, d)
        least false d = omega (arith, lt, high, d)
    node lt (a_node m e) = m

    by : (b : Bool) → nat_lt 2 level ≡ b → first_of level ≤ id.0
    by true e = rw e (node (grind arith) (kind_of (squares s.nodes) id))
    by false e = rw e (omega arith)

-- two nodes are equal as values where their test says so
pub same_node : (a b : Node) → eq-value.it a b ≡ true → a ≡ b
same_node a b h =
    let nw : a.nw ≡ b.nw = grind arith in
    let ne : a.ne ≡ b.ne = grind arith in
    let sw : a.sw ≡ b.sw = grind arith in
    let se : a.se ≡ b.se = grind arith in
    λ x. record { nw = nw x; ne = ne x; sw = sw x; se = se x }

pub same_node_test : (a : Node) → eq-value.it a a ≡ true
same_node_test a = grind arith

-- the test of a list for a node
pub list_any-Contains : (ns : List Node) (n : Node) → Contains ns n → list_any (eq-value.it n) ns ≡ true
list_any-Contains ns n (k, lt, e) = list_any_at (eq-value.it n) ns k n lt (ap (eq-value.it n) e ∙ same_node_test n)

-- ---- the squares that a store holds

module _ {X Y : Type 0} (f g : X → Y) where
  -- two functions that agree on the elements
  map_same : (xs : List X) → ((x : X) → Contains xs x → f x ≡ g x) → map f xs ≡ map g xs
  map_same [] h = refl
  map_same (x ∷ xs) h =
      let here : f x ≡ g x = h x (0, omega arith, refl) in
      let rest = map_same xs (λ y i. h y (Contains-append_right (x ∷ []) xs y i)) in
      λ i. here i ∷ rest i

pub length-held : (s : Nodes) → length (stored_squares s) ≡ length s.log
length-held s = length-map s.log (λ k. content s (id_of k))

pub held-none : (s : Nodes) → s.log ≡ [] → stored_squares s ≡ []
held-none s e = ap (map (λ k. content s (id_of k))) e

-- the square of an Id that was joined
pub held_at : (s : Nodes) (k : ℕ) → Contains s.log k → Contains (stored_squares s) (content s (id_of k))
held_at s k (i, lt, e) =
    let f : ℕ → Tree = λ j. content s (id_of j) in
    (i, omega (arith, lt, length-held s), get_or-map f s.log i k (f k) lt ∙ ap f e)

-- the Id of a square that is held
held_from : (s : Nodes) (t : Tree) → Contains (stored_squares s) t → (k : ℕ) × Contains s.log k × (content s (id_of k) ≡ t)
held_from s t (i, lt, e) =
    let f : ℕ → Tree = λ j. content s (id_of j) in
    let below : i < length s.log = omega (arith, lt, length-held s) in
    (get_or s.log i 0, Contains-get_or s.log i 0 below, sym (get_or-map f s.log i 0 t below) ∙ e)

-- an Id that was joined is known
knows_logged : (s : Nodes) (k : ℕ) → IsSoundStore s → IsShared s → Contains s.log k → Knows s (id_of k) × (512 ≤ k)
knows_logged s k h u there = by (nat_lt k 66064) refl
  where
    by : (b : Bool) → nat_lt k 66064 ≡ b → Knows s (id_of k) × (512 ≤ k)
    by true e =
        let low : k < 66064 = grind arith in
        let small = h.small k there low in
        let q = small.quarters in
        let r = small_range q.nw q.ne q.sw q.se k small.number in
        (record { sound = h; named = record { below = omega arith; blank = λ l. absurd (omega (arith, r.0, l)) }; joined = λ _ _. there }, r.0)
    by false e =
        let high : 66064 ≤ k = grind arith in
        (record { sound = h; named = record { below = u.known k there; blank = λ l. absurd (omega arith) }; joined = λ _ _. there }, omega arith)

-- the Id of a node or of a small square is known
pub knows_id : (s : Nodes) (n : Node) (id : Id) → IsSoundStore s → IsIdOf s n id → Knows s id
knows_id s n id h (as_small e there) =
    let r = small_range n.nw n.ne n.sw n.se id.0 e in
    record { sound = h; named = record { below = omega (arith, r.1); blank = λ l. absurd (omega (arith, l, r.0)) }; joined = λ _ _. there }
knows_id s n id h (as_node i e at) =
    let lt = slice_get_within s.nodes i n at in
    record { sound = h; named = record { below = omega (arith, lt); blank = λ l. absurd (omega arith) }; joined = λ l u. absurd (omega arith) }

-- and was joined
id_logged : (s : Nodes) (n : Node) (id : Id) → IsShared s → IsIdOf s n id → Contains s.log id.0
id_logged s n id h (as_small e there) = there
id_logged s n id h (as_node i e at) = subst (Contains s.log) (sym e) (h.logged i (slice_get_within s.nodes i n at))

-- so its square is held
pub id_held : (s : Nodes) (n : Node) (id : Id) → IsSoundStore s → IsShared s → IsIdOf s n id → Contains (stored_squares s) (node_square (squares s.nodes) n)
id_held s n id h u e = subst (Contains (stored_squares s)) (square_of-id s n id h e) (held_at s id.0 (id_logged s n id u e))

-- a held square of four quarters has their Id
pub held_id : (s : Nodes) (i : ℕ) (n : Node) → IsSoundStore s → IsShared s → i ≤ length s.nodes → IsNode s.log (squares s.nodes) i n
    → Contains (stored_squares s) (node_square (squares s.nodes) n)
    → (id : Id) × IsIdOf s n id
held_id s i n h u le new there = by (held_from s (node_square S n) there)
  where
    S : List Tree
    S = squares s.nodes

    child : (j : ℕ) (id : Id) → j ≤ length s.nodes → IsEarlier s.log j id → Knows s id
    child j id l e = knows_quarter s j id h l e

    at : (k : ℕ) → content s (id_of k) ≡ node_square S n → Names s (id_of k) → (id : Id) × IsIdOf s n id
    at k e (the_state l f) = absurd (point≢quad (sym f ∙ e))
    at k e (the_blank j l i f) = absurd (true≢false (sym (is_blank-blank (suc j)) ∙ ap is_blank_tree (sym f ∙ e) ∙ new.not_blank))
    at k e (the_node j m l lj is node f) =
        let same : node_square S m ≡ node_square S n = sym f ∙ e in
        let nw = same_id s u (id_of m.nw) (id_of n.nw) (child j (id_of m.nw) lj node.nw) (child i (id_of n.nw) le new.nw) (quad_nw same) in
        let ne = same_id s u (id_of m.ne) (id_of n.ne) (child j (id_of m.ne) lj node.ne) (child i (id_of n.ne) le new.ne) (quad_ne same) in
        let sw = same_id s u (id_of m.sw) (id_of n.sw) (child j (id_of m.sw) lj node.sw) (child i (id_of n.sw) le new.sw) (quad_sw same) in
        let se = same_id s u (id_of m.se) (id_of n.se) (child j (id_of m.se) lj node.se) (child i (id_of n.se) le new.se) (quad_se same) in
        let equal : m ≡ n = λ x. record { nw = (nw x).0; ne = (ne x).0; sw = (sw x).0; se = (se x).0 } in
        (id_of k, subst (λ z. IsIdOf s z (id_of k)) equal is)

    by : (k : ℕ) × Contains s.log k × (content s (id_of k) ≡ node_square S n) → (id : Id) × IsIdOf s n id
    by (k, logged, e) = at k e (names s (id_of k) (knows_logged s k h u logged).0)

-- the squares of two Ids differ
pub held-distinct : (s : Nodes) → IsSoundStore s → IsShared s → AllPairs ◌≢◌ (stored_squares s)
held-distinct s h u i j d before below e =
    let f : ℕ → Tree = λ k. content s (id_of k) in
    let lt : j < length s.log = omega (arith, below, length-held s) in
    let first : i < length s.log = omega arith in
    let a = get_or s.log i 0 in
    let b = get_or s.log j 0 in
    let ka = knows_logged s a h u (Contains-get_or s.log i 0 first) in
    let kb = knows_logged s b h u (Contains-get_or s.log j 0 lt) in
    let same = same_id s u (id_of a) (id_of b) ka.0 kb.0 (sym (get_or-map f s.log i 0 d first) ∙ e ∙ get_or-map f s.log j 0 d lt) in
    u.distinct i j 0 before lt (ap (λ k. k.0) same)

-- each known square of level 1 or more that is not blank is held
pub held-complete : (s : Nodes) → IsShared s → (id : Id) → Knows s id → is_blank_tree (content s id) ≡ false → 0 < depth (content s id)
    → Contains (stored_squares s) (content s id)
held-complete s u id h full deep = by (names s id h)
  where
    by : Names s id → Contains (stored_squares s) (content s id)
    by (the_state m f) = absurd (let e = ap depth f in omega (arith, e, deep))
    by (the_blank k m i f) = absurd (true≢false (sym (is_blank-blank (suc k)) ∙ ap is_blank_tree (sym f) ∙ full))
    by (the_node i n l le at node f) = held_at s id.0 (id_logged s n id u at)

-- a held square isn't blank, has level 1 or more and an Id
pub held-only : (s : Nodes) → IsSoundStore s → IsShared s → (t : Tree) → Contains (stored_squares s) t
    → (is_blank_tree t ≡ false) × (0 < depth t) × ((id : Id) × Knows s id × (content s id ≡ t))
held-only s h u t there = by (held_from s t there)
  where
    at : (k : ℕ) → 512 ≤ k → Knows s (id_of k) → content s (id_of k) ≡ t → Names s (id_of k) → (is_blank_tree t ≡ false) × (0 < depth t)
        × ((id : Id) × Knows s id × (content s id ≡ t))
    at k high known e (the_state l f) = absurd (omega arith)
    at k high known e (the_blank j l i f) = absurd (omega arith)
    at k high known e (the_node i n l le is node f) =
        let same : node_square (squares s.nodes) n ≡ t = sym f ∙ e in
        let deep : 0 < depth (node_square (squares s.nodes) n) = omega arith in
        (ap is_blank_tree (sym same) ∙ node.not_blank, subst (λ z. 0 < depth z) same deep, (id_of k, known, e))

    by : (k : ℕ) × Contains s.log k × (content s (id_of k) ≡ t) → (is_blank_tree t ≡ false) × (0 < depth t) × ((id : Id) × Knows s id × (content s id ≡ t))
    by (k, logged, e) = let known = knows_logged s k h u logged in at k known.1 known.0 e (names s (id_of k) known.0)

-- ---- a store with one more square

module _ (old new : Nodes) (more : List Tree) (grown : squares new.nodes ≡ squares old.nodes ++ more) where
  content-grown : (id : Id) → id.0 < 66064 + length old.nodes → content new id ≡ content old id
  content-grown id lt = ap (λ S. square_of S id) grown ∙ square_of-append (squares old.nodes) more id (omega (arith, lt, length-squares old.nodes))

  pub knows-grown : length old.nodes ≤ length new.nodes → ((k : ℕ) → Contains old.log k → Contains new.log k) → IsSoundStore new → (id : Id) → Knows old id
      → Knows new id × (content new id ≡ content old id)
  knows-grown le along h id k = (
    record { sound = h; named = record { below = omega (arith, k.named.below, le); blank = k.named.blank }; joined = λ l u. along id.0 (k.joined l u) },
    content-grown id k.named.below,
  )

  held-grown : (k : ℕ) → IsShared old → new.log ≡ old.log ++ k ∷ [] → stored_squares new ≡ stored_squares old ++ content new (id_of k) ∷ []
  held-grown k u e =
      let f : ℕ → Tree = λ j. content new (id_of j) in
      let same = map_same f (λ j. content old (id_of j)) old.log (λ j there. content-grown (id_of j) (u.known j there)) in
      ap (map f) e ∙ map_push f old.log k ∙ ap (λ z. z ++ f k ∷ []) same

-- an Id of a square that is there
pub joined_there : (s : Nodes) (n : Node) (id : Id) → IsSoundStore s → IsShared s → IsIdOf s n id → Joined s s (node_square (squares s.nodes) n) id
joined_there s n id h u e = was_there refl (id_held s n id h u e) (knows_id s n id h e, u) (square_of-id s n id h e)

-- a small square that was not joined is not held
pub absent_small : (s : Nodes) (k : ℕ) → IsSoundStore s → IsShared s → IsSmall s.log (squares s.nodes) k → ¬ Contains s.log k
    → ¬ Contains (stored_squares s) (small_square k)
absent_small s k h u small absent there = by
    (held_id s 0 small.quarters h u (omega arith) small.is
    (subst (Contains (stored_squares s)) (small_node (squares s.nodes) small.quarters k small.number) there))
  where
    of : (id : Id) → IsIdOf s small.quarters id → ⊥
    of id (as_small e logged) = let same : Some id.0 ≡ Some k = sym e ∙ small.number in let equal : id.0 ≡ k = cc in
        absent (subst (Contains s.log) equal logged)
    of id (as_node i e at) = let none : None ≡ Some k = sym (u.apart i small.quarters at) ∙ small.number in absurd (cc)

    by : (id : Id) × IsIdOf s small.quarters id → ⊥
    by (id, is) = of id is

-- a small square that is joined
pub joined_small : (s : Nodes) (k : ℕ) → IsSoundStore s → IsShared s → IsSmall s.log (squares s.nodes) k → ¬ Contains s.log k → length s.log < s.limit
    → Joined s (with_id s k) (small_square k) (id_of k)
joined_small s k h u small absent space =
    let q = small.quarters in
    let r = small_range q.nw q.ne q.sw q.se k small.number in
    let sound = IsSound-id s k h (λ _. small) in
    let shared = IsShared-id s k u absent r.1 space in
    let grown : squares s.nodes ≡ squares s.nodes ++ [] = sym (append-nil (squares s.nodes)) in
    let is : content (with_id s k) (id_of k) ≡ small_square k = square_of-small (squares s.nodes) (id_of k) r.0 r.1 in
    is_new (absent_small s k h u small absent)
    (λ id known. let p = knows-grown s (with_id s k) [] grown (omega arith) (λ j. Contains-append_left s.log (k ∷ []) j) sound id known.0 in
    ((p.0, shared), p.1))
    (held-grown s (with_id s k) [] grown k u refl ∙ ap (λ t. stored_squares s ++ t ∷ []) is)
    (knows_id (with_id s k) q (id_of k) sound (as_small small.number (Contains-push s.log k)), shared) is

-- a node that is not stored is not held
pub absent_node : (s : Nodes) (n : Node) → IsSoundStore s → IsShared s → IsNode s.log (squares s.nodes) (length s.nodes) n → small_number_of n ≡ None
    → ¬ Contains s.nodes n
    → ¬ Contains (stored_squares s) (node_square (squares s.nodes) n)
absent_node s n h u new large absent there = by (held_id s (length s.nodes) n h u (omega arith) new there)
  where
    of : (id : Id) → IsIdOf s n id → ⊥
    of id (as_small e logged) = let none : None ≡ Some id.0 = sym large ∙ e in absurd (cc)
    of id (as_node i e at) = absent (i, slice_get_within s.nodes i n at, get_or_from_slice_get s.nodes i n n at)

    by : (id : Id) × IsIdOf s n id → ⊥
    by (id, is) = of id is

-- the square of an added node
square_of-last : (s : Nodes) (n : Node) → IsNode s.log (squares s.nodes) (length s.nodes) n → (new : Nodes) → new.nodes ≡ s.nodes ++ n ∷ [] → IsSoundStore new
    → square_of (squares new.nodes) (id_of (66064 + length s.nodes)) ≡ node_square (squares s.nodes) n
square_of-last s n node new e sound =
    square_of-node new (length s.nodes) n (id_of (66064 + length s.nodes)) sound (ap (λ ns. slice_get ns (length s.nodes)) e ∙ slice_get-last s.nodes n) refl
    ∙ ap (λ S. node_square S n) (ap squares e ∙ squares-push s.nodes n)
    ∙ node_square-append (squares s.nodes) (node_square (squares s.nodes) n ∷ []) (length s.nodes) n (omega (arith, length-squares s.nodes)) node.nw.named
    node.ne.named node.sw.named node.se.named

-- a node that is stored
pub joined_node : (s : Nodes) (n : Node) → IsSoundStore s → IsShared s → IsNode s.log (squares s.nodes) (length s.nodes) n → small_number_of n ≡ None
    → ¬ Contains s.nodes n → HasSpace s
    → Joined s (with_both s n) (node_square (squares s.nodes) n) (id_of (66064 + length s.nodes))
joined_node s n h u new large absent space =
    let k = 66064 + length s.nodes in
    let sound = IsSound-both s n h new space.few in
    let shared = IsShared-both s n u absent large space.limit in
    let grown = squares-push s.nodes n in
    let longer = length-append s.nodes (n ∷ []) in
    let is : content (with_both s n) (id_of k) ≡ node_square (squares s.nodes) n = square_of-last s n new (with_both s n) refl sound in
    is_new (absent_node s n h u new large absent)
    (λ id known. let p = knows-grown s (with_both s n) _ grown (omega (arith, longer)) (λ j. Contains-append_left s.log (k ∷ []) j) sound id known.0 in
    ((p.0, shared), p.1))
    (held-grown s (with_both s n) _ grown k u refl ∙ ap (λ t. stored_squares s ++ t ∷ []) is)
    (knows_id (with_both s n) n (id_of k) sound (as_node (length s.nodes) refl (slice_get-last s.nodes n)), shared) is

-- ---- answers

pub answers_ok : (old new : Nodes) (t : Tree) (id : Id) → Joined old new t id → new.limit ≡ old.limit → AnswersJoin old new t (Ok id)
answers_ok old new t id joined limit = record {
  joined = joined;
  limit = limit;
  full = (λ e. absurd (cc), λ needs. absurd (by needs joined));
  space = λ e. absurd (cc);
  refusals = tt;
  needed = tt;
  unchanged = tt;
}
  where
    by : ¬ Contains (stored_squares old) t × (length (stored_squares old) ≡ old.limit) → Joined old new t id → ⊥
    by needs (was_there same there known is) = needs.0 there
    by needs (is_new absent keeps added known is) =
        let more = ap length added ∙ length-append (stored_squares old) (t ∷ []) in
        absurd (omega (arith, more, needs.1, length-held new, known.1.len, limit))

abbrev refused : Kind → Result Id Kind
refused k = Err k

pub answers_err : (s : Nodes) (t : Tree) (k : Kind) → IsShared s → ¬ Contains (stored_squares s) t → (k ≡ Full) ⊎ (k ≡ Memory) → (k ≡ Full)
    ↔ (length s.log ≡ s.limit)
    → AnswersJoin s s t (Err k)
answers_err s t k u absent kinds full = record {
  joined = tt;
  limit = refl;
  full = (λ e. let f : k ≡ Full = cc in (absent, length-held s ∙ full.0 f), λ needs. ap Err (full.1 (sym (length-held s) ∙ needs.1)));
  space = λ e. space e (nat_lt (length s.log) s.limit) refl;
  refusals = elim kinds [ inl f ↦ inr (f, length-held s ∙ full.0 f) | inr m ↦ inl m ];
  needed = absent;
  unchanged = refl;
}
  where
    space : refused k ≡ refused Memory → (b : Bool) → nat_lt (length s.log) s.limit ≡ b → length (stored_squares s) < s.limit
    space e true g = let l : length s.log < s.limit = grind arith in omega (arith, l, length-held s)
    space e false g =
        let l : s.limit ≤ length s.log = grind arith in
        let f = full.1 (omega (arith, l, u.len)) in
        absurd (let kind : k ≡ Memory = cc in let same : Full ≡ Memory = sym f ∙ kind in cc)

-- the same in the words of the calls
pub answers_refused : (s new : Nodes) (t : Tree) (k : Kind) (len : ℕ) → new ≡ s → IsShared s → ¬ Contains (stored_squares s) t → (k ≡ Full) ⊎ (k ≡ Memory)
    → len ≡ length s.log → (k ≡ Full) ↔ (len ≡ s.limit)
    → AnswersJoin s new t (Err k)
answers_refused s new t k len same u absent kinds e full = subst (λ v. AnswersJoin s v t (Err k)) (sym same)
    (answers_err s t k u absent kinds (λ f. sym e ∙ full.0 f, λ f. full.1 (e ∙ f)))

-- a refusal of memory below the limit
pub answers_memory : (s new : Nodes) (t : Tree) (r : Result Id Kind) → new ≡ s → IsShared s → ¬ Contains (stored_squares s) t → length s.log < s.limit
    → (P : Kind → Type 0) → ((k : Kind) → P k → k ≡ Memory) → IsErr r → IsErrAnd r P → AnswersJoin s new t r
answers_memory s new t (Ok id) same u absent space P is err reported = absurd (true≢false (sym err))
answers_memory s new t (Err k) same u absent space P is err reported =
    let memory = is k reported in
    answers_refused s new t k (length s.log) same u absent (inr memory) refl
    (λ f. absurd (let kinds : Full ≡ Memory = sym f ∙ memory in cc), λ f. absurd (omega (arith, f, space)))

-- a node that a test does not find
pub not_there : (ns : List Node) (n : Node) → list_any (eq-value.it n) ns ≡ false → ¬ Contains ns n
not_there ns n f c = true≢false (sym (list_any-Contains ns n c) ∙ f)

-- what an insertion into the set of nodes does
pub inserted : (old ns : List Node) (n : Node) (i : ℕ) → ns ≡ insert_key eq-value.it old n → length ns ≡ length old + 1 → (k : Node) × (slice_get ns i ≡ Some k)
    × (eq-value.it n k ≡ true)
    → (¬ Contains old n) × (ns ≡ old ++ n ∷ []) × (i ≡ length old)
inserted old ns n i e len (k, at, same) = by (list_any (eq-value.it n) old) refl
  where
    here : slice_get ns i ≡ Some n
    here = at ∙ ap Some (sym (same_node n k same))

    by : (b : Bool) → list_any (eq-value.it n) old ≡ b → (¬ Contains old n) × (ns ≡ old ++ n ∷ []) × (i ≡ length old)
    by true f = let stays : ns ≡ old = e ∙ ap (λ b. if b then old else old ++ n ∷ []) f in let equal = ap length stays in absurd (omega (arith, equal, len))
    by false f =
        let grown : ns ≡ old ++ n ∷ [] = e ∙ ap (λ b. if b then old else old ++ n ∷ []) f in
        let absent = not_there old n f in
        (absent, grown, last absent (slice_get-push_cases old n n i (ap (λ l. slice_get l i) (sym grown) ∙ here)))
      where
        last : ¬ Contains old n → (slice_get old i ≡ Some n) ⊎ ((i ≡ length old) × (n ≡ n)) → i ≡ length old
        last absent (inl there) = absurd (absent (i, slice_get_within old i n there, get_or_from_slice_get old i n n there))
        last absent (inr l) = l.0

pub found : (old ns : List Node) (n : Node) (i : ℕ) → ns ≡ insert_key eq-value.it old n → length ns ≡ length old → (k : Node) × (slice_get ns i ≡ Some k)
    × (eq-value.it n k ≡ true)
    → (ns ≡ old) × (slice_get old i ≡ Some n)
found old ns n i e len (k, at, same) = by (list_any (eq-value.it n) old) refl
  where
    by : (b : Bool) → list_any (eq-value.it n) old ≡ b → (ns ≡ old) × (slice_get old i ≡ Some n)
    by true f =
        let stays : ns ≡ old = e ∙ ap (λ b. if b then old else old ++ n ∷ []) f in
        (stays, ap (λ l. slice_get l i) (sym stays) ∙ at ∙ ap Some (sym (same_node n k same)))
    by false f =
        let grown : ns ≡ old ++ n ∷ [] = e ∙ ap (λ b. if b then old else old ++ n ∷ []) f in
        let longer = ap length grown ∙ length-append old (n ∷ []) in
        absurd (omega (arith, longer, len))

-- a store with a new node
pub node_added : (s new : Nodes) (n : Node) (i : ℕ) → IsSoundStore s → IsShared s → IsNode s.log (squares s.nodes) (length s.nodes) n → small_number_of n ≡ None
    → ¬ Contains s.nodes n → HasSpace s
    → new ≡ with_both s n → i ≡ length s.nodes → AnswersJoin s new (node_square (squares s.nodes) n) (Ok (id_of (66064 + i)))
node_added s new n i h u node large absent space grown last =
    subst (λ v. AnswersJoin s v (node_square (squares s.nodes) n) (Ok (id_of (66064 + i)))) (sym grown)
    (subst (λ j. AnswersJoin s (with_both s n) (node_square (squares s.nodes) n) (Ok (id_of (66064 + j)))) (sym last)
    (answers_ok s (with_both s n) (node_square (squares s.nodes) n) (id_of (66064 + length s.nodes)) (joined_node s n h u node large absent space) refl))

pub sound_added : (s new : Nodes) (n : Node) → IsSoundStore s → IsShared s → IsNode s.log (squares s.nodes) (length s.nodes) n → small_number_of n ≡ None
    → ¬ Contains s.nodes n → HasSpace s
    → new ≡ with_both s n → IsSoundStore new × IsShared new
sound_added s new n h u node large absent space grown =
    subst (λ v. IsSoundStore v × IsShared v) (sym grown) (IsSound-both s n h node space.few, IsShared-both s n u absent large space.limit)

-- the marks of the small squares, where none was joined
pub HasSeen-none : (seen : Id → Bool) (log : List ℕ) → ((q : Id) → seen q ≡ false) → log ≡ [] → HasSeen seen log
HasSeen-none seen log none empty = subst (HasSeen seen) (sym empty) (record {
  joined = λ k mark. absurd (true≢false (sym mark ∙ none (id_of k)));
  listed = λ k there low. absurd (omega (arith, there.1));
})

-- and when another Id is joined
pub HasSeen-node : (seen : Id → Bool) (log log' : List ℕ) (k : ℕ) → HasSeen seen log → 66064 ≤ k → log' ≡ log ++ k ∷ [] → HasSeen seen log'
HasSeen-node seen log log' k h high e = subst (HasSeen seen) (sym e) (record {
  joined = λ i mark. Contains-append_left log (k ∷ []) _ (h.joined i mark);
  listed = λ i there low. by i low (Contains-push_cases log k i there);
})
  where
    by : (i : ℕ) → i < 66064 → Contains log i ⊎ (k ≡ i) → seen (id_of i) ≡ true
    by i low (inl old) = h.listed i old low
    by i low (inr f) = absurd (omega arith)

pub HasSeen-same : (seen seen' : Id → Bool) (log : List ℕ) → HasSeen seen log → ((q : Id) → seen' q ≡ seen q) → HasSeen seen' log
HasSeen-same seen seen' log h same = record {
  joined = λ i mark. h.joined i (sym (same (id_of i)) ∙ mark);
  listed = λ i there low. same (id_of i)
      ∙ h.listed i there low;
}

pub HasSeen-mark : (seen seen' : Id → Bool) (log log' : List ℕ) (k : ℕ) → HasSeen seen log → seen' (id_of k) ≡ true
    → ((q : Id) → q ≢ id_of k → seen' q ≡ seen q) → log' ≡ log ++ k ∷ [] → HasSeen seen' log'
HasSeen-mark seen seen' log log' k h marked others grown = subst (HasSeen seen') (sym grown) (record {
  joined = λ i mark. joined i mark (cases_eq i k);
  listed = λ i there low. listed i low (cases_eq i k) (Contains-push_cases log k i there);
})
  where
    other : (i : ℕ) → i ≢ k → seen' (id_of i) ≡ seen (id_of i)
    other i o = others (id_of i) (λ e. o (ap (λ (q : Id). q.0) e))

    joined : (i : ℕ) → seen' (id_of i) ≡ true → (i ≡ k) ⊎ (i ≢ k) → Contains (log ++ k ∷ []) i
    joined i mark (inl f) = subst (Contains (log ++ k ∷ [])) (sym f) (Contains-push log k)
    joined i mark (inr o) = Contains-append_left log (k ∷ []) _ (h.joined i (sym (other i o) ∙ mark))

    listed : (i : ℕ) → i < 66064 → (i ≡ k) ⊎ (i ≢ k) → Contains log i ⊎ (k ≡ i) → seen' (id_of i) ≡ true
    listed i low (inl f) there = ap (λ n. seen' (id_of n)) f ∙ marked
    listed i low (inr o) (inl old) = other i o ∙ h.listed i old low
    listed i low (inr o) (inr f) = absurd (o (sym f))

-- no small square without a mark was joined
pub unseen : (seen : Id → Bool) (log : List ℕ) (k : ℕ) → HasSeen seen log → k < 66064 → seen (id_of k) ≡ false → ¬ Contains log k
unseen seen log k h low mark there = true≢false (sym (h.listed k there low) ∙ mark)

-- a small square that is marked
pub small_added : (s new : Nodes) (k : ℕ) → IsSoundStore s → IsShared s → IsSmall s.log (squares s.nodes) k → ¬ Contains s.log k → length s.log < s.limit
    → new ≡ with_id s k
    → AnswersJoin s new (small_square k) (Ok (id_of k))
small_added s new k h u small absent space grown =
    subst (λ v. AnswersJoin s v (small_square k) (Ok (id_of k))) (sym grown)
    (answers_ok s (with_id s k) (small_square k) (id_of k) (joined_small s k h u small absent space) refl)

pub sound_marked : (s new : Nodes) (k : ℕ) → IsSoundStore s → IsShared s → IsSmall s.log (squares s.nodes) k → ¬ Contains s.log k → length s.log < s.limit
    → new ≡ with_id s k → IsSoundStore new × IsShared new
sound_marked s new k h u small absent space grown =
    let q = small.quarters in
    let r = small_range q.nw q.ne q.sw q.se k small.number in
    subst (λ v. IsSoundStore v × IsShared v) (sym grown) (IsSound-id s k h (λ _. small), IsShared-id s k u absent r.1 space)

pub small_there : (s : Nodes) (k : ℕ) → IsSoundStore s → IsShared s → IsSmall s.log (squares s.nodes) k → Contains s.log k
    → AnswersJoin s s (small_square k) (Ok (id_of k))
small_there s k h u small there =
    answers_ok s s (small_square k) (id_of k)
    (subst (λ t. Joined s s t (id_of k)) (sym (small_node (squares s.nodes) small.quarters k small.number))
    (joined_there s small.quarters (id_of k) h u (as_small small.number there))) refl

pub node_there : (s : Nodes) (n : Node) (i : ℕ) → IsSoundStore s → IsShared s → slice_get s.nodes i ≡ Some n
    → AnswersJoin s s (node_square (squares s.nodes) n) (Ok (id_of (66064 + i)))
node_there s n i h u at = answers_ok s s (node_square (squares s.nodes) n) (id_of (66064 + i)) (joined_there s n (id_of (66064 + i)) h u (as_node i refl at))
    refl

-- a square that isn't blank and isn't held
abbrev pub is_wanted : Nodes → Tree → Type 0
is_wanted s t = (is_blank_tree t ≡ false) × ¬ Contains (stored_squares s) t

-- what a join of a square that isn't blank answers
module _ (old new : Nodes) (t : Tree) (deep : 0 < depth t) (not_blank : is_blank_tree t ≡ false) where
  abbrev Needs : Type 0
  Needs = is_wanted old t

  abbrev Keeps : Nodes → Type 0
  Keeps s = KeepsSquares (λ s id. Knows s id × IsShared s) content stored_squares (λ s. s.limit) old s

  full_if_needed : (r : Result Id Kind) → AnswersJoin old new t r → (r ≡ Err Full) ↔ (Needs × (length (stored_squares old) ≡ old.limit))
  full_if_needed r a = (λ e. let f = a.full.0 e in ((not_blank, f.0), f.1), λ needs. a.full.1 (needs.0.1, needs.1))

  pub join_answers : (r : Result Id Kind) → AnswersJoin old new t r
      → Joins (λ s id. Knows s id × IsShared s) content stored_squares (λ s. s.limit) is_wanted old new t r
  join_answers (Ok id) a = by a.joined
    where
      by : Joined old new t id → Joins (λ s id. Knows s id × IsShared s) content stored_squares (λ s. s.limit) is_wanted old new t (Ok id)
      by (was_there same there known is) =
          record {
            known = subst (λ s. Knows s id × IsShared s) (sym same) known;
            square = ap (λ s. content s id) same ∙ is;
            keeps = subst Keeps (sym same) (keeps-same old);
            adds = subst (λ s. AddsOnly stored_squares (λ P. P t) old s) (sym same) (adds-none _ old);
            added = λ needs. absurd (needs.1 there);
            there = λ unneeded. ap stored_squares same;
            fresh = λ needs k. needs.1 there;
            full = full_if_needed (Ok id) a;
            space = a.space;
            refusals = tt;
            needed = tt;
            unchanged = tt;
          }
      by (is_new absent keeps added known is) =
          record {
            known = known;
            square = is;
            keeps = record {
              contents = keeps;
              stored = λ u h. subst (λ l. Contains l u) (sym added) (Contains-append_left (stored_squares old) (t ∷ []) u h);
              limit = a.limit;
            };
            adds = record { each = λ u h. Contains-push_cases (stored_squares old) t u (subst (λ l. Contains l u) added h) };
            added = λ needs. added;
            there = λ unneeded. absurd (unneeded (not_blank, absent));
            fresh = λ needs k. let same : content old id ≡ t = sym (keeps id k).1 ∙ is in
                absent (subst (Contains (stored_squares old)) same
                (held-complete old k.1 id k.0 (ap is_blank_tree same ∙ not_blank) (subst (λ z. 0 < depth z) (sym same) deep)));
            full = full_if_needed (Ok id) a;
            space = a.space;
            refusals = tt;
            needed = tt;
            unchanged = tt;
          }
  join_answers (Err k) a =
      record {
        known = tt;
        square = tt;
        keeps = subst Keeps (sym a.unchanged) (keeps-same old);
        adds = subst (λ s. AddsOnly stored_squares (λ P. P t) old s) (sym a.unchanged) (adds-none _ old);
        added = tt;
        there = tt;
        fresh = tt;
        full = full_if_needed (Err k) a;
        space = a.space;
        refusals = a.refusals;
        needed = (not_blank, a.needed);
        unchanged = a.unchanged;
      }

-- the node of four quarters
abbrev pub node_of : Id → Id → Id → Id → Node
node_of nw ne sw se = record { nw = nw.0; ne = ne.0; sw = sw.0; se = se.0 }

module _ (s : Nodes) (nw ne sw se : Id) (a : Knows s nw) (b : Knows s ne) (c : Knows s sw) (d : Knows s se)
    (e : depth (square_of (squares s.nodes) ne) ≡ depth (square_of (squares s.nodes) nw))
    (f : depth (square_of (squares s.nodes) sw) ≡ depth (square_of (squares s.nodes) nw))
    (g : depth (square_of (squares s.nodes) se) ≡ depth (square_of (squares s.nodes) nw)) where
  -- the square of four quarters
  abbrev pub joined : Tree
  joined = quad (square_of (squares s.nodes) nw) (square_of (squares s.nodes) ne) (square_of (squares s.nodes) sw) (square_of (squares s.nodes) se)

  pub full_joined : IsFull joined
  full_joined = (full_content s nw a, full_content s ne b, full_content s sw c, full_content s se d, e, f, g)

  -- it is blank exactly if the four Ids are those of blank squares
  pub is_blank-joined : is_blank_tree joined ≡ (is_blank_id nw && is_blank_id ne && is_blank_id sw && is_blank_id se)
  is_blank-joined =
      let p = is_blank-content s nw a in
      let q = is_blank-content s ne b in
      let r = is_blank-content s sw c in
      let u = is_blank-content s se d in
      λ j. p j && q j && r j && u j

  pub blank_joined : (is_blank_id nw && is_blank_id ne && is_blank_id sw && is_blank_id se) ≡ true
      → joined ≡ blank (suc (depth (square_of (squares s.nodes) nw)))
  blank_joined h = blank_is joined full_joined (is_blank-joined ∙ h)

  -- the node of four quarters that are not all blank
  pub IsNode-joined : depth (square_of (squares s.nodes) nw) < MAX_LEVEL
      → (is_blank_id nw && is_blank_id ne && is_blank_id sw && is_blank_id se) ≡ false
      → IsNode s.log (squares s.nodes) (length s.nodes) (node_of nw ne sw se)
  IsNode-joined space h =
      record {
        nw = record { named = a.named; joined = a.joined };
        ne = record { named = b.named; joined = b.joined };
        sw = record { named = c.named; joined = c.joined };
        se = record { named = d.named; joined = d.joined };
        full = full_joined;
        low = omega arith;
        not_blank = is_blank-joined ∙ h;
      }

-- the index of a stored node
pub position_node : (ns : List Node) (n : Node) (i : ℕ) → position (eq-value.it n) ns ≡ Some i → slice_get ns i ≡ Some n
position_node ns n i e =
    let p = position-Some (eq-value.it n) ns i n e in
    slice_get-get_or ns i n p.0 ∙ ap Some (sym (same_node n (get_or ns i n) p.1))

-- a small square of four quarters that are not all blank
pub IsSmall-joined : (s : Nodes) (n : Node) (k : ℕ) → small_number_of n ≡ Some k → IsNode s.log (squares s.nodes) (length s.nodes) n
    → IsSmall s.log (squares s.nodes) k
IsSmall-joined s n k e node =
    let r = quarters_range n.nw n.ne n.sw n.se k e in
    record {
      quarters = n;
      number = e;
      is = record {
        nw = record { named = record { below = omega (arith, r.0); blank = node.nw.named.blank }; joined = node.nw.joined };
        ne = record { named = record { below = omega (arith, r.1); blank = node.ne.named.blank }; joined = node.ne.joined };
        sw = record { named = record { below = omega (arith, r.2); blank = node.sw.named.blank }; joined = node.sw.joined };
        se = record { named = record { below = omega (arith, r.3); blank = node.se.named.blank }; joined = node.se.joined };
        full = node.full;
        low = node.low;
        not_blank = node.not_blank;
      };
    }

-- an Id from 256 on has quarters
pub deep_content : (s : Nodes) (id : Id) → Knows s id → 256 ≤ id.0 → 0 < depth (square_of (squares s.nodes) id)
deep_content s id h l = by (names s id h)
  where
    by : Names s id → 0 < depth (square_of (squares s.nodes) id)
    by (the_state m f) = absurd (omega arith)
    by (the_blank k m i f) = let e = ap depth f in omega arith
    by (the_node i n l' le at node f) = let e = ap depth f in omega arith

-- four known Ids whose squares are the quarters
pub parts_are : (s : Nodes) (K : Id → Type 0) (t : Tree) (a b c d : Id) → K a → K b → K c → K d
    → t ≡ quad (square_of (squares s.nodes) a) (square_of (squares s.nodes) b) (square_of (squares s.nodes) c) (square_of (squares s.nodes) d)
    → All K (a ∷ b ∷ c ∷ d ∷ []) × (map (square_of (squares s.nodes)) (a ∷ b ∷ c ∷ d ∷ []) ≡ quarters t)
parts_are s K t a b c d ka kb kc kd e =
    (All-cons K a (b ∷ c ∷ d ∷ []) ka (All-cons K b (c ∷ d ∷ []) kb (All-cons K c (d ∷ []) kc (All-cons K d [] kd (All-nil K)))), sym (ap quarters e))

-- ---- a store that keeps each join as a node of its own

pub square_of-added : (old new : Nodes) (n : Node) → IsNode old.log (squares old.nodes) (length old.nodes) n → new ≡ with_node old n → IsSoundStore new
    → (id : Id) → id.0 ≡ 66064 + length old.nodes → square_of (squares new.nodes) id ≡ node_square (squares old.nodes) n
square_of-added old new n node i sound id e = ap (λ k. square_of (squares new.nodes) (id_of k)) e ∙ square_of-last old n node new (ap (λ s. s.nodes) i) sound

contents_added : {T E : Type 0} (r : Result T E) (old new : Nodes) (n : Node) → OnOk r (new ≡ with_node old n) → OnErr r (new ≡ old) → IsSoundStore new
    → (id : Id) → Knows old id → Knows new id × (square_of (squares new.nodes) id ≡ square_of (squares old.nodes) id)
contents_added (Ok x) old new n i same sound id k =
    let len = ap (λ s. length s.nodes) i ∙ length-append old.nodes (n ∷ []) in
    knows-grown old new _ (ap (λ s. squares s.nodes) i ∙ squares-push old.nodes n) (omega (arith, len)) (λ j there. subst (λ s. Contains s.log j) (sym i) there)
    sound id k
contents_added (Err x) old new n i same sound id k =
    (subst (λ s. Knows s id) (sym same) k, ap (λ s. square_of (squares s.nodes) id) same)

stays_added : {T E : Type 0} (r : Result T E) (old new : Nodes) (n : Node) → OnOk r (new ≡ with_node old n) → OnErr r (new ≡ old)
    → (t : Tree) → Contains (squares old.nodes) t → Contains (squares new.nodes) t
stays_added (Ok x) old new n i same t h =
    subst (λ S. Contains S t) (sym (ap (λ s. squares s.nodes) i ∙ squares-push old.nodes n))
    (Contains-append_left (squares old.nodes) (node_square (squares old.nodes) n ∷ []) t h)
stays_added (Err x) old new n i same t h = subst (λ s. Contains (squares s.nodes) t) (sym same) h

-- what a store keeps to which a node is added, or whose call is refused
pub keeps_added : {T E : Type 0} (r : Result T E) (old new : Nodes) (n : Node) → OnOk r (new ≡ with_node old n) → OnErr r (new ≡ old) → IsSoundStore new
    → new.limit ≡ old.limit → KeepsSquares Knows content (λ s. squares s.nodes) (λ s. s.limit) old new
keeps_added r old new n i same sound limit = record {
  contents = contents_added r old new n i same sound;
  stored = stays_added r old new n i same;
  limit = limit;
}

-- the Id that an added node gets
pub knows_last : (old new : Nodes) (n : Node) → new ≡ with_node old n → IsSoundStore new → (id : Id) → id.0 ≡ 66064 + length old.nodes → Knows new id
knows_last old new n i sound id e = knows_id new n id sound
    (as_node (length old.nodes) e (ap (λ s. slice_get s.nodes (length old.nodes)) i ∙ slice_get-last old.nodes n))

-- why a node was refused, in the words of the store's squares
pub IsWantKind-left : {T : Type 0} (r : Result T Kind) (old new : Nodes) → IfErr r (λ e. (e ≡ Full) ⊎ (e ≡ Memory))
    → (r ≡ Err Full) ↔ (length old.nodes ≡ old.limit) → OnErr r (new ≡ old)
    → IfErr r (IsShortageKind (squares new.nodes) new.limit)
IsWantKind-left (Ok x) old new kinds full same = tt
IsWantKind-left (Err k) old new kinds full same = elim kinds [
  | inl f ↦ inr (f, subst (λ s. length (squares s.nodes) ≡ s.limit) (sym same) (length-squares old.nodes ∙ full.0 (ap Err f)))
  | inr m ↦ inl m
]

-- a store that was refused memory for a node has space for it
pub space_left : {T : Type 0} (r : Result T Kind) (old new : Nodes) → length old.nodes ≤ old.limit → (r ≡ Err Full) ↔ (length old.nodes ≡ old.limit)
    → OnErr r (new ≡ old)
    → r ≡ Err Memory → length (squares new.nodes) < new.limit
space_left (Ok x) old new h full same e = absurd (cc)
space_left (Err k) old new h full same e = subst (λ s. length (squares s.nodes) < s.limit) (sym same) (by (nat_lt (length old.nodes) old.limit) refl)
  where
    len : length (squares old.nodes) ≡ length old.nodes
    len = length-squares old.nodes

    by : (b : Bool) → nat_lt (length old.nodes) old.limit ≡ b → length (squares old.nodes) < old.limit
    by true g = let l : length old.nodes < old.limit = grind arith in omega (arith, l, len)
    by false g =
        let l : old.limit ≤ length old.nodes = grind arith in
        let f = full.1 (omega (arith, l, h)) in
        absurd (let kinds = sym e ∙ f in cc)
