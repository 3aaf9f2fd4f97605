-- How a store of nodes stands for squares.
use Rattle.std.specs.Prelude.{◌≡◌, ◌≢◌, ℕ, ◌+◌, ◌*◌, ◌-◌, ◌/◌, ◌%◌, ◌<◌, ◌^◌, ◌≤◌, Bool, true, false, nat_lt, if◌then◌else◌, List, [], ◌∷◌, ◌++◌, length, fold, map, Option, None, Some, Result, Err, slice_get, slice_index_or, Contains, AllPairs, ◌==◌, ◌⊎◌, get_or, ◌||◌, ◌&&◌, nat_le, ◌↔◌, IfOk, IfErr, OnErr}
use Rattle.life_base.specs.declared.cell.TheConstants.{MAX_LEVEL}
use Rattle.life_base.specs.declared.kind.Kind.{Kind}
use Rattle.life_base.specs.declared.kind.Kind.TheVariants.{Full, Memory}
use Rattle.life_quad.specs.Keeping.{IsShortageKind}
use Rattle.life_quad.specs.Moves.{quad_of}
use Rattle.life_quad.specs.declared.id.Id.{Id}
use Rattle.life_quad.specs.declared.id.Node.{Node}
use Rattle.life_quad.specs.declared.moves.Quarters.{Quarters}
use Rattle.life_base.specs.Tree.{Tree, point, quad, depth, blank, is_blank_tree, IsFull}

-- what contracts see of a store: its nodes, oldest first, the numbers of the Ids that were joined, each once and in the order of their
-- first join (none where the store has no names for small squares), and its limit
pub record Nodes : Type 0 where
  pub nodes : List Node
  pub log : List ℕ
  pub limit : ℕ

-- the square of level 1 of four binary digits
abbrev pub two : ℕ → Tree
two b = quad (point (b / 8)) (point (b / 4 % 2)) (point (b / 2 % 2)) (point (b % 2))

-- the square of level 2 of four digits below 16
abbrev pub four : ℕ → Tree
four b = quad (two (b / 4096)) (two (b / 256 % 16)) (two (b / 16 % 16)) (two (b % 16))

-- the square of level 3 of four digits below 65,536
abbrev pub eight : ℕ → Tree
eight b = quad (four (b / 281474976710656)) (four (b / 4294967296 % 65536)) (four (b / 65536 % 65536)) (four (b % 65536))

-- the small square of an Id's number, from 512 to 66,063
unfoldable pub small_square : ℕ → Tree
small_square n = if nat_lt n 528 then two (n - 512) else four (n - 528)

-- the square of an Id: 0 to 255 are states, 256 to 511 blank squares from level 1 on, 512 to 66,063 small squares, which are of level 1
-- or 2 and of the states 0 and 1, and 66,064 and up the squares of the nodes
unfoldable pub square_of : List Tree → Id → Tree
square_of stored id =
    if nat_lt id.0 256 then point id.0
    else if nat_lt id.0 512 then blank (id.0 - 255)
    else if nat_lt id.0 66064 then small_square id.0
    else slice_index_or stored (id.0 - 66064) (point 0)

-- the Id of a number
abbrev pub id_of : ℕ → Id
id_of n = record { 0 = n }

-- a cell of state 0 or 1, and a square of level 1 of such cells, by the number of its Id
abbrev pub is_bit_id : ℕ → Bool
is_bit_id n = nat_lt n 2

abbrev pub is_digit_id : ℕ → Bool
is_digit_id n = n == 256 || (nat_lt 512 n && nat_lt n 528)

-- the Id of the square of level 1 of a digit below 16
abbrev pub digit_id : ℕ → Id
digit_id d = id_of (if d == 0 then 256 else 512 + d)

-- The number of the Id of the small square of four quarters, by the numbers of their Ids, if it is small. (Of four blank quarters too, which
-- have another Id.)
unfoldable pub small_of : ℕ → ℕ → ℕ → ℕ → Option ℕ
small_of nw ne sw se =
    if is_bit_id nw && is_bit_id ne && is_bit_id sw && is_bit_id se then Some (512 + (nw * 8 + ne * 4 + sw * 2 + se))
    else if is_digit_id nw && is_digit_id ne && is_digit_id sw && is_digit_id se
    then Some (528 + ((nw - 512) * 4096 + (ne - 512) * 256 + (sw - 512) * 16 + (se - 512)))
    else None

-- the number of a node's square, where it is small
abbrev pub small_number_of : Node → Option ℕ
small_number_of n = small_of n.nw n.ne n.sw n.se

-- the square of a node, whose quarters are the numbers of Ids
abbrev pub node_square : List Tree → Node → Tree
node_square stored n = quad (square_of stored (id_of n.nw)) (square_of stored (id_of n.ne)) (square_of stored (id_of n.sw)) (square_of stored (id_of n.se))

-- the squares of the nodes, where each node names earlier ones
unfoldable pub squares : List Node → List Tree
squares nodes = fold (λ stored n. stored ++ node_square stored n ∷ []) [] nodes

-- the levels of the nodes' squares
abbrev pub levels_of : List Node → List ℕ
levels_of nodes = map depth (squares nodes)

-- the Id is a state, a blank square of the greatest level at most, a small square, or one of the first n nodes
pub record IsIdWithin (n : ℕ) (id : Id) : Type 0 where
  pub below : id.0 < 66064 + n
  pub blank : id.0 < 512 → id.0 < 256 + MAX_LEVEL

-- if the Id is that of a small square, it was joined
abbrev pub IsJoined : List ℕ → Id → Type 0
IsJoined log id = 512 ≤ id.0 → id.0 < 66064 → Contains log id.0

-- the Id stands for a square before node number i
pub record IsEarlier (log : List ℕ) (i : ℕ) (id : Id) : Type 0 where
  pub named : IsIdWithin i id
  pub joined : IsJoined log id

-- whether the Id is that of a blank square
abbrev pub is_blank_id : Id → Bool
is_blank_id id = id.0 == 0 || (nat_le 256 id.0 && nat_lt id.0 512)

-- node number i names earlier Ids, is not blank, and has a full square of the greatest level at most
pub record IsNode (log : List ℕ) (stored : List Tree) (i : ℕ) (n : Node) : Type 0 where
  pub nw : IsEarlier log i (id_of n.nw)
  pub ne : IsEarlier log i (id_of n.ne)
  pub sw : IsEarlier log i (id_of n.sw)
  pub se : IsEarlier log i (id_of n.se)
  pub full : IsFull (node_square stored n)
  pub low : depth (node_square stored n) ≤ MAX_LEVEL
  pub not_blank : is_blank_tree (node_square stored n) ≡ false

-- the number is that of a small square that is not blank and whose quarters were joined
pub record IsSmall (log : List ℕ) (stored : List Tree) (k : ℕ) : Type 0 where
  pub quarters : Node
  pub number : small_number_of quarters ≡ Some k
  pub is : IsNode log stored 0 quarters

-- every node is sound and has its square, every small square is sound, and there are no more Ids than numbers of 32 bits
pub record IsSoundStore (s : Nodes) : Type 0 where
  pub entries : (i : ℕ) (n : Node) → slice_get s.nodes i ≡ Some n → IsNode s.log (squares s.nodes) i n
  pub square : (i : ℕ) (n : Node) → slice_get s.nodes i ≡ Some n → slice_get (squares s.nodes) i ≡ Some (node_square (squares s.nodes) n)
  pub small : (k : ℕ) → Contains s.log k → k < 66064 → IsSmall s.log (squares s.nodes) k
  pub limit : s.limit ≤ 2 ^ 62
  pub few : 66064 + length s.nodes ≤ 2 ^ 32

-- No node is there twice or is that of a small square. Each node's Id and those of the joined small squares are in the log, once, and the
-- store is within its limit.
pub record IsShared (s : Nodes) : Type 0 where
  pub once : (i j : ℕ) (n : Node) → slice_get s.nodes i ≡ Some n → slice_get s.nodes j ≡ Some n → i ≡ j
  pub apart : (i : ℕ) (n : Node) → slice_get s.nodes i ≡ Some n → small_number_of n ≡ None
  pub logged : (i : ℕ) → i < length s.nodes → Contains s.log (66064 + i)
  pub known : (k : ℕ) → Contains s.log k → k < 66064 + length s.nodes
  pub distinct : AllPairs ◌≢◌ s.log
  pub len : length s.log ≤ s.limit

-- the store is sound, and the Id names one of its squares
pub record Knows (s : Nodes) (id : Id) : Type 0 where
  pub sound : IsSoundStore s
  pub named : IsIdWithin (length s.nodes) id
  pub joined : IsJoined s.log id

-- the square of an Id of a store
abbrev pub content : Nodes → Id → Tree
content s id = square_of (squares s.nodes) id

-- the squares that a store holds, in the order in which they were joined first
abbrev pub stored_squares : Nodes → List Tree
stored_squares s = map (λ k. content s (id_of k)) s.log

-- the Id of a node, or of a small square by its quarters
pub data IsIdOf (s : Nodes) (n : Node) (id : Id) : Type 0 where
  as_small : small_number_of n ≡ Some id.0 → Contains s.log id.0 → IsIdOf s n id
  as_node : (i : ℕ) → id.0 ≡ 66064 + i → slice_get s.nodes i ≡ Some n → IsIdOf s n id

-- each known Id keeps its square
abbrev pub KeepsContents : Nodes → Nodes → Type 0
KeepsContents old new = (id : Id) → Knows old id × IsShared old → (Knows new id × IsShared new) × (content new id ≡ content old id)

-- the Id is that of the square, which was there, or which was added last
pub data Joined (old new : Nodes) (t : Tree) (id : Id) : Type 0 where
  was_there : new ≡ old → Contains (stored_squares old) t → Knows old id × IsShared old → content old id ≡ t → Joined old new t id
  is_new : ¬ Contains (stored_squares old) t → KeepsContents old new → stored_squares new ≡ stored_squares old ++ t ∷ [] → Knows new id × IsShared new
      → content new id ≡ t
      → Joined old new t id

-- what a shared store answers to the join of a square that isn't blank
pub record AnswersJoin (old new : Nodes) (t : Tree) (r : Result Id Kind) : Type 0 where
  pub joined : IfOk r (Joined old new t)
  pub limit : new.limit ≡ old.limit
  pub full : (r ≡ Err Full) ↔ (¬ Contains (stored_squares old) t × (length (stored_squares old) ≡ old.limit))
  pub space : r ≡ Err Memory → length (stored_squares new) < new.limit
  pub refusals : IfErr r (IsShortageKind (stored_squares new) new.limit)
  pub needed : OnErr r (¬ Contains (stored_squares old) t)
  pub unchanged : OnErr r (new ≡ old)

-- the Id is that of the square of these quarters, or has the greatest number, which stands for a square that has no node
abbrev pub IsFoundId : Nodes → Quarters → Id → Type 0
IsFoundId s quarters id = ((Knows s id × IsShared s) × (content s id ≡ quad_of (content s) quarters)) ⊎ (id.0 ≡ 2 ^ 64 - 1)

-- each of the first n Ids is such an Id of its quarters
abbrev pub AreFound : Nodes → List Quarters → List Id → ℕ → Type 0
AreFound s quarters ids n = (i : ℕ) (q : Quarters) (d : Id) → i < n → IsFoundId s (get_or quarters i q) (get_or ids i d)

-- of each small square that is marked, and of no other, the number was joined
pub record HasSeen (seen : Id → Bool) (log : List ℕ) : Type 0 where
  pub joined : (k : ℕ) → seen (id_of k) ≡ true → Contains log k
  pub listed : (k : ℕ) → Contains log k → k < 66064 → seen (id_of k) ≡ true

-- each small square of level 1 that isn't blank is marked
abbrev pub HasQuarters : (Id → Bool) → Type 0
HasQuarters seen = (k : ℕ) → 512 < k → k < 528 → seen (id_of k) ≡ true

-- so are those before a number
abbrev pub HasQuartersBelow : ℕ → (Id → Bool) → Type 0
HasQuartersBelow number seen = (k : ℕ) → 512 < k → k < number → seen (id_of k) ≡ true
