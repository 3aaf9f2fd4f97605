-- Squares of a shared store.
use Rattle.life_quad.specs.Keeping.{KeepsSquares}
use Rattle.life_quad.specs.Store.{Nodes, Knows, IsShared, content, stored_squares}
use Rattle.life_quad.specs.declared.id.Id.{Id}

-- the Id names a square of the store
abbrev pub IsKnownInShared : Nodes → Id → Type 0
IsKnownInShared store id = Knows store id × IsShared store

-- each Id keeps its square, nothing stored is taken away, and the limit stays
abbrev pub KeepsShared : Nodes → Nodes → Type 0
KeepsShared = KeepsSquares IsKnownInShared content stored_squares (λ store. store.limit)
