-- What calls store while a file is read, and that there is space for it.
use Rattle.std.proofs.Common.{◌≡◌, ◌≢◌, ℕ, ◌+◌, ◌<◌, ◌≤◌, false, List, [], ◌++◌, length, arith, inl, inr, AllPairs, Contains}
use Rattle.life_base.specs.Lines.{whole_lines}
use Rattle.life_base.specs.Tree.{Tree, is_blank_tree}
use Rattle.life_base.specs.declared.cell.TheConstants.{MAX_LEVEL}
use Rattle.life_quad.specs.Store.{Nodes, stored_squares}
use Rattle.life_reader.specs.Needs.{LacksFor, LacksForPrefix}
use Rattle.life_reader.specs.Space.{sufficient_for, HoldsOnly, HoldsPrefix, AddsLines, AddsFile, PrefixesHold}
use Rattle.life_reader.proofs.NeedFacts.{prefix-more, whole-needs}
use Rattle.life_reader.proofs.SpaceCount.{limit_suffices, few-more}

-- ---- what a store holds besides a list

pub prefixes_hold : PrefixesHold
prefixes_hold bytes more base old new h = (
  λ adds t there. elim (adds.each t there) [
    | inl k ↦ elim (h t k) [ inl b ↦ inl b | inr s ↦ inr (prefix-more (λ u. u ≡ t) bytes more s) ]
    | inr s ↦ inr s
  ],
  λ t there. elim (h t there) [ inl b ↦ inl b | inr s ↦ inr (whole-needs (λ u. u ≡ t) bytes s) ],
)

pub file-holds : (bytes : List ℕ) (base : List Tree) (old new : Nodes) → HoldsOnly base bytes old → AddsFile bytes old new → HoldsOnly base bytes new
file-holds bytes base old new h adds = λ t there. elim (adds.each t there) [ inl k ↦ h t k | inr s ↦ inr s ]

-- ---- the limit of a full store

-- which lacks a square of the file, and holds only squares of a list and of the file, each once and none blank
module _ (base : List Tree) (old new : Nodes) (distinct : AllPairs ◌≢◌ (stored_squares new))
    (live : (t : Tree) → Contains (stored_squares new) t → is_blank_tree t ≡ false)
    (full : length (stored_squares new) ≡ new.limit) (same : new.limit ≡ old.limit) where
  tight : (bytes : List ℕ) → HoldsOnly base bytes new → LacksFor MAX_LEVEL bytes new → old.limit < length base + sufficient_for (length bytes)
  tight bytes only lacks = let less = limit_suffices bytes base new distinct live only lacks in omega (arith, less, full, same)

  -- after a piece
  pub prefix-tight : (bytes more : List ℕ) → AddsLines (whole_lines (bytes ++ more)) old new → LacksForPrefix MAX_LEVEL (bytes ++ more) new
      → HoldsPrefix base bytes old → old.limit < length base + sufficient_for (length (bytes ++ more))
  prefix-tight bytes more adds lacks h =
      let prefix = (prefixes_hold bytes more base old new h).0 adds in
      tight (bytes ++ more) (prefixes_hold (bytes ++ more) [] base new new prefix).1 (whole-needs _ (bytes ++ more) lacks)

  -- after the last line
  pub file-tight : (bytes : List ℕ) → AddsFile bytes old new → LacksFor MAX_LEVEL bytes new → HoldsOnly base bytes old
      → old.limit < length base + sufficient_for (length bytes)
  file-tight bytes adds lacks h = tight bytes (file-holds bytes base old new h adds) lacks

-- ---- one file after another

-- a file stores no more squares than there is space for
pub file-few : (bytes : List ℕ) (old new : Nodes) → AllPairs ◌≢◌ (stored_squares new) → ((t : Tree) → Contains (stored_squares new) t → is_blank_tree t ≡ false)
    → AddsFile bytes old new
    → length (stored_squares new) ≤ length (stored_squares old) + sufficient_for (length bytes)
file-few bytes old new distinct live adds = few-more bytes (stored_squares old) new distinct live adds.each
