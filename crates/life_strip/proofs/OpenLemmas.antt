-- Facts about the blocks of a row of which the last is kept apart.
use Rattle.std.proofs.Common.{◌≡◌, ℕ, ◌+◌, ◌-◌, ◌*◌, ◌/◌, ◌%◌, ◌^◌, ◌<◌, ◌≤◌, inl, inr, List, [], ◌∷◌, ◌++◌, length, length-append, get_or, sym, ◌∙◌, ap, subst, arith}
use Rattle.std.proofs.Math.Seq.{get_or-append_seam, set-append_seam}
use Rattle.life_base.specs.declared.cell.TheConstants.{MAX_LEVEL}
use Rattle.life_strip.specs.declared.blocks.Block.{Block}
use Rattle.life_strip.specs.Blocks.{AddsCells, AreRowBlocks, AreBlocksBefore, IsRowBlock, IsBlockBefore}
use Rattle.life_strip.proofs.BlockLemmas.{adds-fits, adds-more, adds-new}

module _ (prefix : List Block) (a : Block) where
  abbrev all : List Block
  all = prefix ++ a ∷ []

  last_at : length all - 1 ≡ length prefix
  last_at = let n = length-append prefix (a ∷ []) in omega (arith, n)

  counted : length prefix + 1 ≡ length all
  counted = let n = length-append prefix (a ∷ []) in omega (arith, n)

  here : a ≡ get_or all (length prefix) a
  here = sym (get_or-append_seam prefix a [] a)

  index : length prefix < length all
  index = let n = counted in omega (arith, n)

  -- the last block is one of a row
  pub last-is : AreRowBlocks all → IsRowBlock a
  last-is are = subst IsRowBlock (sym here) (are.each (length prefix) a index)

  -- and begins before a column after which none has a cell
  pub last-begins : (start : ℕ) → AreRowBlocks all → AreBlocksBefore start all → 64 * a.start ≤ start
  last-begins start are before = by (subst (IsBlockBefore start) (sym here) (before (length prefix) a index))
    where
      by : IsBlockBefore start a → 64 * a.start ≤ start
      by (inl over) = let some = (last-is are).some in omega (arith, some, over)
      by (inr (there, first, end, none)) = omega (arith, first)

  module _ (start len : ℕ) (are : AreRowBlocks all) (before : AreBlocksBefore start all) (some : 0 < len) (within : start + len ≤ 2 ^ MAX_LEVEL) where
    span : start + len - start ≡ len
    span = omega arith

    -- a block after the last one
    pub adds-behind : start % 64 + len ≤ 64 → (a.start ≡ start / 64 → 64 < start % 64 + len) → (b : Block) → b.start ≡ start / 64 → b.end ≡ start / 64 + 1
        → b.cells ≡ 2 ^ (64 - start % 64) - 2 ^ (64 - (start % 64 + len)) → AddsCells all (all ++ b ∷ []) start (start + len)
    adds-behind one other b from to cells =
        adds-new all start (start + len) are before (omega (arith, some)) (omega (arith, one, span)) within b from (to ∙ omega arith)
        (cells ∙ ap (λ z. 2 ^ (64 - start % 64) - 2 ^ (64 - (start % 64 + z))) (sym span))
        (λ d there same. let late = other (ap (λ z. z.start) (here ∙ ap (λ k. get_or all k a) (sym last_at) ∙ alike d) ∙ same) in omega (arith, one, late))
      where
        alike : (d : Block) → get_or all (length all - 1) a ≡ get_or all (length all - 1) d
        alike d = ap (λ k. get_or all k a) last_at ∙ get_or-append_seam prefix a [] a ∙ sym (get_or-append_seam prefix a [] d)
            ∙ ap (λ k. get_or all k d) (sym last_at)

    -- columns of the last one
    module _ (from : ℕ) (one : from + len ≤ 64) (place : start ≡ 64 * a.start + from) where
      begins : a.start ≡ start / 64
      begins = omega (arith, place, one, some)

      rest : start % 64 ≡ from
      rest = omega (arith, place, one, some)

      bits : 2 ^ (64 - from) - 2 ^ (64 - (from + len)) ≡ 2 ^ (64 - start % 64) - 2 ^ (64 - (start % 64 + (start + len - start)))
      bits = ap (λ z. 2 ^ (64 - z) - 2 ^ (64 - (z + len))) (sym rest)
          ∙ ap (λ z. 2 ^ (64 - start % 64) - 2 ^ (64 - (start % 64 + z))) (sym span)

      pub adds-within : (b : Block) → b.start ≡ a.start → b.end ≡ a.end → b.cells ≡ a.cells + (2 ^ (64 - from) - 2 ^ (64 - (from + len)))
          → AddsCells all (prefix ++ b ∷ []) start (start + len)
      adds-within b first last cells =
          subst (λ z. AddsCells all z start (start + len)) (set-append_seam prefix a [] b)
          (adds-more all start (start + len) are before (omega (arith, some)) (omega (arith, one, rest, span)) within (length prefix) a counted here begins
          b first last (cells ∙ ap (λ z. a.cells + z) bits))

      pub fits-within : a.cells < 2 ^ 64 → a.cells + (2 ^ (64 - from) - 2 ^ (64 - (from + len))) < 2 ^ 64
      fits-within small = subst (λ z. a.cells + z < 2 ^ 64) (sym bits)
          (adds-fits all start (start + len) are before (omega (arith, some)) (omega (arith, one, rest, span)) within (length prefix) a counted here begins
          small)
