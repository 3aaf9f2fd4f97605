use Rattle.std.proofs.Common.{◌≡◌, ℕ, suc, Bool, true, false, nat_lt, nat_le, List, [], ◌∷◌, drop, refl, sym, ◌∙◌, ap, arith, if◌then◌else◌}
use Rattle.std.proofs.Math.ListN.{drop_of_length-le}
use Rattle.std.proofs.Math.Seq.{drop-cons}
use Rattle.std.proofs.lemmas.List.{get_or_default}
use Rattle.life_strip.specs.declared.blocks.Block.{Block}
use Rattle.life_strip.specs.Blocks.{cells_at_block}
use Rattle.life_strip.proofs.words.next_block.Goals as goal

-- of an index that is none of the row
abbrev none : Block
none = record { start = 0; end = 0; cells = 0 }

pub returns-then-index-blocks : goal.returns-then-index-blocks
returns-then-index-blocks c number small past =
    let blocks = c.args.blocks.now in
    let index = c.args.index in
    let inside = c.if-index-blocks.true in
    let is = c.requires.each index none inside in
    let some = is.some in
    let within = is.within in record {
      cells = λ n le. past.cells n le ∙ ap (λ z. cells_at_block z n) (drop-cons blocks index none inside);
      from = past.from none inside;
      order = omega (arith, some);
      some = λ lt. is;
      left = λ lt. inside;
      last = λ d lt. ap (λ z. z.end) (get_or_default blocks index none d inside);
      over = λ le. omega (arith, le, some);
    }

-- no block but one beyond the plane
nothing : (b : Block) (rest : List Block) (n : ℕ) → b.cells ≡ 0 → rest ≡ [] → cells_at_block (b ∷ rest) n ≡ 0
nothing b rest n zero e = ap (λ r. cells_at_block (b ∷ r) n) e ∙ by (nat_lt n b.end) (nat_le b.start n)
  where
    by : (s t : Bool) → (if s then (if t then b.cells else 0) else 0) ≡ 0
    by true true = zero
    by true false = refl
    by false t = refl

pub returns : goal.returns
returns c number small past =
    let blocks = c.args.blocks.now in
    let index = c.args.index in
    let over = c.if-index-blocks.false in
    let behind : drop (suc index) blocks ≡ [] = drop_of_length-le blocks {i = suc index} (omega (arith, over)) in record {
      cells = λ n le. past.cells n le ∙ ap (λ z. cells_at_block z n) (drop_of_length-le blocks over)
          ∙ sym (nothing _ (drop (suc index) blocks) n refl behind);
      from = omega (arith, small);
      order = omega arith;
      some = λ lt. absurd (omega (arith, lt));
      left = λ lt. absurd (omega (arith, lt));
      last = λ d lt. absurd (omega (arith, lt, over));
      over = λ le. omega arith;
    }
