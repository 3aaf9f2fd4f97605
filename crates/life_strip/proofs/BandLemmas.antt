-- Facts about four rows of cells.
use Rattle.life_base.specs.declared.cell.TheConstants.{MAX_LEVEL}
use Rattle.std.proofs.Common.{◌≡◌, ℕ, zero, suc, ◌+◌, ◌-◌, ◌*◌, ◌/◌, ◌%◌, ◌^◌, ◌≤◌, ◌<◌, ◌⊎◌, inl, inr, Bool, true, false, nat_lt, nat_le, List, [], ◌∷◌, length, get_or, drop, Some, None, refl, sym, ◌∙◌, ap, subst, arith, if◌then◌else◌, get_or-set_same, get_or-set_other}
use Rattle.life_quad.specs.declared.id.Id.{Id}
use Rattle.life_base.specs.Tree.{blank}
use Rattle.life_strip.specs.declared.blocks.Block.{Block}
use Rattle.life_strip.specs.declared.spans.Span.{Span}
use Rattle.life_strip.specs.declared.spans.TheConstants.{NEVER}
use Rattle.life_strip.specs.declared.words.BlockPlace.{BlockPlace}
use Rattle.life_strip.specs.declared.words.TwoWords.{TwoWords}
use Rattle.life_strip.specs.Strip.{id_at, AreBefore, IsExtended, Rise}
use Rattle.life_strip.specs.Blocks.{cells_at_block, four_in, AreRowBlocks}
use Rattle.life_strip.specs.Band.{block_goes_to, block_in, IsAtBlock, IsLeastOfFour, IsPastBlocks, square_of_words, word_in}
use Rattle.std.proofs.Math.ListN.{set, length-set}
use Rattle.std.proofs.lemmas.List.{get_or_default}
use Rattle.std.proofs.lemmas.List.Elements.{All-tail, All-set}
use Rattle.life_strip.proofs.BlockLemmas.{block-after, block-before, block-in, blocks-over}
use Rattle.life_strip.proofs.WordLemmas.{four-blank, four-words, squares-alike}
use Rattle.life_strip.proofs.SpanLemmas.{id_at-in, id_at-after, before_more}

-- spans rise while the last of them gets a new end
last-rises : (spans : List Span) (n : ℕ) (s : Span) → Rise spans → n + 1 ≡ length spans → ((d : Span) → (get_or spans n d).start ≡ s.start)
    → Rise (set spans n s)
last-rises spans n s h len same i j d less within = by (nat_lt j n) refl
  where
    short : j < length spans
    short = omega (arith, length-set spans n s, within)

    before : get_or (set spans n s) i d ≡ get_or spans i d
    before = get_or-set_other spans n i s d (omega (arith, less, short, len))

    by : (b : Bool) → nat_lt j n ≡ b → (get_or (set spans n s) i d).end ≤ (get_or (set spans n s) j d).start
    by true e =
        let there : get_or (set spans n s) j d ≡ get_or spans j d = get_or-set_other spans n j s d (let lt : j < n = grind arith in omega (arith, lt)) in
        let le = h i j d less short in
        let a = ap (λ z. z.end) before in
        let b = ap (λ z. z.start) there in
        omega (arith, le, a, b)
    by false e =
        let last : j ≡ n = (let f : n ≤ j = grind arith in omega (arith, f, short, len)) in
        let there : get_or (set spans n s) j d ≡ s = ap (λ k. get_or (set spans n s) k d) last ∙ get_or-set_same spans n s d (omega (arith, len)) in
        let le = h i j d less short in
        let a = ap (λ z. z.end) before in
        let b = ap (λ z. z.start) there in
        let begun = ap (λ k. (get_or spans k d).start) last ∙ same d in
        omega (arith, le, a, b, begun)

-- the last span goes on to a new end
module _ (column end : ℕ) (square : Id) (later : column < end) where
  last-earlier : (spans : List Span) (n : ℕ) (t s : Span) → n + 1 ≡ length spans → get_or spans n t ≡ t → t.end ≡ column → s.start ≡ t.start → s.end ≡ end
      → s.square ≡ t.square → (c : ℕ) → c < column → id_at (set spans n s) c ≡ id_at spans c
  last-earlier [] n t s len at to from e q c lt = absurd (omega (arith, len))
  last-earlier (u ∷ rest) zero t s len at to from e q c lt =
      let a : nat_lt c s.end ≡ true = grind (arith, e, later, lt) in
      let b : nat_lt c t.end ≡ true = grind (arith, to, lt) in
      (λ i. if a i then (if nat_le (from i) c then Some (q i) else None) else id_at rest c)
      ∙ sym (ap (λ z. if z then (if nat_le t.start c then Some t.square else None) else id_at rest c) b)
      ∙ ap (λ z. id_at (z ∷ rest) c) (sym at)
  last-earlier (u ∷ rest) (suc n) t s len at to from e q c lt =
      ap (λ o. if nat_lt c u.end then (if nat_le u.start c then Some u.square else None) else o)
      (last-earlier rest n t s (omega (arith, len)) at to from e q c lt)

  last-more : (spans : List Span) (n : ℕ) (s : Span) → n + 1 ≡ length spans → AreBefore column spans → s.start ≤ column → s.end ≡ end → (c : ℕ)
      → column ≤ c → c < end → id_at (set spans n s) c ≡ Some s.square
  last-more [] n s len p from e c le lt = absurd (omega (arith, len))
  last-more (t ∷ rest) zero s len p from e c le lt = id_at-in s rest c (omega (arith, from, le)) (omega (arith, e, lt))
  last-more (t ∷ rest) (suc n) s len p from e c le lt =
      let first : t.end ≤ column = (p 0 t (omega arith)).1 in
      id_at-after t (set rest n s) c (omega (arith, first, le))
      ∙ last-more rest n s (omega (arith, len)) (All-tail (λ u. (u.start < u.end) × (u.end ≤ column)) t rest p) from e c le lt

  pub extended-last : (spans : List Span) (n : ℕ) (t s : Span) → n + 1 ≡ length spans → AreBefore column spans → get_or spans n t ≡ t → t.end ≡ column
      → s.start ≡ t.start → s.end ≡ end → s.square ≡ t.square → t.square ≡ square → IsExtended spans (set spans n s) column end square
  extended-last spans n t s len p at to from e q is =
      let some = subst (λ z. (z.start < z.end) × (z.end ≤ column)) at (p n t (omega (arith, len))) in
      let begun : s.start < column = omega (arith, from, some.0, to) in
      record {
        before = All-set (λ u. (u.start < u.end) × (u.end ≤ end)) spans n s (omega (arith, begun, e, later), omega (arith, e))
            (before_more column end spans p (omega (arith, later)));
        rises = λ r. last-rises spans n s r (omega (arith, len)) (λ d. ap (λ z. z.start) (get_or_default spans n d t (omega (arith, len)) ∙ at) ∙ sym from);
        earlier = λ c lt. last-earlier spans n t s len at to from e q c lt;
        more = λ c le lt. last-more spans n s len p (omega (arith, begun)) e c le lt ∙ ap Some (q ∙ is);
      }

-- a row at the first of its blocks
pub past-first : (blocks : List Block) → IsPastBlocks blocks 0 0
past-first blocks = record { cells = λ n le. refl; from = λ b lt. omega arith }

module _ (blocks : List Block) (done : ℕ) (p : BlockPlace) (h : IsAtBlock blocks done p) where
  -- up to the block that comes next there is no cell
  at-gap : (n : ℕ) → done ≤ n → n < p.start → cells_at_block blocks n ≡ 0
  at-gap n from lt =
      let o = h.order in
      h.cells n from ∙ block-before (block_in p) (drop (suc p.index) blocks) n lt (omega (arith, lt, o))

  -- where no block is left there is none at all
  at-none : AreRowBlocks blocks → NEVER ≤ p.start → (n : ℕ) → done ≤ n → cells_at_block blocks n ≡ 0
  at-none are over n from = by (nat_lt n p.start) refl
    where
      by : (t : Bool) → nat_lt n p.start ≡ t → cells_at_block blocks n ≡ 0
      by true e = at-gap n from (grind arith)
      by false e =
          let le : p.start ≤ n = grind arith in
          blocks-over blocks n (λ k d lt. let end = (are.each k d lt).within in omega (arith, end, le, over))

  module _ (number : ℕ) (small : number < NEVER) (begun : number ≤ p.start) where
    -- a row goes on beyond a block that is before its next one or that one itself
    at-beyond : suc number ≤ block_goes_to p number
    at-beyond = by (nat_le p.start number) refl
      where
        by : (t : Bool) → nat_le p.start number ≡ t → suc number ≤ (if t then p.end else p.start)
        by true e =
            let le : p.start ≤ number = grind arith in
            let some = (h.some (omega (arith, le, small))).some in
            omega (arith, some, begun)
        by false e = let lt : number < p.start = grind arith in omega (arith, lt)

    module _ (next : ℕ) (reach : next ≤ block_goes_to p number) where
      -- one word goes on
      at-word : (n : ℕ) → done ≤ n → number ≤ n → n < next → cells_at_block blocks n ≡ word_in p number
      at-word n from later lt = by (nat_le p.start number) refl reach
        where
          by : (t : Bool) → nat_le p.start number ≡ t → next ≤ (if t then p.end else p.start)
              → cells_at_block blocks n ≡ (if nat_le p.start number then p.cells else 0)
          by true e r =
              let le : p.start ≤ number = grind arith in
              h.cells n from ∙ block-in (block_in p) (drop (suc p.index) blocks) n (omega (arith, le, later)) (omega (arith, lt, r))
              ∙ sym (ap (λ z. if z then p.cells else 0) e)
          by false e r = at-gap n from (omega (arith, lt, r)) ∙ sym (ap (λ z. if z then p.cells else 0) e)

      -- several blocks with one word have no cell, or nothing but cells
      at-alike : suc number < next → (word_in p number ≡ 0) ⊎ (word_in p number ≡ 2 ^ 64 - 1)
      at-alike long = by (nat_le p.start number) refl reach
        where
          by : (t : Bool) → nat_le p.start number ≡ t → next ≤ (if t then p.end else p.start)
              → ((if nat_le p.start number then p.cells else 0) ≡ 0) ⊎ ((if nat_le p.start number then p.cells else 0) ≡ 2 ^ 64 - 1)
          by true e r =
              let le : p.start ≤ number = grind arith in
              let all = (h.some (omega (arith, le, small))).long (omega (arith, le, long, r)) in
              inr (ap (λ z. if z then p.cells else 0) e ∙ all)
          by false e r = inl (ap (λ z. if z then p.cells else 0) e)

      -- on the plane, if the row has cells in the block
      at-inside : p.start ≤ number → next ≤ 2 ^ (MAX_LEVEL - 6)
      at-inside le =
          let here : nat_le p.start number ≡ true = grind arith in
          let end : next ≤ p.end = subst (λ z. next ≤ (if z then p.end else p.start)) here reach in
          let within = (h.some (omega (arith, le, small))).within in
          omega (arith, end, within)

  module _ (number : ℕ) (later : done ≤ number) where
    -- its block goes on at a later one
    pub at-passed : (m : ℕ) → number < p.end → p.start ≤ m → number ≤ m → (number < p.start → m ≡ p.start) → (p.start ≤ number → m ≡ number)
        → IsAtBlock blocks number (record { index = p.index; start = m; end = p.end; cells = p.cells })
    at-passed m lt begin from one other = record {
      cells = λ n le. h.cells n (omega (arith, later, le))
          ∙ ap (λ t. if nat_lt n p.end then (if t then p.cells else 0) else cells_at_block (drop (suc p.index) blocks) n) (same n le);
      from = from;
      order = ordered (nat_lt number p.start) refl;
      some = λ small. let is = h.some (omega (arith, begin, small)) in let within = is.within in
          record { some = fewer is.some (nat_lt number p.start) refl; within = within; long = λ long. is.long (omega (arith, begin, long)) };
      left = λ small. h.left (omega (arith, begin, small));
      last = h.last;
      over = λ never. let end = ordered (nat_lt number p.start) refl in omega (arith, never, end);
    }
      where
        same : (n : ℕ) → number ≤ n → nat_le p.start n ≡ nat_le m n
        same n le = cases (nat_le p.start n) refl (nat_lt number p.start) refl
          where
            cases : (s : Bool) → nat_le p.start n ≡ s → (t : Bool) → nat_lt number p.start ≡ t → nat_le p.start n ≡ nat_le m n
            cases true e true f =
                let is = one (grind arith) in
                ap (λ z. nat_le z n) (sym is)
            cases true e false f =
                let is = other (grind arith) in
                let t : nat_le m n ≡ true = grind (arith, is, le) in
                e ∙ sym t
            cases false e true f = let is = one (grind arith) in ap (λ z. nat_le z n) (sym is)
            cases false e false f =
                let a : p.start ≤ number = grind arith in
                let b : n < p.start = grind arith in
                absurd (omega (arith, a, b, le))

        ordered : (t : Bool) → nat_lt number p.start ≡ t → m ≤ p.end
        ordered true e = let is = one (grind arith) in let o = h.order in omega (arith, is, o)
        ordered false e = let is = other (grind arith) in omega (arith, is, lt)

        fewer : p.start < p.end → (t : Bool) → nat_lt number p.start ≡ t → m < p.end
        fewer some true e = let is = one (grind arith) in omega (arith, is, some)
        fewer some false e = let is = other (grind arith) in omega (arith, is, lt)

    module _ (end : p.end ≤ number) (small : number < NEVER) where
      -- its block is after, and was one of the row
      pub at-left : p.index < length blocks
      at-left = by (nat_lt p.start NEVER) refl
        where
          by : (t : Bool) → nat_lt p.start NEVER ≡ t → p.index < length blocks
          by true e = h.left (grind arith)
          by false e = absurd (let over = h.over (grind arith) in omega (arith, over, end, small))

      -- so the next one comes
      pub at-next : AreRowBlocks blocks → number ≤ p.end → IsPastBlocks blocks (p.index + 1) number
      at-next are reach = record {
        cells = λ n le. h.cells n (omega (arith, later, le))
            ∙ block-after (block_in p) (drop (suc p.index) blocks) n (omega (arith, end, le)) ∙ ap (λ k. cells_at_block (drop k blocks) n) next;
        from = λ b lt. let rise = are.rise p.index (p.index + 1) b (omega arith) lt in let is = h.last b at-left in omega (arith, rise, is, reach);
      }
        where
          next : suc p.index ≡ p.index + 1
          next = omega arith

-- four rows, each at a block, and the first block from there on where one of them has cells
pub record AreAtBlock (ra rb rc rd : List Block) (a b c d : BlockPlace) (done number : ℕ) : Type 0 where
  pub first : IsAtBlock ra done a
  pub second : IsAtBlock rb done b
  pub third : IsAtBlock rc done c
  pub fourth : IsAtBlock rd done d
  pub least : IsLeastOfFour number a.start b.start c.start d.start

module _ {ra rb rc rd : List Block} {a b c d : BlockPlace} {done number : ℕ} (h : AreAtBlock ra rb rc rd a b c d done number) where
  -- it is none of the blocks before
  pub rows-later : done ≤ number
  rows-later = h.least.greatest done h.first.from h.second.from h.third.from h.fourth.from

  -- without a cell up to there, the squares are blank
  pub rows-blank : (x : ℕ) → 16 * done ≤ x → x < 16 * number → four_in ra rb rc rd x ≡ blank 2
  rows-blank x from lt =
      let later : done ≤ x / 16 = omega (arith, from) in
      let l = h.least in
      let first = l.first in
      let second = l.second in
      let third = l.third in
      let fourth = l.fourth in
      four-blank ra rb rc rd x (at-gap ra done a h.first (x / 16) later (omega (arith, lt, first)))
      (at-gap rb done b h.second (x / 16) later (omega (arith, lt, second)))
      (at-gap rc done c h.third (x / 16) later (omega (arith, lt, third))) (at-gap rd done d h.fourth (x / 16) later (omega (arith, lt, fourth)))

  -- where no block is left, all of them are
  pub rows-none : AreRowBlocks ra → AreRowBlocks rb → AreRowBlocks rc → AreRowBlocks rd → NEVER ≤ number
      → (x : ℕ) → 16 * done ≤ x → four_in ra rb rc rd x ≡ blank 2
  rows-none ba bb bc bd over x from =
      let later : done ≤ x / 16 = omega (arith, from) in
      let l = h.least in
      let first = l.first in
      let second = l.second in
      let third = l.third in
      let fourth = l.fourth in
      four-blank ra rb rc rd x (at-none ra done a h.first ba (omega (arith, over, first)) (x / 16) later)
      (at-none rb done b h.second bb (omega (arith, over, second)) (x / 16) later) (at-none rc done c h.third bc (omega (arith, over, third)) (x / 16) later)
      (at-none rd done d h.fourth bd (omega (arith, over, fourth)) (x / 16) later)

  module _ (small : number < NEVER) where
    module _ (next : ℕ) (goes : IsLeastOfFour next (block_goes_to a number) (block_goes_to b number) (block_goes_to c number) (block_goes_to d number)) where
      -- all four rows go on beyond it
      pub rows-beyond : number < next
      rows-beyond =
          let l = h.least in
          let most : suc number ≤ next = goes.greatest (suc number) (at-beyond ra done a h.first number small l.first)
          (at-beyond rb done b h.second number small l.second) (at-beyond rc done c h.third number small l.third)
          (at-beyond rd done d h.fourth number small l.fourth) in
          omega (arith, most)

      -- no farther than the plane
      pub rows-inside : next ≤ 2 ^ (MAX_LEVEL - 6)
      rows-inside = by (nat_le next (2 ^ (MAX_LEVEL - 6))) refl
        where
          later : (row : List Block) (p : BlockPlace) → IsAtBlock row done p → number ≤ p.start → next ≤ block_goes_to p number → 2 ^ (MAX_LEVEL - 6) < next
              → suc number ≤ p.start
          later row p at from reach far = cases (nat_le p.start number) refl
            where
              cases : (t : Bool) → nat_le p.start number ≡ t → suc number ≤ p.start
              cases true e =
                  let inside = at-inside row done p at number small from next reach (grind arith) in
                  absurd (omega (arith, inside, far))
              cases false e = let lt : number < p.start = grind arith in omega (arith, lt)

          by : (t : Bool) → nat_le next (2 ^ (MAX_LEVEL - 6)) ≡ t → next ≤ 2 ^ (MAX_LEVEL - 6)
          by true e = grind arith
          by false e =
              let far : 2 ^ (MAX_LEVEL - 6) < next = grind arith in
              let l = h.least in
              let more : suc number ≤ number = l.greatest (suc number) (later ra a h.first l.first goes.first far)
              (later rb b h.second l.second goes.second far)
              (later rc c h.third l.third goes.third far) (later rd d h.fourth l.fourth goes.fourth far) in
              absurd (omega (arith, more))

      module _ (upper lower : TwoWords) (north : upper.north ≡ word_in a number) (south : upper.south ≡ word_in b number)
          (below : lower.north ≡ word_in c number) (last : lower.south ≡ word_in d number) where
        -- the squares of the rows are those of the words
        pub rows-squares : (x : ℕ) → 16 * number ≤ x → x < 16 * next → four_in ra rb rc rd x ≡ square_of_words upper lower (x % 16)
        rows-squares x from lt =
            let n = x / 16 in
            let later : number ≤ n = omega (arith, from) in
            let before : n < next = omega (arith, lt) in
            let begun = rows-later in
            let done-n : done ≤ n = omega (arith, begun, later) in
            let l = h.least in
            four-words ra rb rc rd upper lower x (at-word ra done a h.first number small l.first next goes.first n done-n later before ∙ sym north)
            (at-word rb done b h.second number small l.second next goes.second n done-n later before ∙ sym south)
            (at-word rc done c h.third number small l.third next goes.third n done-n later before ∙ sym below)
            (at-word rd done d h.fourth number small l.fourth next goes.fourth n done-n later before ∙ sym last)

        -- those of several blocks are all one square
        pub rows-alike : suc number < next → (i : ℕ) → i < 16 → square_of_words upper lower i ≡ square_of_words upper lower 0
        rows-alike long i lt =
            let l = h.least in
            squares-alike upper lower i lt (of upper.north (word_in a number) north (at-alike ra done a h.first number small l.first next goes.first long))
            (of upper.south (word_in b number) south (at-alike rb done b h.second number small l.second next goes.second long))
            (of lower.north (word_in c number) below (at-alike rc done c h.third number small l.third next goes.third long))
            (of lower.south (word_in d number) last (at-alike rd done d h.fourth number small l.fourth next goes.fourth long))
          where
            of : (word there : ℕ) → word ≡ there → (there ≡ 0) ⊎ (there ≡ 2 ^ 64 - 1) → (word ≡ 0) ⊎ (word ≡ 2 ^ 64 - 1)
            of word there e (inl z) = inl (e ∙ z)
            of word there e (inr z) = inr (e ∙ z)
