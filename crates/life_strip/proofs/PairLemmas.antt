-- The next square of two strips: where it begins and ends, and where the strips stand after it.
use Rattle.std.proofs.Common.{◌≡◌, ℕ, zero, suc, get_or, ◌+◌, ◌-◌, ◌*◌, ◌/◌, ◌^◌, ◌<◌, ◌≤◌, ◌⊎◌, inl, inr, Bool, true, false, nat_le, max, List, [], ◌∷◌, ◌++◌, length, map, arith, refl, sym, ◌∙◌, ap, subst, append-nil, append_assoc}
use Rattle.std.proofs.Math.Pow.{pow_mono}
use Rattle.std.proofs.lemmas.List.Elements.{All-cons}
use Rattle.std.specs.List.{All}
use Rattle.life_base.specs.declared.cell.TheConstants.{MAX_LEVEL}
use Rattle.life_base.specs.Tree.{Tree, depth, blank}
use Rattle.life_quad.specs.declared.id.Id.{Id}
use Rattle.life_quad.specs.declared.moves.Quarters.{Quarters}
use Rattle.life_quad.specs.Refused.{SomeOf}
use Rattle.life_strip.specs.declared.spans.Span.{Span}
use Rattle.life_strip.specs.declared.spans.StripPlace.{StripPlace}
use Rattle.life_strip.specs.declared.spans.TheConstants.{NEVER}
use Rattle.life_strip.specs.Strip.{FilledTo, IsAt, IsStripPiece, ArePieces, with_squares, AreWithin, HaveColumns, EndsAfter, IsPast, Rise, goes_to, quad_at}
use Rattle.life_strip.specs.Needed.{SomeColumn}
use Rattle.life_strip.proofs.SpanLemmas.{Keeps, before_columns, filled-skip, filled-more, extended-push, strip-keeps, square-keeps}
use Rattle.life_strip.proofs.PlaceLemmas.{goes-end}

-- a strip stands at its first span
pub at-first : (level : ℕ) (spans : List Span) → AreWithin level spans
    → record { columns : HaveColumns spans; past : IsPast spans 0 0; ends : EndsAfter spans 0 0; column : 0 < NEVER }
at-first level spans within = record {
  columns = before_columns (2 ^ (MAX_LEVEL - level)) spans within;
  past = λ c le. refl;
  ends = λ d lt. let some = (within 0 d lt).0 in omega (arith, some);
  column = omega arith;
}

-- where the next square begins, and up to where this one goes on in a strip
pub record IsNextSquare (place : StripPlace) (first end next side : ℕ) : Type 0 where
  pub goes : end ≤ goes_to place (2 * (first / 2))
  pub later : 2 * next ≤ 2 * (first / 2) + 2 ⊎ 2 * next ≤ end
  pub from : 2 * (first / 2) + 1 ≤ 2 * next
  pub inside : next ≤ side

-- a strip goes on from a place, in a later column no farther than the end of the place before
pub goes_on : (level : ℕ) (spans : List Span) {column first end next : ℕ} {place joined : StripPlace} → AreWithin level spans → Rise spans
    → IsAt spans column place
    → IsAt spans (2 * (first / 2) + 1) joined → place.end ≤ joined.end → IsNextSquare place first end next (2 ^ (MAX_LEVEL - suc level))
    → record {
      columns : HaveColumns spans;
      rises : Rise spans;
      place : (before : ℕ) × (before ≤ 2 * next) × IsAt spans before joined;
      reach : 2 * next ≤ joined.end;
      column : 2 * next < NEVER;
    }
goes_on level spans {column} {first} {end} {next} {place} {joined} within rises before at later n =
    let small = pow_mono {i = MAX_LEVEL - suc level} {j = MAX_LEVEL} (omega arith) in
    let inside = n.inside in
    record {
      columns = before_columns (2 ^ (MAX_LEVEL - level)) spans within;
      rises = rises;
      place = (2 * (first / 2) + 1, n.from, at);
      reach = reached n.later;
      column = omega (arith, inside, small);
    }
  where
    reached : 2 * next ≤ 2 * (first / 2) + 2 ⊎ 2 * next ≤ end → 2 * next ≤ joined.end
    reached (inl short) = let beyond = at.beyond in omega (arith, short, beyond)
    reached (inr long) =
        let ends = goes-end spans column place before (2 * (first / 2)) in
        let goes = n.goes in
        omega (arith, long, goes, ends, later)

-- the next square begins beside the one before, or where that one ends
pub split : (first end next : ℕ) → next ≡ max (end / 2) (first / 2 + 1) → 2 * next ≤ 2 * (first / 2) + 2 ⊎ 2 * next ≤ end
split first end next e = by (nat_le (end / 2) (first / 2 + 1)) refl
  where
    by : (b : Bool) → nat_le (end / 2) (first / 2 + 1) ≡ b → 2 * next ≤ 2 * (first / 2) + 2 ⊎ 2 * next ≤ end
    by true t = inl (let le : end / 2 ≤ first / 2 + 1 = grind arith in omega (arith, e, le))
    by false t = inr (let lt : first / 2 + 1 < end / 2 = grind arith in omega (arith, e, lt))

-- a square of four in a column is one of those that the call needs
pub one-column : (level : ℕ) (old now : Id → Tree) (upper lower : List Span) (start : ℕ)
    → quad_at now level upper lower start ≡ quad_at old level upper lower start
    → start < 2 ^ (MAX_LEVEL - suc level) → (P : Tree → Type 0) → P (quad_at now level upper lower start)
    → SomeColumn P (level + 1) (quad_at old level upper lower)
one-column level old now upper lower start same within P p =
    let deeper : level + 1 ≡ suc level = omega arith in
    (start, subst (λ n. start < 2 ^ (MAX_LEVEL - n)) (sym deeper) within, subst P same p)

-- ---- squares that are joined later

module _ (Can : Quarters → Type 0) (square : Quarters → Tree) (want : ℕ → Tree) (none : Tree) (side : ℕ) where
  -- one more of them
  pub pieces-push : (column : ℕ) (spans : List Span) (quarters : List Quarters) (mid : ℕ) (s : Span) (q : Quarters)
      → ArePieces Can square want none side column spans quarters mid → IsStripPiece Can square want none side mid s q
      → ArePieces Can square want none side column (spans ++ s ∷ []) (quarters ++ q ∷ []) s.end
  pieces-push column [] [] mid s q e p = (subst (λ c. IsStripPiece Can square want none side c s q) e p, refl)
  pieces-push column [] (r ∷ quarters) mid s q e p = absurd e
  pieces-push column (t ∷ spans) [] mid s q e p = absurd e
  pieces-push column (t ∷ spans) (r ∷ quarters) mid s q e p = (e.0, pieces-push t.end spans quarters mid s q e.1 p)

  -- each has a column of its own
  pub pieces-rise : (column : ℕ) (spans : List Span) (quarters : List Quarters) (next : ℕ) → ArePieces Can square want none side column spans quarters next
      → column + length spans ≤ next
  pieces-rise column [] [] next e = omega (arith, e)
  pieces-rise column [] (r ∷ quarters) next e = absurd e
  pieces-rise column (t ∷ spans) [] next e = absurd e
  pieces-rise column (t ∷ spans) (r ∷ quarters) next e =
      let more = pieces-rise t.end spans quarters next e.1 in
      let from = e.0.from in
      let some = e.0.some in
      omega (arith, more, from, some)

  -- all quarters can be joined
  pub pieces-can : (column : ℕ) (spans : List Span) (quarters : List Quarters) (next : ℕ) → ArePieces Can square want none side column spans quarters next
      → All Can quarters
  pieces-can column [] [] next e = λ k d lt. absurd (omega (arith, lt))
  pieces-can column [] (r ∷ quarters) next e = absurd e
  pieces-can column (t ∷ spans) [] next e = absurd e
  pieces-can column (t ∷ spans) (r ∷ quarters) next e = All-cons Can r quarters e.0.can (pieces-can t.end spans quarters next e.1)

  -- a square of them that has a property is one of those that are wanted
  pub pieces-some : (P : Tree → Type 0) (column : ℕ) (spans : List Span) (quarters : List Quarters) (next : ℕ)
      → ArePieces Can square want none side column spans quarters next → SomeOf P (map square quarters) → (c : ℕ) × (c < side) × P (want c)
  pieces-some P column spans quarters next e (t, there, p) =
      at column spans quarters next e there.0 t there.1 (subst P (sym there.2) p)
    where
      at : (column : ℕ) (spans : List Span) (quarters : List Quarters) (next : ℕ) → ArePieces Can square want none side column spans quarters next
          → (i : ℕ) (d : Tree) → i < length (map square quarters) → P (get_or (map square quarters) i d) → (c : ℕ) × (c < side) × P (want c)
      at column [] [] next e i d lt p = absurd (omega (arith, lt))
      at column [] (r ∷ quarters) next e i d lt p = absurd e
      at column (s ∷ spans) [] next e i d lt p = absurd e
      at column (s ∷ spans) (r ∷ quarters) next e zero d lt p =
          let some = e.0.some in
          let within = e.0.within in
          (s.start, omega (arith, some, within), subst P (sym (e.0.goes s.start (omega arith) some)) p)
      at column (s ∷ spans) (r ∷ quarters) next e (suc i) d lt p = at s.end spans quarters next e.1 i d (omega (arith, lt)) p

-- a strip of a store is one of a later store
pub filled-kept : {knows knows' : Id → Type 0} {now now' : Id → Tree} → Keeps knows knows' now now'
    → (level : ℕ) (want : ℕ → Tree) (spans : List Span) (column : ℕ) → FilledTo knows now level want spans column → FilledTo knows' now' level want spans column
filled-kept {knows} {knows'} {now} {now'} keeps level want spans column p = record {
  before = p.before;
  rises = p.rises;
  strip = strip-keeps {knows = knows} {knows' = knows'} {old = now} {now = now'} keeps level spans p.strip;
  done = λ c lt. square-keeps {knows = knows} {knows' = knows'} {old = now} {now = now'} keeps level spans p.strip c ∙ p.done c lt;
}

-- the first element and the others
abbrev first_tree : List Tree → Tree
first_tree [] = blank 0
first_tree (t ∷ rest) = t

abbrev others : List Tree → List Tree
others [] = []
others (t ∷ rest) = rest

-- the squares are joined and put after the others
module _ (knows : Id → Type 0) (now : Id → Tree) (Can : Quarters → Type 0) (square : Quarters → Tree) (level : ℕ) (want : ℕ → Tree) (side : ℕ)
    (deep : (c : ℕ) → depth (want c) ≡ level) where
  pub filled-pieces : (pieces : List Span) (quarters : List Quarters) (ids : List Id) (column next : ℕ) (spans : List Span)
      → FilledTo knows now level want spans column → ArePieces Can square want (blank level) side column pieces quarters next
      → All knows ids → map now ids ≡ map square quarters → FilledTo knows now level want (spans ++ with_squares pieces ids) next
  filled-pieces [] [] ids column next spans p e known same =
      subst (λ z. FilledTo knows now level want z next) (sym (append-nil spans)) (subst (FilledTo knows now level want spans) (sym e) p)
  filled-pieces [] (q ∷ quarters) ids column next spans p e known same = absurd e
  filled-pieces (s ∷ pieces) [] ids column next spans p e known same = absurd e
  filled-pieces (s ∷ pieces) (q ∷ quarters) [] column next spans p e known same =
      absurd (let none : length (map now []) ≡ length (map square (q ∷ quarters)) = ap length same in omega (arith, none))
  filled-pieces (s ∷ pieces) (q ∷ quarters) (id ∷ ids) column next spans p e known same =
      let is : now id ≡ square q = ap first_tree same in
      let some = e.0.some in
      let wanted : want s.start ≡ square q = e.0.goes s.start (omega arith) some in
      let skipped = filled-skip knows now level want spans column s.start p e.0.from e.0.gap in
      let joined : Span = record { start = s.start; end = s.end; square = id } in
      let more = filled-more {knows = knows} {knows' = knows} {now = now} {now' = now} (λ z k. (k, refl)) level want spans (spans ++ joined ∷ []) s.start
      s.end id
      skipped (extended-push s.start s.end id some spans skipped.before) (known 0 id (omega arith)) (ap depth (is ∙ sym wanted) ∙ deep s.start)
      (λ c le lt. e.0.goes c le lt ∙ sym is) in
      let rest = filled-pieces pieces quarters ids s.end next (spans ++ joined ∷ []) more e.1 (λ k d lt. known (suc k) d (omega (arith, lt)))
      (ap others same) in
      subst (λ z. FilledTo knows now level want z next) (append_assoc spans (joined ∷ []) (with_squares pieces ids)) rest
