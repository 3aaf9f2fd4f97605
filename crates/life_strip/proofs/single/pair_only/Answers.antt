use Rattle.std.proofs.Common.{◌≡◌, ℕ, suc, ◌+◌, ◌-◌, ◌^◌, ◌<◌, ◌≤◌, List, ◌∷◌, [], refl, sym, ◌∙◌, subst, arith}
use Rattle.std.proofs.lemmas.Result.{IfOk-weaker}
use Rattle.life_base.specs.declared.cell.TheConstants.{MAX_LEVEL}
use Rattle.life_base.specs.Tree.{Tree}
use Rattle.life_quad.specs.declared.id.Id.{Id}
use Rattle.life_quad.proofs.KeepingLemmas.{adds-as}
use Rattle.life_quad.proofs.GrowsLemmas.{grows-err, grows-still, only-grows}
use Rattle.life_strip.specs.declared.single.Columns.{Columns}
use Rattle.life_strip.specs.declared.spans.Span.{Span}
use Rattle.life_strip.specs.Strip.{AreBefore, AreWithin, FilledTo, IsPaired, IsStrip, quad_at}
use Rattle.life_strip.specs.Needed.{SomeColumn}
use Rattle.life_strip.proofs.SpanLemmas.{before_more}
use Rattle.life_strip.proofs.PairLemmas.{one-column}
use Rattle.life_strip.proofs.SingleLemmas.{only-filled, only-paired, only-within}
use Rattle.life_strip.proofs.single.pair_only.Given.{Over}
use Rattle.life_strip.proofs.single.pair_only.Goals as goal
use Rattle.life_strip.proofs.single.pair_only.Goals.{After-put_only}

-- the square of two strips, by other names of their spans
named : (C : Id → Tree) (level column : ℕ) (a b upper lower : List Span) → a ≡ upper → b ≡ lower
    → quad_at C level a b column ≡ quad_at C level upper lower column
named C level column a b upper lower e f = λ i. quad_at C level (e i) (f i) column

square : (g : Over) (c : After-put_only g) → let C = g.S.Squares.content in
    C c.join_only.new.squares c.in_ok-square.square ≡ quad_at (C c.args.squares.now) c.args.level c.args.upper.items c.args.lower.items c.args.columns.start
square g c =
    c.in_ok-square.ensures.square ∙ named (g.S.Squares.content c.args.squares.now) c.args.level c.args.columns.start _ _ _ _ c.as_slice.ensures.value
    c.as_slice-2.ensures.value

deeper : (level : ℕ) → suc level ≡ level + 1
deeper level = omega arith

filled : (g : Over) (c : After-put_only g) → let K = g.S.Squares.knows in
    let C = g.S.Squares.content in
    FilledTo (K c.join_only.new.squares) (C c.join_only.new.squares) (suc c.args.level)
    (quad_at (C c.args.squares.now) c.args.level c.args.upper.items c.args.lower.items)
    (record { start = c.args.columns.start; end = c.args.columns.end; square = c.in_ok-square.square } ∷ []) c.args.columns.end
filled g c =
    let K = g.S.Squares.knows in
    let C = g.S.Squares.content in
    only-filled (K c.args.squares.now) (K c.join_only.new.squares) (C c.args.squares.now) (C c.join_only.new.squares) c.args.level c.args.columns
    c.args.upper.items c.args.lower.items c.requires.upper c.requires.only c.in_ok-square.square c.in_ok-square.ensures.known (square g c)

pub returns-clause-strip : goal.returns-clause-strip
returns-clause-strip g c =
    let new = c.join_only.new.squares in
    let is = IsStrip (g.S.Squares.knows new) (g.S.Squares.content new) in
    let span : Span = record { start = c.args.columns.start; end = c.args.columns.end; square = c.in_ok-square.square } in
    IfOk-weaker c.put_only.result _ _ (λ r e. subst (is (c.args.level + 1)) (sym e)
    (subst (λ n. is n (span ∷ [])) (deeper c.args.level) (filled g c).strip))
    c.put_only.ensures.items

pub returns-clause-within : goal.returns-clause-within
returns-clause-within g c =
    let level = c.args.level in
    let columns = c.args.columns in
    let r = c.requires in
    let inside = only-within level columns c.args.upper.items c.args.lower.items r.low r.only r.upper_within r.lower_within in
    let span : Span = record { start = columns.start; end = columns.end; square = c.in_ok-square.square } in
    IfOk-weaker c.put_only.result _ _ (λ r e. subst (AreWithin (level + 1)) (sym e)
    (subst (λ n. AreBefore (2 ^ (MAX_LEVEL - n)) (span ∷ [])) (deeper level)
    (before_more columns.end (2 ^ (MAX_LEVEL - suc level)) (span ∷ []) (filled g c).before (omega (arith, inside)))))
    c.put_only.ensures.items

pub returns-clause-paired : goal.returns-clause-paired
returns-clause-paired g c =
    let K = g.S.Squares.knows in
    let C = g.S.Squares.content in
    let old = c.args.squares.now in
    let new = c.join_only.new.squares in
    let upper = c.args.upper.items in
    let lower = c.args.lower.items in
    IfOk-weaker c.put_only.result _ _ (λ r e. subst (IsPaired (C old) (C new) c.args.level upper lower) (sym e)
    (only-paired (K old) (K new) (C old) (C new) c.args.level c.args.columns upper lower c.requires.upper c.requires.only c.in_ok-square.square
    c.in_ok-square.ensures.known (square g c)))
    c.put_only.ensures.items

-- the first column is on the plane
first-within : (columns : Columns) {side : ℕ} → columns.start < columns.end → columns.end ≤ side → columns.start < side
first-within columns some within = omega (arith, some, within)

-- the square is the one that the call needs
needed : (C : Id → Tree) (level column : ℕ) (a b upper lower : List Span) → a ≡ upper → b ≡ lower → column < 2 ^ (MAX_LEVEL - suc level)
    → (P : Tree → Type 0) → P (quad_at C level a b column) → SomeColumn P (level + 1) (quad_at C level upper lower)
needed C level column a b upper lower e f within P p =
    one-column level C C upper lower column refl within P (subst P (named C level column a b upper lower e f) p)

pub returns-in_err-square-clause-grows : goal.returns-in_err-square-clause-grows
returns-in_err-square-clause-grows g c =
    let level = c.args.level in
    let upper = c.args.upper.items in
    let lower = c.args.lower.items in
    let inside = only-within level c.args.columns upper lower c.requires.low c.requires.only c.requires.upper_within c.requires.lower_within in
    grows-err _ (only-grows c.in_err-square.ensures.grows) c.from_residual.ensures.1
    (needed (g.S.Squares.content c.args.squares.now) level c.args.columns.start _ _ upper lower c.as_slice.ensures.value c.as_slice-2.ensures.value
    (first-within c.args.columns c.requires.only.some inside))

pub returns-clause-grows : goal.returns-clause-grows
returns-clause-grows g c =
    let level = c.args.level in
    let upper = c.args.upper.items in
    let lower = c.args.lower.items in
    let inside = only-within level c.args.columns upper lower c.requires.low c.requires.only c.requires.upper_within c.requires.lower_within in
    let join = c.in_ok-square.ensures.grows in
    grows-still _ join.keeps (adds-as _ join.adds
    (needed (g.S.Squares.content c.args.squares.now) level c.args.columns.start _ _ upper lower c.as_slice.ensures.value c.as_slice-2.ensures.value
    (first-within c.args.columns c.requires.only.some inside)))
    c.put_only.ensures.refusals
