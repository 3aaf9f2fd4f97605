use Rattle.std.proofs.Common.{◌≡◌, ℕ, ◌+◌, List, arith, sym, subst}
use Rattle.life_base.specs.Tree.{Tree}
use Rattle.life_quad.specs.declared.id.Id.{Id}
use Rattle.life_quad.proofs.GrowsLemmas.{grows-err, grows-ok}
use Rattle.life_strip.specs.declared.spans.Span.{Span}
use Rattle.life_strip.specs.Strip.{IsStrip, AreWithin, IsPaired, Rise, quad_at}
use Rattle.life_strip.specs.Needed.{SomeColumn}
use Rattle.life_strip.proofs.PictureLemmas.{stack}
use Rattle.life_strip.proofs.rows.merge_long.Goals as goal

-- a square that the pair of two lists of spans needs is one of the spans of two strips
of-spans : (content : Id → Tree) (level : ℕ) (a b upper lower : List Span) → a ≡ upper → b ≡ lower → (P : Tree → Type 0)
    → SomeColumn P (level + 1) (quad_at content level a b) → SomeColumn P (level + 1) (quad_at content level upper lower)
of-spans content level a b upper lower ea eb P n =
    subst (λ z. SomeColumn P (level + 1) (quad_at content level z lower)) ea (subst (λ z. SomeColumn P (level + 1) (quad_at content level a z)) eb n)

pub pair-requires-clause-upper : goal.pair-requires-clause-upper
pair-requires-clause-upper g c =
    subst (IsStrip (g.S.Squares.knows c.args.squares.now) (g.S.Squares.content c.args.squares.now) c.args.upper.level) (sym c.as_slice.ensures.value)
    c.requires.upper.squares

pub pair-requires-clause-lower : goal.pair-requires-clause-lower
pair-requires-clause-lower g c =
    let known = IsStrip (g.S.Squares.knows c.args.squares.now) (g.S.Squares.content c.args.squares.now) in
    subst (λ n. known n c.as_slice-2.result.now) c.requires.one_level
    (subst (known c.args.lower.level) (sym c.as_slice-2.ensures.value) c.requires.lower.squares)

pub pair-requires-clause-upper_within : goal.pair-requires-clause-upper_within
pair-requires-clause-upper_within g c = subst (AreWithin c.args.upper.level) (sym c.as_slice.ensures.value) c.requires.upper.within

pub pair-requires-clause-lower_within : goal.pair-requires-clause-lower_within
pair-requires-clause-lower_within g c =
    subst (λ n. AreWithin n c.as_slice-2.result.now) c.requires.one_level
    (subst (AreWithin c.args.lower.level) (sym c.as_slice-2.ensures.value) c.requires.lower.within)

pub pair-requires-clause-upper_rises : goal.pair-requires-clause-upper_rises
pair-requires-clause-upper_rises g c = subst Rise (sym c.as_slice.ensures.value) c.requires.upper.rises

pub pair-requires-clause-lower_rises : goal.pair-requires-clause-lower_rises
pair-requires-clause-lower_rises g c = subst Rise (sym c.as_slice-2.ensures.value) c.requires.lower.rises

pub returns-clause-sound : goal.returns-clause-sound
returns-clause-sound g c =
    let h = c.in_ok-spans.ensures in
    record { squares = h.strip; within = h.within; rises = h.rises }

pub returns-clause-stack : goal.returns-clause-stack
returns-clause-stack g c =
    stack (g.S.Squares.knows c.args.squares.now) (g.S.Squares.content c.args.squares.now) (g.S.Squares.content c.pair.new.squares) c.args.upper
    c.args.lower
    (record { level = c.args.upper.level + 1; spans = c.in_ok-spans.spans }) c.requires.upper.squares c.requires.one_level (omega arith)
    (subst (λ z. IsPaired (g.S.Squares.content c.args.squares.now) (g.S.Squares.content c.pair.new.squares) c.args.upper.level z
    c.args.lower.spans.items c.in_ok-spans.spans.items) c.as_slice.ensures.value
    (subst (λ z. IsPaired (g.S.Squares.content c.args.squares.now) (g.S.Squares.content c.pair.new.squares) c.args.upper.level c.as_slice.result.now z
    c.in_ok-spans.spans.items) c.as_slice-2.ensures.value c.in_ok-spans.ensures.paired))

pub returns-in_err-spans-clause-grows : goal.returns-in_err-spans-clause-grows
returns-in_err-spans-clause-grows g c =
    grows-err _ c.in_err-spans.ensures.grows c.from_residual.ensures.1
    (of-spans (g.S.Squares.content c.args.squares.now) c.args.upper.level c.as_slice.result.now c.as_slice-2.result.now c.args.upper.spans.items
    c.args.lower.spans.items c.as_slice.ensures.value c.as_slice-2.ensures.value)

pub returns-clause-grows : goal.returns-clause-grows
returns-clause-grows g c =
    grows-ok _ c.in_ok-spans.ensures.grows
    (of-spans (g.S.Squares.content c.args.squares.now) c.args.upper.level c.as_slice.result.now c.as_slice-2.result.now c.args.upper.spans.items
    c.args.lower.spans.items c.as_slice.ensures.value c.as_slice-2.ensures.value)
