use Rattle.std.proofs.Common.{◌≡◌, ℕ, ◌≤◌, false, ap, ◌∙◌, sym, subst, arith}
use Rattle.life_base.specs.Tree.{blank}
use Rattle.life_base.proofs.Squares.{full-blank, is_blank-blank}
use Rattle.life_quad.proofs.GrowsLemmas.{grows-same}
use Rattle.life_quad.proofs.TurningLemmas.{blank-image, blank-turned}
use Rattle.life_quad.specs.Turning.{turned_tree}
use Rattle.life_pattern.specs.Universe.{Universe}
use Rattle.life_forms.specs.Needed.{IsMovedRoot}
use Rattle.life_forms.specs.Turns.{turn_of}
use Rattle.life_forms.proofs.MirrorFacts.{depth-mirrored, full-mirrored, low-mirrored, mirrored, mirrored-universe}
use Rattle.life_forms.proofs.MovedFacts.{blank-root}
use Rattle.life_forms.proofs.moves.moved_root.Goals as goal

high-of : (m k : ℕ) → 1 ≤ m → m ≤ k → 1 ≤ k
high-of m k p h = omega (arith, p, h)

as-high : (m k n : ℕ) → m ≤ k → n ≡ k → m ≤ n
as-high m k n h e = omega (arith, h, e)

pub returns-in-None-clause-moved : goal.returns-in-None-clause-moved
returns-in-None-clause-moved g c =
    let t = g.S.Squares.content c.args.from.now c.args.root in
    let centre = c.squares_are_centred.ensures in
    let tell = c.centred_squares_tell_cells.ensures in
    let v = c.args.columns in
    let w = c.args.rows in
    let turn = turn_of false v w in
    let full = g.met.S.Squares.full _ _ c.requires.known in
    let low = g.met.S.Squares.low _ _ c.requires.known in
    let high = high-of _ _ c.requires.positive c.requires.high in
    let none = rw c.in-None.is at c.requires.bounds in
    let m = c.args.least in
    λ rule generation. subst (λ (u : Universe). IsMovedRoot u m (turned_tree turn (g.T.Squares.content c.args.to.now c.empty.result)))
    (mirrored-universe centre tell v w t full high rule generation)
    (blank-root (mirrored centre tell v w t full high) (blank-image turn t ∙ none) (full-mirrored centre tell v w t full high)
    (low-mirrored centre tell v w t full high low) m
    c.requires.positive (as-high _ _ _ c.requires.high (depth-mirrored centre tell v w t full high)) rule generation _
    (ap (turned_tree turn) c.empty.ensures.square ∙ sym (blank-turned turn (blank m) (full-blank m) (is_blank-blank m))))

pub returns-in-None-clause-grows : goal.returns-in-None-clause-grows
returns-in-None-clause-grows g c = grows-same _ c.args.to.now tt
