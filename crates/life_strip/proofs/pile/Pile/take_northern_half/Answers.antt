use Rattle.std.proofs.Common.{◌-◌, ◌^◌, ◌∷◌, arith, ap, refl, sym, ◌∙◌, subst, length}
use Rattle.life_base.specs.declared.cell.TheConstants.{MAX_LEVEL}
use Rattle.life_strip.specs.Middle.{IsBlankNorth, IsBlankTo}
use Rattle.life_strip.specs.Picture.{height, picture, AreStacked}
use Rattle.life_strip.proofs.MiddlePiles.{pile-blank}
use Rattle.life_strip.proofs.pile.Pile.take_northern_half.Goals as goal

pub is_blank_north-requires-clause-strips : goal.is_blank_north-requires-clause-strips
is_blank_north-requires-clause-strips g c =
    subst (AreStacked (g.S.Squares.knows c.args.squares.now) (g.S.Squares.content c.args.squares.now)) (sym c.as_slice.ensures.value)
    c.requires.pile.strips

pub is_blank_north-requires-clause-space : goal.is_blank_north-requires-clause-space
is_blank_north-requires-clause-space g c =
    let e = ap height c.as_slice.ensures.value in let r = c.requires.space in omega (arith, e, r)

pub returns-then-not-is_blank_north-clause-cell : goal.returns-then-not-is_blank_north-clause-cell
returns-then-not-is_blank_north-clause-cell g c h tall none =
    let C = g.S.Squares.content c.args.squares.now in
    let e = c.as_slice.ensures.value in
    let p = pile-blank C c.args.self.now c.requires.pile.lowest c.requires.pile.few tall none in
    let t = ap height e in
    c.is_blank_north.ensures.cell c.if-not-is_blank_north.true (omega (arith, t, p.0)) (subst (λ z. IsBlankTo (2 ^ (MAX_LEVEL - 1)) (picture C z)) (sym e) p.1)

pub remove-northern-requires : goal.remove-northern-requires
remove-northern-requires g c =
    let C = g.S.Squares.content c.args.squares.now in
    let h = subst (IsBlankNorth C) c.as_slice.ensures.value (c.is_blank_north.ensures.blank c.if-not-is_blank_north.false) in
    let n = ap length h.first in
    let ok = c.args.self.now.strips.ok.0 in
    omega (arith, n, ok)

pub returns-clause-consumed : goal.returns-clause-consumed
returns-clause-consumed g c t =
    let C = g.S.Squares.content c.args.squares.now in
    let h = subst (IsBlankNorth C) c.as_slice.ensures.value (c.is_blank_north.ensures.blank c.if-not-is_blank_north.false) in
    record {
      north = h.north;
      strips = h.first ∙ ap (λ z. h.north ∷ z) (sym c.remove-northern.ensures.by_index.2);
      band = refl;
      level = h.level;
      blank = h.blank;
    }
