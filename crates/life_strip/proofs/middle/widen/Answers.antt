use Rattle.std.proofs.Common.{◌∷◌, [], arith, refl, ◌∙◌}
use Rattle.life_base.specs.Tree.{Tree}
use Rattle.life_quad.proofs.KeepingLemmas.{keeps-then, keeps-same, adds-none, adds-then}
use Rattle.life_quad.proofs.GrowsLemmas.{grows-behind, grows-err, grows-still}
use Rattle.life_strip.specs.declared.spans.Strip.{Strip}
use Rattle.life_strip.specs.Middle.{SomeWider}
use Rattle.life_strip.specs.Picture.{picture, IsSoundStrip}
use Rattle.life_strip.proofs.BandPictures.{all-one}
use Rattle.life_strip.proofs.MergeLemmas.{blank-sound, merged-cells}
use Rattle.life_strip.proofs.MiddleLemmas.{adjacent-same, wider-still, wider-needs}
use Rattle.life_strip.proofs.PictureLemmas.{picture-blank}
use Rattle.life_strip.proofs.middle.widen.Goals as goal

pub loop-alloc-init : goal.loop-alloc-init
loop-alloc-init g c =
    let store = c.args.squares.now in
    record {
      sound = c.requires.sound;
      low = omega arith;
      high = c.requires.high;
      cells = λ i j. refl;
      needed = λ m from to. absurd (omega (arith, from, to));
      keeps = keeps-same store;
      adds = adds-none _ store;
    }

pub merge-requires : goal.merge-requires
merge-requires g c =
    let now = c.loop-alloc.squares in
    let level = c.loop-alloc.wide.level in
    record {
      low = c.loop-alloc.invariant.high;
      one_level = refl;
      upper = c.loop-alloc.invariant.sound;
      lower = blank-sound (g.S.Squares.knows now) (g.S.Squares.content now) (record { level = level; spans = c.new.result }) c.new.ensures.items;
    }

pub loop-alloc-smaller : goal.loop-alloc-smaller
loop-alloc-smaller g c = let h = c.loop-alloc.invariant.high in omega (arith, c.in_ok-wide.ensures.level, h)

pub loop-alloc-preserved : goal.loop-alloc-preserved
loop-alloc-preserved g c =
    let K = g.S.Squares.knows in
    let C = g.S.Squares.content in
    let now = c.loop-alloc.squares in
    let inv = c.loop-alloc.invariant in
    let last = c.loop-alloc.wide in
    let blank : Strip = record { level = last.level; spans = c.new.result } in
    let none = c.new.ensures.items in
    let r = c.in_ok-wide.ensures in
    let low = c.is_wider.ensures.low c.loop-alloc-test.true in
    let wider = c.is_wider.ensures.wider c.loop-alloc-test.true in
    let still = wider-still (picture (C now) (last ∷ [])) (picture (C c.args.squares.now) (c.args.strip ∷ [])) inv.cells c.args.strip.level last.level
    inv.needed wider in
    record {
      sound = r.sound;
      low = let l = inv.low in omega (arith, r.level, l);
      high = omega (arith, r.level, low);
      cells = λ i j. merged-cells (last ∷ []) [] last blank refl refl c.in_ok-wide.wide r.level r.grows.keeps
          (all-one (IsSoundStrip (K now) (C now)) last inv.sound) r.stack i j
          ∙ picture-blank (C now) (last ∷ []) blank none i j ∙ inv.cells i j;
      needed = λ m from to. still m from (omega (arith, r.level, to));
      keeps = keeps-then inv.keeps r.grows.keeps;
      adds = adds-then _ inv.adds r.grows.adds (λ P n. n)
          (λ P n. wider-needs (K now) (C now) (g.met.S.Squares.full now) last blank refl none inv.sound c.args.strip.level
          (picture (C c.args.squares.now) (c.args.strip ∷ [])) inv.cells inv.low low still P n);
    }

pub returns-in_err-wide-clause-grows : goal.returns-in_err-wide-clause-grows
returns-in_err-wide-clause-grows g c =
    let K = g.S.Squares.knows in
    let C = g.S.Squares.content in
    let now = c.loop-alloc.squares in
    let inv = c.loop-alloc.invariant in
    let last = c.loop-alloc.wide in
    let blank : Strip = record { level = last.level; spans = c.new.result } in
    let f = picture (C c.args.squares.now) (c.args.strip ∷ []) in
    let low = c.is_wider.ensures.low c.loop-alloc-test.true in
    let wider = c.is_wider.ensures.wider c.loop-alloc-test.true in
    let still = wider-still (picture (C now) (last ∷ [])) f inv.cells c.args.strip.level last.level inv.needed wider in
    let M = λ (P : Tree → Type 0). SomeWider P c.args.strip.level f in
    grows-err M (grows-behind M inv.keeps inv.adds c.in_err-wide.ensures.grows
    (λ P n. wider-needs (K now) (C now) (g.met.S.Squares.full now) last blank refl c.new.ensures.items inv.sound c.args.strip.level f inv.cells inv.low low
    still P n))
    c.from_residual.ensures.1 (λ P n. n)

pub returns-clause-grows : goal.returns-clause-grows
returns-clause-grows g c = let inv = c.loop-alloc.invariant in grows-still _ inv.keeps inv.adds tt

pub returns-clause-adjacent : goal.returns-clause-adjacent
returns-clause-adjacent g c =
    let inv = c.loop-alloc.invariant in
    let C = g.S.Squares.content in
    adjacent-same c.loop-alloc.wide.level (picture (C c.loop-alloc.squares) (c.loop-alloc.wide ∷ [])) (picture (C c.args.squares.now) (c.args.strip ∷ []))
    inv.cells (c.is_wider.ensures.adjacent c.loop-alloc-test.false)
