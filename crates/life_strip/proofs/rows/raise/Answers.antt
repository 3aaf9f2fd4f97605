use Rattle.std.proofs.Common.{◌^◌, ◌∷◌, [], arith, refl, ◌∙◌}
use Rattle.life_base.specs.Tree.{Tree}
use Rattle.life_quad.proofs.KeepingLemmas.{keeps-then, keeps-same, adds-none, adds-then}
use Rattle.life_quad.proofs.GrowsLemmas.{grows-behind, grows-err, grows-still}
use Rattle.life_strip.specs.declared.spans.Strip.{Strip}
use Rattle.life_strip.specs.Picture.{picture, IsSoundStrip}
use Rattle.life_strip.specs.Needed.{SomeSquare}
use Rattle.life_strip.proofs.NeededLemmas.{SomeSquare-same}
use Rattle.life_strip.proofs.PictureLemmas.{picture-blank}
use Rattle.life_strip.proofs.BandPictures.{all-one}
use Rattle.life_strip.proofs.MergeLemmas.{blank-sound, merged-cells, raised-needs}
use Rattle.life_strip.proofs.rows.raise.Goals as goal

pub loop-raised-init : goal.loop-raised-init
loop-raised-init g c =
    let store = c.args.squares.now in
    record { sound = c.requires.strip; low = c.requires.low; cells = λ i j. refl; keeps = keeps-same store; adds = adds-none _ store }

pub merge-requires : goal.merge-requires
merge-requires g c =
    let now = c.loop-raised.squares in
    let level = c.loop-raised.raised.level in
    record {
      low = omega (arith, c.loop-raised-test.true, c.requires.high);
      one_level = refl;
      upper = c.loop-raised.invariant.sound;
      lower = blank-sound (g.S.Squares.knows now) (g.S.Squares.content now) (record { level = level; spans = c.new.result }) c.new.ensures.items;
    }

pub loop-raised-smaller : goal.loop-raised-smaller
loop-raised-smaller g c = omega (arith, c.in_ok-raised.ensures.level, c.loop-raised-test.true)

pub loop-raised-preserved : goal.loop-raised-preserved
loop-raised-preserved g c =
    let K = g.S.Squares.knows in
    let C = g.S.Squares.content in
    let now = c.loop-raised.squares in
    let inv = c.loop-raised.invariant in
    let last = c.loop-raised.raised in
    let blank : Strip = record { level = last.level; spans = c.new.result } in
    let none = c.new.ensures.items in
    let r = c.in_ok-raised.ensures in
    record {
      sound = r.sound;
      low = omega (arith, r.level, c.loop-raised-test.true);
      cells = λ i j. merged-cells (last ∷ []) [] last blank refl refl c.in_ok-raised.raised r.level r.grows.keeps
          (all-one (IsSoundStrip (K now) (C now)) last inv.sound) r.stack i j
          ∙ picture-blank (C now) (last ∷ []) blank none i j ∙ inv.cells i j;
      keeps = keeps-then inv.keeps r.grows.keeps;
      adds = adds-then _ inv.adds r.grows.adds (λ P n. n)
          (λ P n. SomeSquare-same (omega arith) inv.cells
          (raised-needs (K now) (C now) (g.met.S.Squares.full now) last blank refl none inv.sound c.args.top c.loop-raised-test.true c.requires.high P n));
    }

pub returns-in_err-raised-clause-grows : goal.returns-in_err-raised-clause-grows
returns-in_err-raised-clause-grows g c =
    let K = g.S.Squares.knows in
    let C = g.S.Squares.content in
    let now = c.loop-raised.squares in
    let inv = c.loop-raised.invariant in
    let last = c.loop-raised.raised in
    let M = λ (P : Tree → Type 0). SomeSquare P (2 ^ c.args.top) (picture (C c.args.squares.now) (c.args.strip ∷ [])) in
    grows-err M (grows-behind M inv.keeps inv.adds c.in_err-raised.ensures.grows
    (λ P n. SomeSquare-same (omega arith) inv.cells
    (raised-needs (K now) (C now) (g.met.S.Squares.full now) last (record { level = last.level; spans = c.new.result }) refl c.new.ensures.items inv.sound
    c.args.top c.loop-raised-test.true c.requires.high P n)))
    c.from_residual.ensures.1 (λ P n. n)

pub returns-clause-grows : goal.returns-clause-grows
returns-clause-grows g c = let inv = c.loop-raised.invariant in grows-still _ inv.keeps inv.adds tt
