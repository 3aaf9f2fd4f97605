use Rattle.std.proofs.Common.{List, ◌≡◌, ◌+◌, ◌^◌, ◌++◌, ◌∷◌, [], All, length, length-append, arith, rules, refl, sym, ◌∙◌, ap, subst}
use Rattle.std.proofs.lemmas.List.Elements.{All-push}
use Rattle.life_base.specs.Tree.{Tree}
use Rattle.life_quad.proofs.KeepingLemmas.{keeps-then, keeps-same, adds-none, adds-then}
use Rattle.life_quad.proofs.GrowsLemmas.{grows-behind, grows-err, grows-still}
use Rattle.life_strip.specs.declared.spans.Strip.{Strip}
use Rattle.life_strip.specs.Picture.{picture, height, AreFalling, IsSoundStrip}
use Rattle.life_strip.specs.Needed.{SomeSquare}
use Rattle.life_strip.proofs.NeededLemmas.{SomeSquare-same}
use Rattle.life_strip.proofs.PictureLemmas.{all_init, all_last, strips-kept, height-push, falling-init, lowest-init, falling-below}
use Rattle.life_strip.proofs.MergeLemmas.{not-greatest, merged-needs, merged-height, merged-cells}
use Rattle.life_strip.proofs.rows.push_strip.Goals as goal

pub loop-last-init : goal.loop-last-init
loop-last-init g c =
    let r = c.requires in
    let store = c.args.squares.now in
    record {
      strips = r.strips;
      strip = r.strip;
      lowest = r.lowest;
      rows = refl;
      cells = λ i j. refl;
      keeps = keeps-same store;
      adds = adds-none _ store;
    }

pub merge-requires : goal.merge-requires
merge-requires g c =
    let now = c.loop-last.squares in
    let P = IsSoundStrip (g.S.Squares.knows now) (g.S.Squares.content now) in
    let inv = c.loop-last.invariant in
    let xs = c.loop-last.strips.items in
    let first = c.take_last.new.strips.items in
    let last = c.in-Some.last in
    let consumed = c.in-Some.ensures in
    record {
      low = not-greatest xs first last c.loop-last.lowest consumed.0 consumed.1 (omega (arith, inv.rows, c.requires.space));
      one_level = sym consumed.1;
      upper = all_last P first last (subst (All P) consumed.0 inv.strips.sound);
      lower = inv.strip;
    }

pub loop-last-smaller : goal.loop-last-smaller
loop-last-smaller g c =
    let n = ap length c.in-Some.ensures.0 ∙ length-append c.take_last.new.strips.items (c.in-Some.last ∷ []) in
    omega (arith, n)

pub loop-last-preserved : goal.loop-last-preserved
loop-last-preserved g c =
    let K = g.S.Squares.knows in
    let C = g.S.Squares.content in
    let now = c.loop-last.squares in
    let P = IsSoundStrip (K now) (C now) in
    let inv = c.loop-last.invariant in
    let xs = c.loop-last.strips.items in
    let first = c.take_last.new.strips.items in
    let last = c.in-Some.last in
    let lowest = c.loop-last.lowest in
    let both = c.in_ok-lowest.lowest in
    let items = c.in-Some.ensures.0 in
    let same = c.in-Some.ensures.1 in
    let r = c.in_ok-lowest.ensures in
    let fall = subst AreFalling items inv.strips.falling in
    let h = merged-height xs first last lowest items same both r.level in
    let cells = merged-cells xs first last lowest items same both r.level r.grows.keeps inv.strips.sound r.stack in
    record {
      strips = record {
        sound = strips-kept r.grows.keeps first (all_init P first last (subst (All P) items inv.strips.sound));
        falling = falling-init first last fall;
      };
      strip = r.sound;
      lowest = lowest-init first last fall both.level r.level;
      rows = h ∙ inv.rows;
      cells = λ i j. cells i j ∙ inv.cells i j;
      keeps = keeps-then inv.keeps r.grows.keeps;
      adds = adds-then _ inv.adds r.grows.adds (λ Q n. n)
          (λ Q n. SomeSquare-same (omega (arith, inv.rows)) inv.cells
          (merged-needs xs first last lowest items same (K now) (C now) (g.met.S.Squares.full now) inv.strips inv.strip
          (omega (arith, inv.rows, c.requires.space)) Q n));
    }

pub returns-in_err-lowest-clause-grows : goal.returns-in_err-lowest-clause-grows
returns-in_err-lowest-clause-grows g c =
    let K = g.S.Squares.knows in
    let C = g.S.Squares.content in
    let now = c.loop-last.squares in
    let inv = c.loop-last.invariant in
    let xs = c.args.strips.now.items in
    let strip = c.args.strip in
    let consumed = c.in-Some.ensures in
    let M = λ (P : Tree → Type 0). SomeSquare P (height xs + 2 ^ strip.level) (picture (C c.args.squares.now) (xs ++ strip ∷ [])) in
    grows-err M (grows-behind M inv.keeps inv.adds c.in_err-lowest.ensures.grows
    (λ Q n. SomeSquare-same (omega (arith, inv.rows)) inv.cells
    (merged-needs c.loop-last.strips.items c.take_last.new.strips.items c.in-Some.last c.loop-last.lowest consumed.0 consumed.1 (K now) (C now)
    (g.met.S.Squares.full now) inv.strips inv.strip (omega (arith, inv.rows, c.requires.space)) Q n)))
    c.from_residual.ensures.1 (λ P n. n)

pub returns-in_err-push-clause-grows : goal.returns-in_err-push-clause-grows
returns-in_err-push-clause-grows g c = let inv = c.loop-last.invariant in grows-still _ inv.keeps inv.adds (search rules)

-- one strip more, below the others
below : (xs ys zs : List Strip) (s : Strip) → ys ≡ xs → zs ≡ ys ++ s ∷ [] → zs ≡ xs ++ s ∷ []
below xs ys zs s same items = items ∙ ap (λ z. z ++ s ∷ []) same

pub returns-clause-strips : goal.returns-clause-strips
returns-clause-strips g c =
    let now = c.loop-last.squares in
    let P = IsSoundStrip (g.S.Squares.knows now) (g.S.Squares.content now) in
    let inv = c.loop-last.invariant in
    let xs = c.loop-last.strips.items in
    let lowest = c.loop-last.lowest in
    let all = below xs c.take_last.new.strips.items c.push.new.self.items lowest c.in_default.ensures.0 c.in_ok-push.ensures.items in
    record {
      sound = subst (All P) (sym all) (All-push P xs lowest inv.strips.sound inv.strip);
      falling = subst AreFalling (sym all) (falling-below xs lowest inv.strips.falling inv.lowest c.in_default.ensures.1);
    }

pub returns-clause-height : goal.returns-clause-height
returns-clause-height g c =
    let xs = c.loop-last.strips.items in
    let lowest = c.loop-last.lowest in
    ap height (below xs c.take_last.new.strips.items c.push.new.self.items lowest c.in_default.ensures.0 c.in_ok-push.ensures.items)
    ∙ height-push xs lowest ∙ c.loop-last.invariant.rows

pub returns-clause-picture : goal.returns-clause-picture
returns-clause-picture g c i j =
    ap (λ z. picture (g.S.Squares.content c.loop-last.squares) z i j)
    (below c.loop-last.strips.items c.take_last.new.strips.items c.push.new.self.items c.loop-last.lowest c.in_default.ensures.0 c.in_ok-push.ensures.items)
    ∙ c.loop-last.invariant.cells i j

pub returns-clause-grows : goal.returns-clause-grows
returns-clause-grows g c = let inv = c.loop-last.invariant in grows-still _ inv.keeps inv.adds tt
