use Rattle.std.proofs.Common.{◌≡◌, ◌+◌, ◌-◌, ◌^◌, min, sym, ◌∙◌, ap, subst, arith, rules}
use Rattle.std.proofs.lemmas.Result.{IfOk-weaker}
use Rattle.std.proofs.Math.Pow.{pow_mono}
use Rattle.life_base.proofs.Squares.{blank_is}
use Rattle.life_base.specs.Tree.{blank, depth}
use Rattle.life_quad.proofs.KeepingLemmas.{keeps-then}
use Rattle.life_quad.specs.IdMap.{value_of_id}
use Rattle.life_pieces.proofs.PieceLemmas.{IsAt-kept}
use Rattle.life_leap.specs.After.{leap_length}
use Rattle.life_leap.specs.Leaps.{IsMiddleAfter}
use Rattle.life_leap.proofs.LeapLemmas.{fast-length, leap-of_blank, leap-of_parts, leaps-kept, leaps-put, new-leap, recalled-leap, slow-length}
use Rattle.life_leap.proofs.GridLemmas.{triple-known-kept}
use Rattle.life_leap.proofs.StoreSteps.{nine-of_joined, whole-of_joined}
use Rattle.life_leap.proofs.leap.+leap.Goals as goal

-- ---- the middle of a square

pub middle_after-returns-then-is_blank_at-clause-later : goal.middle_after-returns-then-is_blank_at-clause-later
middle_after-returns-then-is_blank_at-clause-later g t c =
    let k = c.args.level - 2 in
    let low = c.requires.low in
    let at = c.requires.known.level in
    let full = g.met.S.Squares.full _ _ c.requires.known.known in
    let none = sym c.is_blank_at.ensures ∙ c.if-is_blank_at.true in
    let e : depth (g.S.Squares.content c.args.squares.now c.args.id) ≡ k + 2 = omega (arith, at, low) in
    let f : c.args.level - 1 ≡ k + 1 = omega (arith, low) in
    leap-of_blank c.args.rule.now (leap_length c.args.pace c.args.level) k _ _ c.requires.quiet (pow_mono {i = min c.args.pace k} {j = k} (omega arith))
    (blank_is _ full none ∙ ap blank e) (c.empty.ensures.square ∙ ap blank f)

pub middle_after-returns-in-Some-clause-at : goal.middle_after-returns-in-Some-clause-at
middle_after-returns-in-Some-clause-at g t c = (recalled-leap _ _ _ c.args.level c.requires.remembers (sym c.get.ensures ∙ c.in-Some.is) c.requires.known).0

pub middle_after-returns-in-Some-clause-later : goal.middle_after-returns-in-Some-clause-later
middle_after-returns-in-Some-clause-later g t c = (recalled-leap _ _ _ c.args.level c.requires.remembers (sym c.get.ensures ∙ c.in-Some.is) c.requires.known).1

pub middle_after-returns-clause-remembers : goal.middle_after-returns-clause-remembers
middle_after-returns-clause-remembers g t c =
    let n = c.in_ok-answer.ensures in
    let low = c.requires.low in
    let same = n.keeps.contents c.args.id c.requires.known.known in
    let right = subst (λ u. IsMiddleAfter c.args.rule.now (leap_length c.args.pace c.args.level) (2 ^ (c.args.level - 2)) u
    (g.S.Squares.content c.middle_of_new.new.squares c.in_ok-answer.answer)) (sym same.1) n.later in
    let here = new-leap c.args.id c.in_ok-answer.answer c.args.level (omega (arith, low)) (IsAt-kept n.keeps c.requires.known) n.at right in
    leaps-put (value_of_id c.middle_of_new.new.memory) (value_of_id c.set.new.self) c.args.id c.in_ok-answer.answer n.remembers c.set.ensures.only here

-- ---- of a new one

pub middle_of_new-returns-then-level-eq4-clause-remembers : goal.middle_of_new-returns-then-level-eq4-clause-remembers
middle_of_new-returns-then-level-eq4-clause-remembers g t c =
    let leaf = c.leaf_after.ensures in
    IfOk-weaker c.leaf_after.result _ _ (λ r at. leaps-kept leaf.keeps c.requires.remembers) leaf.at

pub middle_of_new-returns-clause-later : goal.middle_of_new-returns-clause-later
middle_of_new-returns-clause-later g t c =
    let k = c.args.level - 2 in
    let low = c.requires.low in
    let e : k + 2 ≡ c.args.level = omega (arith, low) in
    let t0 = g.S.Squares.content c.args.squares.now c.args.id in
    IfOk-weaker c.middle_of_nine.result _ _
    (λ r h. subst (λ l. IsMiddleAfter c.args.rule.now (leap_length c.args.pace l) (2 ^ k) t0 (g.S.Squares.content c.middle_of_nine.new.squares r)) e
    (leap-of_parts c.args.rule.now c.args.pace k _ _ t0 _ _ _ (omega (arith, low)) c.sixteenths-sixteen.ensures.pieces c.in_ok-nine.ensures.later h))
    c.middle_of_nine.ensures.later

-- ---- the first part

pub nine_halfway-returns-then-pace-level-clause-remembers : goal.nine_halfway-returns-then-pace-level-clause-remembers
nine_halfway-returns-then-pace-level-clause-remembers g t c =
    let n = c.nine_centres.ensures in
    IfOk-weaker c.nine_centres.result _ _ (λ r known. leaps-kept n.keeps c.requires.remembers) n.known

pub nine_halfway-returns-then-pace-level-clause-later : goal.nine_halfway-returns-then-pace-level-clause-later
nine_halfway-returns-then-pace-level-clause-later g t c =
    let low = c.requires.low in
    IfOk-weaker c.nine_centres.result _ _
    (λ r h. record {
      generations = 0;
      rest = slow-length c.args.pace c.args.level (omega (arith, low)) c.if-pace-level.true;
      middles = h c.args.rule.now;
    })
    c.nine_centres.ensures.later

pub nine_halfway-returns-clause-later : goal.nine_halfway-returns-clause-later
nine_halfway-returns-clause-later g t c =
    let low = c.requires.low in
    IfOk-weaker c.nine_after.result _ _
    (λ r h. record {
      generations = leap_length c.args.pace (c.args.level + 1);
      rest = fast-length c.args.pace c.args.level (omega (arith, low)) c.if-pace-level.false;
      middles = h;
    })
    c.nine_after.ensures.later

pub nine_after-three_after-requires : goal.nine_after-three_after-requires
nine_after-three_after-requires g t c κs le =
    let j = c.in_ok-joined.ensures in
    let low = c.requires.low in
    let high = c.requires.high in
    (search rules, (le, (leaps-kept j.keeps c.requires.remembers, (j.known.first, (omega (arith, low), (omega (arith, high), c.requires.quiet))))))

pub nine_after-three_after-requires-2 : goal.nine_after-three_after-requires-2
nine_after-three_after-requires-2 g t c κs le =
    let j = c.in_ok-joined.ensures in
    let a = c.in_ok-first.ensures in
    let low = c.requires.low in
    let high = c.requires.high in
    (search rules, (le, (a.remembers, (triple-known-kept a.keeps j.known.second, (omega (arith, low), (omega (arith, high), c.requires.quiet))))))

pub nine_after-three_after-requires-3 : goal.nine_after-three_after-requires-3
nine_after-three_after-requires-3 g t c κs le =
    let j = c.in_ok-joined.ensures in
    let a = c.in_ok-first.ensures in
    let b = c.in_ok-second.ensures in
    let low = c.requires.low in
    let high = c.requires.high in (
      search rules,
      (
        le,
        (
          b.remembers,
          (
            triple-known-kept (keeps-then a.keeps b.keeps) j.known.third,
            (
              omega (arith, low),
              (
                omega
                    (arith, high),
                c.requires.quiet,
              ),
            ),
          ),
        ),
      ),
    )

pub nine_after-returns-in_err-second-clause-keeps : goal.nine_after-returns-in_err-second-clause-keeps
nine_after-returns-in_err-second-clause-keeps g t c =
    keeps-then (keeps-then c.in_ok-joined.ensures.keeps c.in_ok-first.ensures.keeps) c.in_err-second.ensures.keeps

pub nine_after-returns-in_err-third-clause-keeps : goal.nine_after-returns-in_err-third-clause-keeps
nine_after-returns-in_err-third-clause-keeps g t c =
    keeps-then (keeps-then (keeps-then c.in_ok-joined.ensures.keeps c.in_ok-first.ensures.keeps) c.in_ok-second.ensures.keeps) c.in_err-third.ensures.keeps

pub nine_after-returns-clause-keeps : goal.nine_after-returns-clause-keeps
nine_after-returns-clause-keeps g t c =
    keeps-then (keeps-then (keeps-then c.in_ok-joined.ensures.keeps c.in_ok-first.ensures.keeps) c.in_ok-second.ensures.keeps) c.in_ok-third.ensures.keeps

pub nine_after-returns-clause-later : goal.nine_after-returns-clause-later
nine_after-returns-clause-later g t c =
    let k = c.args.level in
    let j = c.in_ok-joined.ensures in
    let a = c.in_ok-first.ensures in
    let b = c.in_ok-second.ensures in
    let d = c.in_ok-third.ensures in
    let e : k + 1 - 2 ≡ k - 1 = omega arith in
    nine-of_joined a.keeps b.keeps d.keeps c.args.rule.now (leap_length c.args.pace (k + 1)) (k + 1 - 2) k (k + 1) (k + 1 - 1) c.args.sixteen.now _ _
    _ _ _ e c.blocks-blocks.ensures c.requires.known j.known a.known b.known d.known j.squares a.later b.later d.later

pub three_after-returns-in_err-third-clause-keeps : goal.three_after-returns-in_err-third-clause-keeps
three_after-returns-in_err-third-clause-keeps g t c =
    keeps-then (keeps-then c.in_ok-first.ensures.keeps c.in_ok-second.ensures.keeps) c.in_err-third.ensures.keeps

pub three_after-returns-clause-keeps : goal.three_after-returns-clause-keeps
three_after-returns-clause-keeps g t c = keeps-then (keeps-then c.in_ok-first.ensures.keeps c.in_ok-second.ensures.keeps) c.in_ok-third.ensures.keeps

-- ---- four squares of nine

pub middle_of_nine-middle_after-requires : goal.middle_of_nine-middle_after-requires
middle_of_nine-middle_after-requires g t c κs le =
    let j = c.in_ok-joined.ensures in
    let low = c.requires.low in
    let high = c.requires.high in
    (search rules, (le, (leaps-kept j.keeps c.requires.remembers, (j.known.nw, (omega (arith, low), (omega (arith, high), c.requires.quiet))))))

pub middle_of_nine-returns-in_err-ne-clause-keeps : goal.middle_of_nine-returns-in_err-ne-clause-keeps
middle_of_nine-returns-in_err-ne-clause-keeps g t c =
    keeps-then (keeps-then c.in_ok-joined.ensures.keeps c.in_ok-nw.ensures.keeps) c.in_err-ne.ensures.keeps

pub middle_of_nine-returns-in_err-sw-clause-keeps : goal.middle_of_nine-returns-in_err-sw-clause-keeps
middle_of_nine-returns-in_err-sw-clause-keeps g t c =
    keeps-then (keeps-then (keeps-then c.in_ok-joined.ensures.keeps c.in_ok-nw.ensures.keeps) c.in_ok-ne.ensures.keeps) c.in_err-sw.ensures.keeps

pub middle_of_nine-returns-in_err-se-clause-keeps : goal.middle_of_nine-returns-in_err-se-clause-keeps
middle_of_nine-returns-in_err-se-clause-keeps g t c =
    keeps-then (keeps-then (keeps-then (keeps-then c.in_ok-joined.ensures.keeps c.in_ok-nw.ensures.keeps) c.in_ok-ne.ensures.keeps) c.in_ok-sw.ensures.keeps)
    c.in_err-se.ensures.keeps

pub middle_of_nine-returns-clause-keeps : goal.middle_of_nine-returns-clause-keeps
middle_of_nine-returns-clause-keeps g t c =
    keeps-then (keeps-then (keeps-then (keeps-then (keeps-then c.in_ok-joined.ensures.keeps c.in_ok-nw.ensures.keeps) c.in_ok-ne.ensures.keeps)
    c.in_ok-sw.ensures.keeps) c.in_ok-se.ensures.keeps) c.join.ensures.keeps

pub middle_of_nine-returns-clause-remembers : goal.middle_of_nine-returns-clause-remembers
middle_of_nine-returns-clause-remembers g t c =
    IfOk-weaker c.join.result _ _ (λ r known. leaps-kept c.join.ensures.keeps c.in_ok-se.ensures.remembers) c.join.ensures.known

pub middle_of_nine-returns-clause-later : goal.middle_of_nine-returns-clause-later
middle_of_nine-returns-clause-later g t c =
    let k = c.args.level in
    let j = c.in_ok-joined.ensures in
    let nw = c.in_ok-nw.ensures in
    let ne = c.in_ok-ne.ensures in
    let sw = c.in_ok-sw.ensures in
    let se = c.in_ok-se.ensures in
    let e : k + 1 - 2 ≡ k - 1 = omega arith in
    let f : k + 1 - 1 ≡ k = omega arith in
    IfOk-weaker c.join.result _ _
    (λ r is. whole-of_joined nw.keeps ne.keeps sw.keeps se.keeps c.args.rule.now (leap_length c.args.pace (k + 1)) (k + 1 - 2) k (k + 1) (k + 1 - 1)
    c.args.nine.now _ _ _ _ _ _ e f c.requires.known j.known nw.at ne.at sw.at se.at is j.squares nw.later ne.later sw.later se.later)
    c.join.ensures.square
