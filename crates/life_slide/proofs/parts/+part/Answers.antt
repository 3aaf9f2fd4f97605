use Rattle.std.proofs.Common.{◌≡◌, ℕ, ◌/◌, ◌%◌, ◌^◌, ◌==◌, ◌⊎◌, inl, inr, ◌-◌, sym, ◌∙◌, ap, subst, arith}
use Rattle.life_base.specs.Tree.{Tree, depth, quad, IsFull}
use Rattle.life_quad.specs.declared.id.Id.{Id}
use Rattle.life_slide.specs.Parts.{AreAlike, IsLike, TableGives, key_of_quarters}
use Rattle.life_slide.specs.declared.sides.Side.{Side}
use Rattle.life_slide.specs.declared.table.Key.{Key}
use Rattle.life_slide.proofs.PartLemmas.{alike-back, alike-joined, alike-self, alike-then, found-more}
use Rattle.life_slide.proofs.parts.+part.Given.{Over}
use Rattle.life_slide.proofs.parts.+part.Goals as goal
use Rattle.life_slide.proofs.parts.+part.Goals.{After-part-se}

pub returns-then-level-eq0-clause-alike : goal.returns-then-level-eq0-clause-alike
returns-then-level-eq0-clause-alike g t c = c.part_of_cell.ensures _ _

pub returns-in-Some-clause-alike : goal.returns-in-Some-clause-alike
returns-in-Some-clause-alike g t c =
    c.requires.right.known c.args.columns c.args.rows c.args.id c.in-Some.first
    (subst (λ (key : Key). TableGives c.args.parts.now.known key c.in-Some.first)
    (c.of-key.ensures ∙ ap (key_of_quarters c.args.columns c.args.rows) c.four_times.ensures) c.in-Some.ensures)

like-sides : {columns rows : ℕ} {east south e s : Side} {t u : Tree} → AreAlike columns rows e s t u → e ≡ east → s ≡ south
    → AreAlike columns rows east south t u
like-sides {columns = c} {rows = r} {east = east} {s = s} {t = t} {u = u} h x y =
    subst (λ n. AreAlike c r east n t u) y (subst (λ m. AreAlike c r m s t u) x h)

-- a square and the square of the firsts of its quarters
own-like : (g : Over) (t : ℕ) (c : After-part-se g t)
    → let content = g.S.Squares.content c.args.squares.now in
    AreAlike c.args.offset.columns c.args.offset.rows c.args.columns c.args.rows (content c.args.id)
    (quad (content c.part-nw.result) (content c.part-ne.result) (content c.part-sw.result) (content c.part-se.result))
    × IsFull (quad (content c.part-nw.result) (content c.part-ne.result) (content c.part-sw.result) (content c.part-se.result))
own-like g t c =
    let content = g.S.Squares.content c.args.squares.now in
    let full = g.met.S.Squares.full c.args.squares.now in
    let q = c.divide-four.ensures.quarters in
    let nw = c.part-nw.ensures.alike in
    let ne = c.part-ne.ensures.alike in
    let sw = c.part-sw.ensures.alike in
    let se = c.part-se.ensures.alike in
    let a = nw.alike.level in
    let b = ne.alike.level in
    let d = sw.alike.level in
    let e = se.alike.level in
    let l = q.nw_level in
    let m = q.ne_level in
    let n = q.sw_level in
    let o = q.se_level in
    let is = c.divide-four.ensures.square in
    let whole : IsFull (quad (content c.part-nw.result) (content c.part-ne.result) (content c.part-sw.result) (content c.part-se.result)) = (
      full _ nw.known,
      full _ ne.known,
      full _ sw.known,
      full _ se.known,
      omega (arith, a, b, l, m),
      omega (arith, a, d, l, n),
      omega (arith, a, e, l, o),
    ) in
    let at = c.requires.at.level in
    let low : depth (content c.divide-four.result.nw) ≡ c.args.level - 1 = omega (arith, at, l) in (
      alike-then _ _ _ _ _ _ _ (alike-self _ _ _ _ _ _ is)
          (alike-joined c.args.offset.columns c.args.offset.rows c.args.columns c.args.rows c.digit-east.result c.digit-south.result _ _ _ _ _ _ _ _
          (subst IsFull is (full _ c.requires.at.known)) whole
          (c.digit-east.ensures ∙ ap (λ k. c.args.offset.columns / 2 ^ k % 2 == 1) (sym low))
          (c.digit-south.ensures ∙ ap (λ k. c.args.offset.rows / 2 ^ k % 2 == 1) (sym low))
          (like-sides nw.alike c.first-west.ensures c.first-north.ensures)
          (like-sides ne.alike c.second-east.ensures c.first-north.ensures)
          (like-sides sw.alike c.first-west.ensures c.second-south.ensures)
          (like-sides se.alike c.second-east.ensures c.second-south.ensures)),
      whole,
    )

pub first_of-first-requires-clause-like : goal.first_of-first-requires-clause-like
first_of-first-requires-clause-like g t c = by c.own_or_blank-own.ensures
  where
    content : Id → Tree
    content = g.S.Squares.content c.args.squares.now

    whole : Tree
    whole = quad (content c.part-nw.result) (content c.part-ne.result) (content c.part-sw.result) (content c.part-se.result)

    by : (c.own_or_blank-own.result ≡ c.args.id) ⊎ (g.S.Squares.knows c.args.squares.now c.own_or_blank-own.result
        × (content c.own_or_blank-own.result ≡ whole))
        → IsLike (g.S.Squares.knows c.args.squares.now) content c.args.offset.columns c.args.offset.rows c.args.columns c.args.rows whole
        c.own_or_blank-own.result
    by (inl e) =
        let own = own-like g t (goal.at.first_of-first-requires-clause-like g t c).After-part-se in
        subst (IsLike (g.S.Squares.knows c.args.squares.now) content c.args.offset.columns c.args.offset.rows c.args.columns c.args.rows whole) (sym e)
        (record { known = c.requires.at.known; alike = alike-back _ _ _ _ _ _ own.0 })
    by (inr b) = record { known = b.0; alike = alike-self _ _ _ _ _ _ (sym b.1) }

pub returns-clause-alike : goal.returns-clause-alike
returns-clause-alike g t c =
    let at = (goal.at.returns-clause-alike g t c).After-part-se in
    record { known = c.first_of-first.ensures.like.known; alike = alike-then _ _ _ _ _ _ _ (own-like g t at).0 c.first_of-first.ensures.like.alike }

pub returns-clause-right : goal.returns-clause-right
returns-clause-right g t c =
    let at = (goal.at.returns-clause-right g t c).After-part-se in
    record {
      known =
          found-more _ _ _ _ c.part-se.new.parts.known c.put.new.self c.args.columns c.args.rows _ _ c.put.ensures c.args.id
          (c.of-key.ensures ∙ ap (key_of_quarters c.args.columns c.args.rows) c.four_times.ensures) c.part-se.ensures.right.known
          (record { known = c.first_of-first.ensures.like.known; alike = alike-then _ _ _ _ _ _ _ (own-like g t at).0 c.first_of-first.ensures.like.alike });
      firsts = c.first_of-first.ensures.right;
    }
