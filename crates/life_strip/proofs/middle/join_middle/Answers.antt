use Rattle.std.proofs.Common.{◌≡◌, ◌-◌, ◌^◌, ◌∷◌, [], ap, sym, ◌∙◌, subst, Result, Ok, Err, IfOk, OnErr}
use Rattle.life_base.specs.declared.cell.TheConstants.{MAX_LEVEL}
use Rattle.life_base.specs.Tree.{quad}
use Rattle.life_base.specs.declared.kind.Kind.{Kind}
use Rattle.life_quad.proofs.GrowsLemmas.{grows-as, only-grows}
use Rattle.life_strip.specs.Middle.{IsAboutMiddle}
use Rattle.life_strip.specs.Picture.{picture}
use Rattle.life_strip.specs.Strip.{id_at, id_or, square_at}
use Rattle.life_strip.proofs.MiddleLemmas.{about-middle, middle-half, middle-some}
use Rattle.life_strip.proofs.SpanLemmas.{content_or}
use Rattle.life_strip.proofs.middle.join_middle.Given.{Over}
use Rattle.life_strip.proofs.middle.join_middle.Goals as goal

-- what holds of a refusal by two facts
both-err : {T P Q R : Type 0} (r : Result T Kind) → OnErr r P → OnErr r Q → (P → Q → R) → OnErr r R
both-err (Ok x) p q f = tt
both-err (Err e) p q f = f p q

ok-by : {T : Type 0} {P Q : T → Type 0} (r : Result T Kind) → IfOk r P → ((x : T) → P x → Q x) → IfOk r Q
ok-by (Ok x) p f = f x p
ok-by (Err e) p f = tt

-- the square of the four Ids
joined : (g : Over) (c : goal.After-join g) → IsAboutMiddle c.args.strip.now.level (picture (g.S.Squares.content c.args.squares.now) (c.args.strip.now ∷ []))
    (quad (g.S.Squares.content c.args.squares.now c.empty-blank.result) (g.S.Squares.content c.args.squares.now c.empty-blank.result)
    (g.S.Squares.content c.args.squares.now c.square_in_column-sw.result) (g.S.Squares.content c.args.squares.now c.square_in_column-se.result))
joined g c =
    let s = c.args.strip.now in
    let store = c.args.squares.now in
    let K = g.S.Squares.knows store in
    let C = g.S.Squares.content store in
    let e = c.empty-blank.ensures in
    let b = c.empty-blank.result in
    let high = c.requires.high in
    let middle = 2 ^ (MAX_LEVEL - 1 - s.level) in
    let or = content_or K C s.level s.spans.items c.requires.sound.squares b e.known e.square in
    let sw : C c.square_in_column-sw.result ≡ square_at C s.level s.spans.items (middle - 1) =
    ap C c.square_in_column-sw.ensures ∙ (λ k. C (id_or b (id_at (c.as_slice-spans.ensures.value k) (c.middle_column-middle.ensures k - 1))))
    ∙ or (middle - 1) in
    let se : C c.square_in_column-se.result ≡ square_at C s.level s.spans.items middle =
    ap C c.square_in_column-se.ensures ∙ (λ k. C (id_or b (id_at (c.as_slice-spans.ensures.value k) (c.middle_column-middle.ensures k)))) ∙ or middle in
    about-middle C s middle (middle-half s.level high) K (g.met.S.Squares.full store) c.requires.sound (middle-some s.level) _
    (λ i. quad (e.square i) (e.square i) (sw i) (se i))

pub returns-clause-square : goal.returns-clause-square
returns-clause-square g c =
    let s = c.args.strip.now in
    let C = g.S.Squares.content c.args.squares.now in
    ok-by c.join.result c.join.ensures.square (λ id is. subst (IsAboutMiddle s.level (picture C (s ∷ []))) (sym is) (joined g c))

pub returns-clause-grows : goal.returns-clause-grows
returns-clause-grows g c =
    let store = c.args.squares.now in
    let C = g.S.Squares.content store in
    let N = g.S.Squares.needs_node in
    let join = c.join.ensures in
    let t = quad (C c.empty-blank.result) (C c.empty-blank.result) (C c.square_in_column-sw.result) (C c.square_in_column-se.result) in
    grows-as _ (only-grows {N = λ P. P t} (record {
      keeps = join.keeps;
      refusals = join.refusals;
      needed = both-err c.join.result join.needed join.unchanged (λ n u. subst (λ s. N s t) (sym u) n);
      adds = join.adds;
    })) (λ P p. (t, joined g c, p))
