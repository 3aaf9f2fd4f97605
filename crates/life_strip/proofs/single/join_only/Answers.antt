use Rattle.std.proofs.Common.{◌≡◌, ℕ, ◌+◌, ◌*◌, List, Result, Ok, Err, OnErr, ◌∙◌, ap, subst, sym}
use Rattle.life_base.specs.Tree.{Tree, quad, blank}
use Rattle.life_base.specs.declared.kind.Kind.{Kind}
use Rattle.life_quad.specs.declared.id.Id.{Id}
use Rattle.life_quad.proofs.KeepingLemmas.{adds-as}
use Rattle.life_strip.specs.declared.spans.Span.{Span}
use Rattle.life_strip.specs.Strip.{IsStrip, id_at, id_or, quad_at}
use Rattle.life_strip.proofs.SpanLemmas.{content_or}
use Rattle.life_strip.proofs.single.join_only.Goals as goal

-- the Ids of four columns are those of the quarters
four_columns : (K : Id → Type 0) (C : Id → Tree) (level column : ℕ) (upper lower : List Span) (empty a b c d : Id) → IsStrip K C level upper
    → IsStrip K C level lower
    → K empty → C empty ≡ blank level → a ≡ id_or empty (id_at upper (2 * column)) → b ≡ id_or empty (id_at upper (2 * column + 1))
    → c ≡ id_or empty (id_at lower (2 * column)) → d ≡ id_or empty (id_at lower (2 * column + 1))
    → quad (C a) (C b) (C c) (C d) ≡ quad_at C level upper lower column
four_columns K C level column upper lower empty a b c d u l known is_blank nw ne sw se =
    let p = ap C nw ∙ content_or K C level upper u empty known is_blank (2 * column) in
    let q = ap C ne ∙ content_or K C level upper u empty known is_blank (2 * column + 1) in
    let r = ap C sw ∙ content_or K C level lower l empty known is_blank (2 * column) in
    let t = ap C se ∙ content_or K C level lower l empty known is_blank (2 * column + 1) in
    λ i. quad (p i) (q i) (r i) (t i)

-- what holds of a refusal by two facts
both-err : {T P Q R : Type 0} (r : Result T Kind) → OnErr r P → OnErr r Q → (P → Q → R) → OnErr r R
both-err (Ok x) p q f = tt
both-err (Err e) p q f = f p q

pub returns-clause-grows : goal.returns-clause-grows
returns-clause-grows g c =
    let store = c.args.squares.now in
    let C = g.S.Squares.content store in
    let N = g.S.Squares.needs_node in
    let r = c.requires in
    let e = c.empty-blank.ensures in
    let join = c.join.ensures in
    let t = quad_at C c.args.level c.args.upper.now c.args.lower.now c.args.column in
    let same = four_columns (g.S.Squares.knows store) C c.args.level c.args.column c.args.upper.now c.args.lower.now c.empty-blank.result _ _ _ _ r.upper
    r.lower e.known e.square c.square_in_only-nw.ensures c.square_in_only-ne.ensures c.square_in_only-sw.ensures c.square_in_only-se.ensures in
    record {
      keeps = join.keeps;
      refusals = join.refusals;
      needed = both-err c.join.result join.needed join.unchanged (λ n u. subst (λ s. N s t) (sym u) (subst (N store) same n));
      adds = adds-as (λ P. P t) join.adds (λ P h. subst P same h);
    }
