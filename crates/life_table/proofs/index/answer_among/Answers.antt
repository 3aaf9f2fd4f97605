use Rattle.std.proofs.Common.{◌≡◌, ℕ, ◌+◌, ◌<◌, length, take, refl, ◌∙◌, subst, arith, All}
use Rattle.std.proofs.lemmas.List.Elements.{All-more}
use Rattle.std.proofs.lemmas.Nat.Bits.{shr_and_one}
use Rattle.life_table.specs.Meaning.{Becomes, Ambiguous, GivesNothing}
use Rattle.life_table.specs.Site.{centre_of, others_of}
use Rattle.life_table.proofs.Answering.{answer_here, silent_more}
use Rattle.life_table.proofs.Indexing.{silent_rest, ends_together}
use Rattle.life_table.proofs.index.answer_among.Goals as goal
use Rattle.life_table.proofs.index.answer_among.Goals.{then-may-k-eq1+in-Nothing, else-may-k-eq1}

pub loop-k-init : goal.loop-k-init
loop-k-init c =
    let e : c.args.from ≡ c.args.from + 0 = omega arith in
    subst (λ (n : ℕ). All (GivesNothing c.args.symmetry c.args.site.now.vars.now (centre_of c.args.site.now) (others_of c.args.site.now))
    (take n c.args.lines.now)) e c.requires.silent

pub returns-then-may-k-eq0 : goal.returns-then-may-k-eq0
returns-then-may-k-eq0 c =
    silent_rest c.args.symmetry c.args.site.now.vars.now (centre_of c.args.site.now) (others_of c.args.site.now) c.args.lines.now c.args.from c.args.may
    c.requires.may c.loop-k.k (c.args.from + 64) (omega (arith, c.loop-k-test.true, c.min-k-end.ensures)) c.if-may-k-eq0.true (omega arith)
    c.loop-k.invariant

pub returns-in-One : goal.returns-in-One
returns-in-One c =
    answer_here c.args.symmetry c.args.site.now.vars.now _ c.args.site.now.cells.now _ refl refl c.args.lines.now _ refl (c.args.from + c.loop-k.k)
    c.index-lines-from.result (omega (arith, c.loop-k-test.true, c.min-k-end.ensures)) c.index-lines-from.is c.loop-k.invariant
    (Becomes c.in-One.state) c.in-One.ensures

pub returns-in-Two : goal.returns-in-Two
returns-in-Two c =
    let h = c.in-Two.ensures in (
      refl,
      answer_here c.args.symmetry c.args.site.now.vars.now _ c.args.site.now.cells.now _ refl refl c.args.lines.now _ refl (c.args.from + c.loop-k.k)
          c.index-lines-from.result (omega (arith, c.loop-k-test.true, c.min-k-end.ensures)) c.index-lines-from.is c.loop-k.invariant
          (Ambiguous c.index-lines-from.result.line) (refl, h.0, h.1, h.2, h.3, h.4),
    )

pub loop-k-preserved : goal.loop-k-preserved
loop-k-preserved c =
    let vars = c.args.site.now.vars.now in
    let cells = c.args.site.now.cells.now in
    let lines = c.args.lines.now in
    let k = c.loop-k.k in
    let Silent = GivesNothing c.args.symmetry vars (centre_of c.args.site.now) (others_of c.args.site.now) in
    let space : k < 64 = omega (arith, c.loop-k-test.true, c.min-k-end.ensures) in
    let inside : c.args.from + k < length lines = omega (arith, c.loop-k-test.true, c.min-k-end.ensures) in
    let e : c.args.from + k + 1 ≡ c.args.from + (k + 1) = omega arith in
    subst (λ (n : ℕ). All Silent (take n lines)) e
    (elim c.if-may-k-eq1.branch [
      | then-may-k-eq1+in-Nothing w ↦
          silent_more c.args.symmetry vars vars cells cells refl refl lines (c.args.from + k) w.index-lines-from.result inside w.index-lines-from.is
          c.loop-k.invariant w.in-Nothing.ensures
      | else-may-k-eq1 w ↦ λ i d below.
          All-more Silent lines (c.args.from + k) d inside c.loop-k.invariant
          (λ s g. w.if-may-k-eq1.false (shr_and_one c.args.may k ∙ c.requires.may k d space inside s g)) i d below
    ])

pub returns : goal.returns
returns c =
    let k_is : c.loop-k.k ≡ c.min-k-end.result = omega (arith, c.loop-k-test.false, c.loop-k.auto.k-end) in
    subst (All (GivesNothing c.args.symmetry c.args.site.now.vars.now (centre_of c.args.site.now) (others_of c.args.site.now)))
    (ends_together c.args.lines.now c.args.from c.loop-k.k c.requires.from (k_is ∙ c.min-k-end.ensures)) c.loop-k.invariant
