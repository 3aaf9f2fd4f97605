use Rattle.std.proofs.Common.{◌≡◌, ℕ, ◌+◌, ◌*◌, ◌≤◌, [], length, take, get_or, sym, ◌∙◌, subst, arith, All, take_all}
use Rattle.std.specs.Int.{bit_at}
use Rattle.std.proofs.lemmas.Nat.Bits.{bit_at_ones}
use Rattle.life_table.specs.Meaning.{GivesNothing}
use Rattle.life_table.specs.Site.{centre_of, others_of}
use Rattle.life_table.proofs.Indexing.{may_give_of}
use Rattle.life_table.specs.declared.block.Block.{Block}
use Rattle.life_table.proofs.index.answer_by_blocks.Goals as goal
use Rattle.life_table.proofs.index.answer_by_blocks.Goals.{then-b-blocks, else-b-blocks}

pub answer_among-requires-clause-may : goal.answer_among-requires-clause-may
answer_among-requires-clause-may c = λ k d space inside s g.
    let b = c.loop-b.b in
    let site = c.args.site.now in
    let lines = c.args.lines.now in
    elim c.if-b-blocks.branch [
      | then-b-blocks w ↦ subst (λ n. bit_at n k ≡ 1) (sym w.may-is)
          (let empty : Block = record { sets = []; apart = []; twice = [] } in
          may_give_of c.args.symmetry site.vars.now (get_or lines (64 * b + k) d) (centre_of site) (others_of site) (get_or c.args.blocks.now b empty) k
          w.of_block-may.result (c.requires.blocks b empty w.if-b-blocks.true k d space inside) (c.requires.lines (64 * b + k) d inside).inputs
          (λ v h fit. w.of_block-may.ensures k v space (c.query_of-query.ensures.asks v h) fit) s g)
      | else-b-blocks w ↦ subst (λ n. bit_at n k ≡ 1) (sym w.may-is) (bit_at_ones 64 k space)
    ]

pub loop-b-preserved : goal.loop-b-preserved
loop-b-preserved c =
    let e : 64 * c.loop-b.b + 64 ≡ 64 * (c.loop-b.b + 1) = omega arith in
    subst (λ (n : ℕ). All (GivesNothing c.args.symmetry c.args.site.now.vars.now (centre_of c.args.site.now) (others_of c.args.site.now))
    (take n c.args.lines.now)) e c.in_default.ensures

pub returns : goal.returns
returns c =
    let lines = c.args.lines.now in
    let past : length lines ≤ 64 * c.loop-b.b = omega (arith, c.loop-b-test.false) in
    subst (All (GivesNothing c.args.symmetry c.args.site.now.vars.now (centre_of c.args.site.now) (others_of c.args.site.now)))
    (take_all (64 * c.loop-b.b) lines past ∙ sym (take_all (length lines) lines (omega arith))) c.loop-b.invariant
