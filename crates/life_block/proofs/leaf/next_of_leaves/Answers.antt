use Rattle.std.proofs.Common.{◌≡◌, ℤ, ℕ, sym, ◌∙◌, subst}
use Rattle.std.proofs.lemmas.Result.{IfOk-weaker, on_err_weaker}
use Rattle.life_quad.specs.Refused.{SomePart}
use Rattle.life_quad.proofs.KeepingLemmas.{adds-as}
use Rattle.life_next.specs.Generation.{next_life}
use Rattle.life_block.specs.Bits.{AreSixteenRows, square_of_leaves}
use Rattle.life_pieces.specs.Pieces.{square_from, IsBinary, AreSixteen}
use Rattle.life_pieces.proofs.NeedLemmas.{is-piece}
use Rattle.life_block.proofs.leaf.next_of_leaves.Given.{Over}
use Rattle.life_block.proofs.leaf.next_of_leaves.Goals as goal

-- the cells that are made are the next states
next : (g : Over) (c : goal.After-square_of_leaves g) (cells : ℤ → ℤ → ℕ) (x y : ℤ) → IsBinary cells
    → AreSixteen (g.S.Squares.content c.args.squares.now) cells 8 x y c.args.sixteen.now
    → square_of_leaves c.next_leaves.result ≡ square_from (next_life c.args.rule.now cells) 4 x y
next g c cells x y binary h =
    c.next_leaves.ensures cells x y (subst (AreSixteenRows cells x y) (sym c.of-rows.ensures) (record {
      first = c.rows_of_four.ensures cells x _ binary h.first;
      second = c.rows_of_four-2.ensures cells x _ binary h.second;
      third = c.rows_of_four-3.ensures cells x _ binary h.third;
      fourth = c.rows_of_four-4.ensures cells x _ binary h.fourth;
    }))

pub returns-clause-next : goal.returns-clause-next
returns-clause-next g c =
    IfOk-weaker c.square_of_leaves.result _ _ (λ r e cells x y binary h. is-piece _ _ x y _ (e ∙ next g c cells x y binary h)) c.square_of_leaves.ensures.square

pub returns-clause-needed : goal.returns-clause-needed
returns-clause-needed g c =
    let N = g.S.Squares.needs_node c.square_of_leaves.new.squares in
    on_err_weaker c.square_of_leaves.result (λ some cells x y binary h. subst (SomePart N) (next g c cells x y binary h) some)
    c.square_of_leaves.ensures.needed

pub returns-clause-adds : goal.returns-clause-adds
returns-clause-adds g c =
    adds-as _ c.square_of_leaves.ensures.adds (λ P some cells x y binary h. subst (SomePart P) (next g c cells x y binary h) some)
