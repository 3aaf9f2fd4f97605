use Rattle.std.proofs.Common.{◌≡◌, arith, sym, ◌∙◌, ap, subst, true≢false, ◌+◌, suc}
use Rattle.life_quad.specs.Store.{squares, content, node_square, small_number_of, IsNode, AnswersJoin}
use Rattle.life_quad.specs.StoreLaws.{small_node}
use Rattle.life_quad.proofs.SmallLemmas.{small_range}
use Rattle.life_base.specs.Tree.{depth, blank}
use Rattle.life_quad.proofs.CallLemmas.{node_of, is_blank-joined, blank_joined, IsNode-joined, IsSmall-joined, join_answers}
use Rattle.life_quad.proofs.shared.SharedSquaresImpl.join.Goals as goal

-- ---- four blank squares

pub returns-then-are_blank-clause-square : goal.returns-then-are_blank-clause-square
returns-then-are_blank-clause-square c =
    let r = c.requires in
    let l : c.level.result + 1 ≡ suc (depth (content c.args.self.now c.args.nw)) = let e = c.level.ensures.level in omega arith in
    c.empty.ensures.square ∙ ap blank l
    ∙ sym (blank_joined _ _ _ _ _ r.nw.0 r.ne.0 r.sw.0 r.se.0 r.ne_level r.sw_level r.se_level (sym c.are_blank.ensures ∙ c.if-are_blank.true))

pub returns-then-are_blank-clause-added : goal.returns-then-are_blank-clause-added
returns-then-are_blank-clause-added c = λ needs.
    let r = c.requires in
    absurd (true≢false (sym (is_blank-joined _ _ _ _ _ r.nw.0 r.ne.0 r.sw.0 r.se.0 r.ne_level r.sw_level r.se_level ∙ sym c.are_blank.ensures
    ∙ c.if-are_blank.true) ∙ needs.0))

pub returns-then-are_blank-clause-full : goal.returns-then-are_blank-clause-full
returns-then-are_blank-clause-full c =
    let r = c.requires in (
      λ e. absurd (cc),
      λ needs.
          absurd (true≢false (sym (is_blank-joined _ _ _ _ _ r.nw.0 r.ne.0 r.sw.0 r.se.0 r.ne_level r.sw_level r.se_level ∙ sym c.are_blank.ensures
          ∙ c.if-are_blank.true) ∙ needs.0.0)),
    )

pub returns-then-are_blank-clause-fresh : goal.returns-then-are_blank-clause-fresh
returns-then-are_blank-clause-fresh c = λ needs known.
    let r = c.requires in
    absurd (true≢false (sym (is_blank-joined _ _ _ _ _ r.nw.0 r.ne.0 r.sw.0 r.se.0 r.ne_level r.sw_level r.se_level ∙ sym c.are_blank.ensures
    ∙ c.if-are_blank.true) ∙ needs.0))

-- ---- a small square

pub mark-requires : goal.mark-requires
mark-requires c =
    let r = c.requires in
    let s = c.args.self.now in
    let node = IsNode-joined _ _ _ _ _ r.nw.0 r.ne.0 r.sw.0 r.se.0 r.ne_level r.sw_level r.se_level r.space (sym c.are_blank.ensures ∙ c.if-are_blank.false) in
    let number = sym c.small_number.ensures ∙ c.in-Some.is in
    let range = small_range c.args.nw.0 c.args.ne.0 c.args.sw.0 c.args.se.0 c.in-Some.number number in
    record { small = IsSmall-joined s _ c.in-Some.number number node; first = range.0; last = range.1 }

pub returns-in-Some : goal.returns-in-Some
returns-in-Some c =
    let r = c.requires in
    let s = c.args.self.now in
    let node = node_of c.args.nw c.args.ne c.args.sw c.args.se in
    let not_blank = is_blank-joined _ _ _ _ _ r.nw.0 r.ne.0 r.sw.0 r.se.0 r.ne_level r.sw_level r.se_level ∙ sym c.are_blank.ensures ∙ c.if-are_blank.false in
    let answers = subst (λ t. AnswersJoin s c.mark.new.self t c.mark.result)
    (small_node (squares s.nodes) node c.in-Some.number (sym c.small_number.ensures ∙ c.in-Some.is)) c.mark.ensures in
    join_answers s c.mark.new.self (node_square (squares s.nodes) node) (omega arith) not_blank c.mark.result answers

-- ---- a node

pub intern-requires : goal.intern-requires
intern-requires c =
    let r = c.requires in
    record {
      sound = subst (IsNode _ _ _) (sym c.of.ensures)
          (IsNode-joined _ _ _ _ _ r.nw.0 r.ne.0 r.sw.0 r.se.0 r.ne_level r.sw_level r.se_level r.space (sym c.are_blank.ensures ∙ c.if-are_blank.false));
      large = ap small_number_of c.of.ensures ∙ sym c.small_number.ensures ∙ c.in_default.is;
      level = let e = c.level-level.ensures.level in let d = ap (λ n. depth (node_square (squares c.args.self.now.nodes) n)) c.of.ensures in omega arith;
    }

pub returns : goal.returns
returns c =
    let r = c.requires in
    let s = c.args.self.now in
    let not_blank = is_blank-joined _ _ _ _ _ r.nw.0 r.ne.0 r.sw.0 r.se.0 r.ne_level r.sw_level r.se_level ∙ sym c.are_blank.ensures ∙ c.if-are_blank.false in
    join_answers s c.intern.new.self (node_square (squares s.nodes) (node_of c.args.nw c.args.ne c.args.sw c.args.se)) (omega arith) not_blank
    c.intern.result (subst (λ n. AnswersJoin s c.intern.new.self (node_square (squares s.nodes) n) c.intern.result) c.of.ensures c.intern.ensures)
