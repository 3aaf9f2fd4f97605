use Rattle.std.proofs.Common.{◌≡◌, arith, sym, ◌∙◌, ap, subst, OnOk, true≢false, ◌+◌, suc, length}
use Rattle.std.proofs.lemmas.Result.{on_err_weaker, on_ok_weaker}
use Rattle.life_base.proofs.Results.{if_ok_both}
use Rattle.life_quad.specs.Store.{squares, square_of, node_square, IsNode}
use Rattle.life_quad.proofs.StoreLemmas.{length-squares, squares-push}
use Rattle.life_base.specs.Tree.{depth, blank}
use Rattle.life_quad.proofs.KeepingLemmas.{adds-one}
use Rattle.life_quad.proofs.GrowLemmas.{with_node}
use Rattle.life_quad.proofs.CallLemmas.{node_of, is_blank-joined, blank_joined, IsNode-joined, keeps_added, knows_last, square_of-added, IsWantKind-left, space_left}
use Rattle.life_quad.proofs.plain.PlainSquares.join.Goals as goal

pub returns-then-are_blank-clause-square : goal.returns-then-are_blank-clause-square
returns-then-are_blank-clause-square c =
    let r = c.requires in
    let l : c.level-level.result + 1 ≡ suc (depth (square_of (squares c.args.self.now.nodes) c.args.nw)) = let e = c.level-level.ensures.level in omega arith in
    c.empty.ensures.square ∙ ap blank l
    ∙ sym (blank_joined _ _ _ _ _ r.nw r.ne r.sw r.se r.ne_level r.sw_level r.se_level (sym c.are_blank.ensures ∙ c.if-are_blank.true))

pub returns-then-are_blank-clause-added : goal.returns-then-are_blank-clause-added
returns-then-are_blank-clause-added c = λ needs.
    let r = c.requires in
    absurd (true≢false (sym (is_blank-joined _ _ _ _ _ r.nw r.ne r.sw r.se r.ne_level r.sw_level r.se_level ∙ sym c.are_blank.ensures ∙ c.if-are_blank.true)
    ∙ needs))

pub returns-then-are_blank-clause-full : goal.returns-then-are_blank-clause-full
returns-then-are_blank-clause-full c =
    let r = c.requires in (
      λ e. absurd (cc),
      λ needs.
          absurd (true≢false (sym (is_blank-joined _ _ _ _ _ r.nw r.ne r.sw r.se r.ne_level r.sw_level r.se_level ∙ sym c.are_blank.ensures
          ∙ c.if-are_blank.true) ∙ needs.0)),
    )

IsNode-there : (c : goal.After-add) → IsNode c.args.self.now.log (squares c.args.self.now.nodes) (length c.args.self.now.nodes)
    (node_of c.args.nw c.args.ne c.args.sw c.args.se)
IsNode-there c =
    let r = c.requires in
    IsNode-joined _ _ _ _ _ r.nw r.ne r.sw r.se r.ne_level r.sw_level r.se_level r.space (sym c.are_blank.ensures ∙ c.if-are_blank.false)

stored : (c : goal.After-add) → OnOk c.add.result (c.add.new.self ≡ with_node c.args.self.now (node_of c.args.nw c.args.ne c.args.sw c.args.se))
stored c = subst (λ n. OnOk c.add.result (c.add.new.self ≡ with_node c.args.self.now n)) c.of.ensures c.add.ensures.stored

pub add-requires : goal.add-requires
add-requires c = record {
  node = let r = c.requires in
      subst (IsNode _ _ _) (sym c.of.ensures)
      (IsNode-joined _ _ _ _ _ r.nw r.ne r.sw r.se r.ne_level r.sw_level r.se_level r.space (sym c.are_blank.ensures ∙ c.if-are_blank.false));
  level = let e = c.level-level.ensures.level in let d = ap (λ n. depth (node_square (squares c.args.self.now.nodes) n)) c.of.ensures in omega arith;
}

pub returns-clause-known : goal.returns-clause-known
returns-clause-known c = if_ok_both c.add.result (λ id i at. knows_last _ _ _ i c.add.ensures.sound id at) c.add.ensures.stored c.add.ensures.id

pub returns-clause-square : goal.returns-clause-square
returns-clause-square c =
    if_ok_both c.add.result (λ id i at. square_of-added _ _ _ (IsNode-there c) i c.add.ensures.sound id at) (stored c) c.add.ensures.id

pub returns-clause-keeps : goal.returns-clause-keeps
returns-clause-keeps c = keeps_added c.add.result _ _ _ c.add.ensures.stored c.add.ensures.unchanged c.add.ensures.sound c.add.ensures.limit

pub returns-clause-added : goal.returns-clause-added
returns-clause-added c = on_ok_weaker c.add.result (λ i needs. ap (λ s. squares s.nodes) i ∙ squares-push _ _) (stored c)

pub returns-clause-there : goal.returns-clause-there
returns-clause-there c = on_ok_weaker c.add.result (λ i unneeded. absurd (unneeded (IsNode-there c).not_blank)) c.add.ensures.stored

pub returns-clause-full : goal.returns-clause-full
returns-clause-full c =
    let full = c.add.ensures.full in
    (λ e. ((IsNode-there c).not_blank, length-squares _ ∙ full.0 e), λ needs. full.1 (sym (length-squares _) ∙ needs.1))

pub returns-clause-refusals : goal.returns-clause-refusals
returns-clause-refusals c = IsWantKind-left c.add.result _ _ c.add.ensures.refusals c.add.ensures.full c.add.ensures.unchanged

pub returns-clause-space : goal.returns-clause-space
returns-clause-space c =
    let full = c.add.ensures.full in
    space_left c.add.result _ _ c.add.ensures.within full c.add.ensures.unchanged

pub returns-clause-needed : goal.returns-clause-needed
returns-clause-needed c = on_err_weaker c.add.result (λ same. (IsNode-there c).not_blank) c.add.ensures.unchanged

pub returns-clause-fresh : goal.returns-clause-fresh
returns-clause-fresh c = if_ok_both c.add.result (λ id i last needs known. let b = known.named.below in
    let e : id.0 ≡ 66064 + length c.args.self.now.nodes = last in absurd (omega arith)) c.add.ensures.stored c.add.ensures.id

pub returns-then-are_blank-clause-fresh : goal.returns-then-are_blank-clause-fresh
returns-then-are_blank-clause-fresh c = λ needs known.
    let r = c.requires in
    absurd (true≢false (sym (is_blank-joined _ _ _ _ _ r.nw r.ne r.sw r.se r.ne_level r.sw_level r.se_level ∙ sym c.are_blank.ensures ∙ c.if-are_blank.true)
    ∙ needs))

pub returns-clause-adds : goal.returns-clause-adds
returns-clause-adds c =
    adds-one c.add.result (on_ok_weaker c.add.result (λ i. ap (λ s. squares s.nodes) i ∙ squares-push _ _) (stored c)) c.add.ensures.unchanged
