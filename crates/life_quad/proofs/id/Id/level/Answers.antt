use Rattle.std.proofs.Common.{◌≡◌, arith, sym, ◌∙◌, ap, get_or, ◌-◌, ◌+◌, suc, nat_lt, true, false, if◌then◌else◌}
use Rattle.life_base.proofs.Squares.{depth-blank}
use Rattle.life_base.specs.Tree.{depth}
use Rattle.life_quad.proofs.CallLemmas.{state_content, blank_content, small_level, node_level}
use Rattle.life_quad.proofs.id.Id.level.Goals as goal

pub returns-then-self-lt-CELLS : goal.returns-then-self-lt-CELLS
returns-then-self-lt-CELLS c = λ s e k. sym (ap depth (state_content s _ k c.if-self-lt-CELLS.true))

pub returns-then-self-lt-FIRST_SMALL : goal.returns-then-self-lt-FIRST_SMALL
returns-then-self-lt-FIRST_SMALL c = λ s e k.
    let l = c.if-self-lt-CELLS.false in
    let one : c.args.self.0 - 256 + 1 ≡ suc (c.args.self.0 - 256) = omega arith in
    one ∙ sym (ap depth (blank_content s _ k l c.if-self-lt-FIRST_SMALL.true) ∙ depth-blank _)

pub returns-then-self-lt-LEVEL_TWO : goal.returns-then-self-lt-LEVEL_TWO
returns-then-self-lt-LEVEL_TWO c = λ s e k.
    let l = c.if-self-lt-LEVEL_TWO.true in
    let low : nat_lt c.args.self.0 528 ≡ true = grind arith in
    sym (small_level s c.args.self k c.if-self-lt-FIRST_SMALL.false (omega arith) ∙ ap (λ b. if b then 1 else 2) low)

pub returns-then-self-lt-FIRST_NODE : goal.returns-then-self-lt-FIRST_NODE
returns-then-self-lt-FIRST_NODE c = λ s e k.
    let l = c.if-self-lt-LEVEL_TWO.false in
    let high : nat_lt c.args.self.0 528 ≡ false = grind arith in
    sym (small_level s c.args.self k c.if-self-lt-FIRST_SMALL.false c.if-self-lt-FIRST_NODE.true ∙ ap (λ b. if b then 1 else 2) high)

pub returns-in-Some : goal.returns-in-Some
returns-in-Some c = λ s e k.
    node_level s c.args.self c.in-Some.level.now _ k c.if-self-lt-FIRST_NODE.false
    (c.in-Some.ensures.lookup.1 ∙ ap (λ v. get_or v (c.args.self.0 - 66064) c.in-Some.level.now) e)
