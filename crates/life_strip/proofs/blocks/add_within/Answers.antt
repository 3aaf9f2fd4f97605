use Rattle.std.proofs.Common.{◌≡◌, ◌+◌, ◌-◌, ◌/◌, ◌<◌, ◌∷◌, [], ◌++◌, length, get_or, set, arith, refl, sym, ◌∙◌, ap, subst, rules}
use Rattle.std.proofs.lemmas.Bool.{false≢true}
use Rattle.std.proofs.lemmas.List.{get_or_default, set-get_or}
use Rattle.life_strip.specs.declared.blocks.Block.{Block}
use Rattle.life_strip.specs.Blocks.{AddsCells}
use Rattle.life_strip.proofs.BlockLemmas.{adds-fits, adds-more, adds-new}
use Rattle.life_strip.proofs.blocks.add_within.Goals as goal
use Rattle.life_strip.proofs.blocks.add_within.Goals.{in-Some+else-last-block, in_default}

pub overflow_add-last : goal.overflow_add-last
overflow_add-last c =
    let blocks = c.args.blocks.now in
    let some = c.in-Some.ensures.variant.0 refl in
    let r = c.requires in
    let fits = adds-fits blocks.items c.args.start c.args.end r.blocks r.before r.some r.one r.within (blocks.len - 1) c.in-Some.last.now
    (omega (arith, blocks.ok, some)) c.in-Some.ensures.value c.if-last-block.true (search rules) in
    omega (arith, fits, c.bits_of_columns-cells.ensures)

pub returns-then-last-block-clause-adds : goal.returns-then-last-block-clause-adds
returns-then-last-block-clause-adds c =
    let blocks = c.args.blocks.now in
    let some = c.in-Some.ensures.variant.0 refl in
    let r = c.requires in
    let last = c.in-Some.last.now in
    adds-more blocks.items c.args.start c.args.end r.blocks r.before r.some r.one r.within (blocks.len - 1) last
    (omega (arith, blocks.ok, some)) c.in-Some.ensures.value c.if-last-block.true
    (record { start = last.start; end = last.end; cells = last.cells + c.bits_of_columns-cells.result }) refl refl
    (ap (λ z. last.cells + z) c.bits_of_columns-cells.ensures)

pub returns-clause-adds : goal.returns-clause-adds
returns-clause-adds c =
    let vec = c.args.blocks.now in
    let blocks = vec.items in
    let r = c.requires in
    let new : Block = record { start = c.args.start / 64; end = c.args.start / 64 + 1; cells = c.bits_of_columns-cells.result } in
    let kept : c.match-last_mut.blocks.items ≡ blocks =
    elim c.match-last_mut.branch [
      | in-Some+else-last-block w ↦ ap (λ s. s.items) w.blocks-is ∙ ap (set blocks (vec.len - 1)) w.in-Some.ensures.value
          ∙ set-get_or blocks (vec.len - 1) w.in-Some.last.now
      | in_default w ↦ ap (λ s. s.items) w.blocks-is
    ] in
    let other : (d : Block) → 0 < length blocks → ¬ ((get_or blocks (length blocks - 1) d).start ≡ c.args.start / 64) = λ d some there.
    elim c.match-last_mut.branch [
      | in-Some+else-last-block w ↦
          (let place : length blocks - 1 ≡ vec.len - 1 = omega (arith, vec.ok) in
          let last = w.in-Some.last.now in
          let same : get_or blocks (length blocks - 1) d ≡ last = ap (λ k. get_or blocks k d) place
          ∙ get_or_default blocks (vec.len - 1) d last (omega (arith, vec.ok, some)) ∙ sym w.in-Some.ensures.value in
          w.if-last-block.false (ap (λ b. b.start) (sym same) ∙ there))
      | in_default w ↦ false≢true (w.in_default.ensures.variant.1 (omega (arith, vec.ok, some)))
    ] in
    subst (λ z. AddsCells blocks z c.args.start c.args.end) (sym (c.in_ok-push.ensures.items ∙ ap (λ z. z ++ new ∷ []) kept))
    (adds-new blocks c.args.start c.args.end r.blocks r.before r.some r.one r.within new refl (omega arith) c.bits_of_columns-cells.ensures other)
