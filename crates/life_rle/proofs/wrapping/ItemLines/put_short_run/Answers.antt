use Rattle.std.proofs.Common.{◌≡◌, ℕ, zero, suc, ◌+◌, ◌≤◌, ◌∷◌, [], refl, sym, subst, arith}
use Rattle.life_base.specs.declared.rule.Rule.{Rule}
use Rattle.life_rle.specs.declared.item.Item.TheVariants.{Cells}
use Rattle.life_rle.specs.declared.wrapping.ItemLines.{ItemLines}
use Rattle.life_rle.specs.Written.{with_gap}
use Rattle.life_rle.specs.Writer.{PutsItems}
use Rattle.life_rle.proofs.PutItems.{Puts-short, Puts-then, on-ok-both}
use Rattle.life_rle.proofs.wrapping.ItemLines.put_short_run.Goals as goal

-- some dead cells are one item
some-gap : (rule : Rule) (old new : ItemLines) (gap : ℕ) → (gap ≡ 0 → ⊥) → PutsItems rule old (Cells gap 0 ∷ []) new → PutsItems rule old (with_gap gap []) new
some-gap rule old new zero some p = absurd (some refl)
some-gap rule old new (suc n) some p = p

-- and none are no item
no-gap : (rule : Rule) (count state : ℕ) (old new : ItemLines) (gap : ℕ) → gap ≡ 0 → PutsItems rule old (Cells count state ∷ []) new
    → PutsItems rule old (Cells count state ∷ with_gap gap []) new
no-gap rule count state old new gap none p = subst (λ n. PutsItems rule old (Cells count state ∷ with_gap n []) new) (sym none) p

pub returns-then-gap-eq0-clause-run : goal.returns-then-gap-eq0-clause-run
returns-then-gap-eq0-clause-run c = λ state letter.
    no-gap c.args.rule.now c.args.count state c.args.self.now c.put_short.new.self c.args.gap c.if-gap-eq0.true
    (Puts-short c.args.rule.now (Cells c.args.count state) c.args.self.now c.put_short.new.self c.args.count c.args.letter refl letter c.requires.digit
    (omega (arith, c.requires.space)) c.in_ok-put_short.ensures.used c.in_ok-put_short.ensures.text)

pub returns-clause-run : goal.returns-clause-run
returns-clause-run c = λ state letter.
    let rule = c.args.rule.now in
    let old = c.args.self.now in
    let middle = c.put_short.new.self in
    let new = c.put_short-2.new.self in
    let count = c.args.count in
    let gap = c.args.gap in
    let r = c.requires in
    let first = Puts-short rule (Cells count state) old middle count c.args.letter refl letter r.digit (omega (arith, r.space))
    c.in_ok-put_short.ensures.used c.in_ok-put_short.ensures.text in
    let space : middle.used + 2 ≤ 70 = omega (arith, r.space, c.in_ok-put_short.ensures.most) in
    on-ok-both c.put_short-2.result
    (λ used text. Puts-then rule (Cells count state ∷ []) (with_gap gap []) old middle new first
    (some-gap rule middle new gap c.if-gap-eq0.false
    (Puts-short rule (Cells gap 0) middle new gap c.dead_letter.result refl c.dead_letter.ensures r.gap_digit space used text)))
    c.put_short-2.ensures.used c.put_short-2.ensures.text
