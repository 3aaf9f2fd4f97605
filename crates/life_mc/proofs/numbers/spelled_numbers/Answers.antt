use Rattle.std.proofs.Common.{◌≡◌, ◌∙◌, true, sym}
use Rattle.life_base.specs.Text.{words_of, is_empty}
use Rattle.life_mc.proofs.Words.{four_in_prefix, five_in_prefix, quad_short, quad_long, quad_whole}
use Rattle.life_mc.proofs.numbers.spelled_numbers.Goals as goal

pub returns-in_err-se : goal.returns-in_err-se
returns-in_err-se c =
    let words = four_in_prefix c.in_ok-level.ensures.1 c.in_ok-nw.ensures.1 c.in_ok-ne.ensures.1 c.in_ok-sw.ensures.1 in
    rw c.from_residual-in_err-se.ensures (sym (quad_short c.in_ok-sw.rest.now _ _ _ _ (words_of c.args.text.now) words c.in_err-se.ensures))

pub returns-then-not-has_no_word : goal.returns-then-not-has_no_word
returns-then-not-has_no_word c =
    let words = five_in_prefix c.in_ok-level.ensures.1 c.in_ok-nw.ensures.1 c.in_ok-ne.ensures.1 c.in_ok-sw.ensures.1 c.in_ok-se.ensures.1 in
    sym (quad_long _ _ _ _ _ (words_of c.args.text.now) (words_of c.in_ok-se.rest.now) words (sym c.has_no_word.ensures ∙ c.if-not-has_no_word.true))

pub returns : goal.returns
returns c =
    let a = c.in_ok-level.ensures in
    let b = c.in_ok-nw.ensures in
    let d = c.in_ok-ne.ensures in
    let e = c.in_ok-sw.ensures in
    let f = c.in_ok-se.ensures in
    let words = five_in_prefix a.1 b.1 d.1 e.1 f.1 in
    let none : is_empty (words_of c.in_ok-se.rest.now) ≡ true = sym c.has_no_word.ensures ∙ c.if-not-has_no_word.false in
    let whole = quad_whole _ _ _ _ _ (words_of c.args.text.now) (words_of c.in_ok-se.rest.now) words none a.2 b.2 d.2 e.2 f.2 in
    rw (a.3, b.3, d.3, e.3, f.3) (sym whole)
