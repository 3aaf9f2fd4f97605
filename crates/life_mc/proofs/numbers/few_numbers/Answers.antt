use Rattle.std.proofs.Common.{refl}
use Rattle.life_base.specs.Text.{words_of}
use Rattle.life_mc.proofs.Words.{five_in_prefix, quad_whole}
use Rattle.life_mc.proofs.numbers.few_numbers.Goals as goal

pub returns : goal.returns
returns c =
    let a = c.in_ok-level.ensures in
    let b = c.in_ok-nw.ensures in
    let d = c.in_ok-ne.ensures in
    let e = c.in_ok-sw.ensures in
    let f = c.in_ok-se.ensures in
    let words = five_in_prefix a.1 b.1 d.1 e.1 f.1 in
    let whole = quad_whole _ _ _ _ _ (words_of c.args.text.now) _ words refl a.2 b.2 d.2 e.2 f.2 in
    rw (a.3, b.3, d.3, e.3, f.3) whole
