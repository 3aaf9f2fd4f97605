use Rattle.std.proofs.Common.{◌≡◌, ℕ, ◌∷◌, [], ◌++◌, List, append_assoc, codes, decimal}
use Rattle.std.proofs.lemmas.Result.{on_ok_weaker}
use Rattle.life_base.specs.Rules.{rule_text}
use Rattle.life_rle.proofs.writing.append_header.Goals as goal

-- seven texts, one after the other
joined : (a b c d e f g old first second third fourth fifth sixth new : List ℕ)
    → first ≡ old ++ a → second ≡ first ++ b → third ≡ second ++ c → fourth ≡ third ++ d → fifth ≡ fourth ++ e → sixth ≡ fifth ++ f → new ≡ sixth ++ g
    → new ≡ old ++ (a ++ (((b ++ (c ++ d)) ++ (e ++ f)) ++ g))
joined a b c d e f g old first second third fourth fifth sixth new p q r s t u v = rw (v, u, t, s, r, q, p) (simp append_assoc)

pub returns-clause-ok : goal.returns-clause-ok
returns-clause-ok c = on_ok_weaker c.append-4.result
    (joined (codes "x = ") (decimal c.args.width) (codes ", y = ") (decimal c.args.height) (codes ", rule = ") (rule_text c.args.rule.now) (10 ∷ [])
    c.args.out.now.items c.append.new.out.items c.append_number.new.out.items c.append-2.new.out.items
    c.append_number-2.new.out.items c.append-3.new.out.items c.write.new.out.items c.append-4.new.out.items
    c.in_ok-append.ensures.ok c.in_ok-append_number.ensures.ok c.in_ok-append-2.ensures.ok
    c.in_ok-append_number-2.ensures.ok c.in_ok-append-3.ensures.ok c.in_ok-write.ensures.ok)
    c.append-4.ensures.ok
