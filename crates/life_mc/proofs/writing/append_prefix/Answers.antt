use Rattle.std.proofs.Common.{◌≡◌, ◌++◌, ◌∙◌, ℕ, List, [], ap, append_assoc, append-nil, arith, codes, refl, sym}
use Rattle.std.proofs.lemmas.Grind.{common_steps}
use Rattle.life_base.specs.Rules.{rule_text}
use Rattle.life_mc.specs.Writing.{generation_line_text}
use Rattle.life_mc.proofs.writing.append_prefix.Goals as goal

-- three texts put after one another, and none after them
three_added : (out o p q a r n none : List ℕ) → o ≡ out ++ a → p ≡ o ++ r → q ≡ p ++ n → none ≡ [] → q ≡ out ++ (a ++ r ++ n ++ none)
three_added out o p q a r n none h k l e =
    let two : p ≡ out ++ (a ++ r) = k ∙ ap (λ (t : List ℕ). t ++ r) h ∙ append_assoc out a r in
    l ∙ ap (λ (t : List ℕ). t ++ n) two ∙ append_assoc out (a ++ r) n
    ∙ ap (λ (t : List ℕ). out ++ t) (sym (append-nil (a ++ r ++ n)) ∙ ap (λ (t : List ℕ). a ++ r ++ n ++ t) (sym e))

pub returns-then-generation-eq0-clause-ok : goal.returns-then-generation-eq0-clause-ok
returns-then-generation-eq0-clause-ok c =
    let none : generation_line_text c.args.generation ≡ [] = rw c.if-generation-eq0.true refl in
    three_added c.args.out.now.items c.append.new.out.items c.write.new.out.items c.append-2.new.out.items (codes "[M2] (canonical 1)\n#R ")
    (rule_text c.args.rule.now) (codes "\n") (generation_line_text c.args.generation) c.in_ok-append.ensures.ok c.in_ok-write.ensures.ok
    c.in_ok-append-2.ensures.ok none

pub returns-clause-ok : goal.returns-clause-ok
returns-clause-ok c = grind (arith, common_steps)
