use Rattle.std.proofs.Common.{◌≡◌, inr, Ok, codes, refl, sym, ◌∙◌, ap}
use Rattle.std.proofs.lemmas.Slice.Eq.{bytes_eq-Decides}
use Rattle.life_base.specs.Rules.{life_sets, rule_of_trimmed, default_rule}
use Rattle.life_base.proofs.rule_reading.usual_or_other.Goals as goal

-- what the rules say of that text
usual : rule_of_trimmed (codes "B3/S23") ≡ Ok default_rule
unfolding life_sets
usual = refl

pub returns-then-is_usual : goal.returns-then-is_usual
returns-then-is_usual c =
    let same : c.args.text.now ≡ codes "B3/S23" = (bytes_eq-Decides c.args.text.now (codes "B3/S23")).0 (sym c.is_usual.ensures ∙ c.if-is_usual.true) in
    inr (ap Ok c.default_rule.ensures ∙ sym (ap rule_of_trimmed same ∙ usual))
