use Rattle.std.proofs.Common.{List, ℕ, inl, inr, refl, subst₂}
use Rattle.life_writer.specs.Lesser.{IsUpTo}
use Rattle.life_writer.proofs.OrderFacts.{up-to-itself}
use Rattle.life_forms.proofs.lower_bounds.lesser_of.Goals as goal

pub returns-then-is_up_to : goal.returns-then-is_up_to
returns-then-is_up_to c = record {
  one = inl refl;
  first = up-to-itself c.args.first.items;
  second = subst₂ (λ (a b : List ℕ). IsUpTo a b) c.deref.ensures.value c.deref-2.ensures.value (c.is_up_to.ensures.first c.if-is_up_to.true);
}

pub returns-else-is_up_to : goal.returns-else-is_up_to
returns-else-is_up_to c = record {
  one = inr refl;
  first = subst₂ (λ (a b : List ℕ). IsUpTo b a) c.deref.ensures.value c.deref-2.ensures.value (c.is_up_to.ensures.second c.if-is_up_to.false);
  second = up-to-itself c.args.second.items;
}
