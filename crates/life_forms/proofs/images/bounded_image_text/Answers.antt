use Rattle.std.proofs.Common.{◌^◌, ℕ, List, min, IfSome, inl, refl, subst, subst₂}
use Rattle.life_base.specs.declared.cell.TheConstants.{MAX_LEVEL}
use Rattle.life_writer.specs.Lesser.{IsUpTo}
use Rattle.life_pattern.specs.Store.{universe_in}
use Rattle.life_writer.proofs.OrderFacts.{up-to-itself, up-to-on}
use Rattle.life_forms.specs.Images.{IsLowerBound}
use Rattle.life_forms.proofs.images.bounded_image_text.Goals as goal

pub returns-then-is_up_to-clause-text : goal.returns-then-is_up_to-clause-text
returns-then-is_up_to-clause-text c =
    let u = universe_in c.args.store.now c.args.pattern.now in
    let most = min (2 ^ 21) c.args.store.now.limit in
    let lower = c.in-Some.lower in
    let bound : IsLowerBound MAX_LEVEL most u c.args.columns c.args.rows lower.items =
    subst (λ o. IfSome o (λ text. IsLowerBound MAX_LEVEL most u c.args.columns c.args.rows text.items)) c.in-Some.is c.requires.lower in
    let up : IsUpTo c.args.best.items lower.items =
    subst₂ (λ (a b : List ℕ). IsUpTo a b) c.deref.ensures.value c.deref-in-Some.ensures.value (c.is_up_to.ensures.first c.if-is_up_to.true) in
    record {
      one = inl refl;
      first = up-to-itself c.args.best.items;
      second = λ also other is. up-to-on c.args.best.items lower.items other up (bound.least also other is);
    }
