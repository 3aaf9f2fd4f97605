use Rattle.std.proofs.Common.{◌≡◌, ℕ, List, ◌∙◌, subst}
use Rattle.life_reader.specs.Prefixes.{TakesLine}
use Rattle.life_reader.proofs.prefix.FilePrefix.take_kept.Goals as goal

pub returns-clause-takes : goal.returns-clause-takes
returns-clause-takes c =
    let line : c.deref.result.now ≡ c.args.self.now.kept.items = c.deref.ensures.value ∙ (λ i. (c.replace-line.ensures.value i).items) in
    subst (λ (l : List ℕ). TakesLine l c.args.store.now c.take_line.new.store c.args.self.now c.take_line.new.self c.take_line.result) line
    c.take_line.ensures.takes
