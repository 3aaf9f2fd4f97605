-- Patterns that are the same.
use Rattle.std.proofs.Common.{◌≡◌, sym, ◌∙◌}
use Rattle.life_pattern.specs.Universe.{Universe, IsSame}

pub same-sym : (u v : Universe) → IsSame u v → IsSame v u
same-sym u v s = record { rule = sym s.rule; generation = sym s.generation; cells = λ x y. sym (s.cells x y) }

pub same-trans : (u v w : Universe) → IsSame u v → IsSame v w → IsSame u w
same-trans u v w s t = record { rule = s.rule ∙ t.rule; generation = s.generation ∙ t.generation; cells = λ x y. s.cells x y ∙ t.cells x y }

pub same-is_one : (u v : Universe) → IsSame u v → u ≡ v
same-is_one u v s = λ i. record { rule = s.rule i; generation = s.generation i; cell = λ x y. s.cells x y i }
