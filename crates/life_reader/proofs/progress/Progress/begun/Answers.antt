use Rattle.std.proofs.Common.{ℕ, List, [], refl, sym, ap, subst, inl}
use Rattle.life_base.specs.declared.cell.TheConstants.{MAX_LEVEL}
use Rattle.life_base.specs.Lines.{LinesRead}
use Rattle.life_rle.specs.File.{HasRuns}
use Rattle.life_rle.specs.Position.{default_position}
use Rattle.life_strip.proofs.FillingLemmas.{empty-fills}
use Rattle.life_quad.specs.Store.{Nodes}
use Rattle.life_pattern.specs.Store.{IsKnown, content}
use Rattle.life_reader.proofs.progress.Progress.begun.Goals as goal

pub returns-else-begins_with-clause-stands : goal.returns-else-begins_with-clause-stands
returns-else-begins_with-clause-stands c = λ store. record {
  are = subst (HasRuns MAX_LEVEL c.new-else-begins_with.result.lines) (sym c.new-else-begins_with-2.ensures.runs)
      (subst (λ (ls : List (List ℕ)). HasRuns MAX_LEVEL ls []) (sym (ap (λ (v : LinesRead). v.lines) c.new-else-begins_with.ensures))
      (inl (default_position, refl, refl)));
  filling = empty-fills Nodes IsKnown content store c.new-else-begins_with-2.result c.new-else-begins_with-2.ensures.empty;
}
