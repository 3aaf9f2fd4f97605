-- The text of a later generation of a pattern that was read.
use Rattle.std.proofs.Common.{◌≡◌, ℕ, ◌+◌, ◌^◌, ◌<◌, ◌≤◌, ℤ, List, Some, sym, ◌∙◌, ap, subst, arith}
use Rattle.life_base.specs.Refusal.{fault_of}
use Rattle.life_base.specs.Sets.{OuterTotalistic}
use Rattle.life_base.specs.Tree.{Tree, tree_cell}
use Rattle.life_base.specs.declared.cell.TheConstants.{MAX_LEVEL}
use Rattle.life_base.specs.declared.kind.Kind.TheVariants as kinds
use Rattle.life_base.specs.declared.rule.Rule.TheVariants.{Life}
use Rattle.life_quad.specs.Store.{Nodes}
use Rattle.life_pattern.specs.Laws.{FilesAreOnPlane, PatternsFit}
use Rattle.life_pattern.specs.Store.{IsRead, content}
use Rattle.life_pattern.specs.Universe.{Universe, IsSame, square_universe}
use Rattle.life_pattern.specs.declared.pattern.Pattern.{Pattern}
use Rattle.life_leap.specs.After.{after}
use Rattle.life_later.specs.Course.{LeavesWithin}
use Rattle.life_step.specs.Stepped.{IsTextWith}
use Rattle.life_generations.specs.Later.{IsLaterBy, IsTextLater, LaterRefusal}
use Rattle.life_generations.proofs.LaterFacts.{generation-refused, leaving-refused, life-state, none-refused, not-refused, state-now}

-- a text with a property has every property that follows from it
pub text-as : {P Q : Universe → Type 0} (top : ℕ) (text : List ℕ) → ((u : Universe) → P u → Q u) → IsTextWith top P text → IsTextWith top Q text
text-as top text to h = record { universe = h.universe; is = to h.universe h.is; reads = h.reads; canonical = h.canonical }

module _ (fit : PatternsFit MAX_LEVEL) (store : Nodes) (pattern : Pattern) (bytes : List ℕ) (r : IsRead MAX_LEVEL bytes store pattern) where
  same : IsSame r.universe (square_universe pattern.rule pattern.generation (content store pattern.root))
  same = (fit bytes store pattern r).1

  cells-are : r.universe.cell ≡ tree_cell (content store pattern.root)
  cells-are i x y = same.cells x y i

  -- no generation later the text is that of the pattern
  pub text-now : FilesAreOnPlane MAX_LEVEL → (n : ℕ) → n ≡ 0 → (text : List ℕ)
      → IsTextWith MAX_LEVEL (IsSame (square_universe pattern.rule pattern.generation (content store pattern.root))) text → IsTextLater n bytes text
  text-now plane n none text h = subst (λ k. IsTextLater k bytes text) (sym none) now
    where
      later : (v : Universe) → IsSame (square_universe pattern.rule pattern.generation (content store pattern.root)) v → IsLaterBy 0 r.universe v
      later v e = record {
        same_rule = sym (same.rule ∙ e.rule);
        generation = sym (same.generation ∙ e.generation) ∙ zero r.universe.generation;
        cells = λ x y. state-now r.universe.rule r.universe.cell x y (v.cell x y) (sym (same.cells x y ∙ e.cells x y));
      }
        where
          zero : (g : ℕ) → g ≡ g + 0
          zero g = omega arith

      now : IsTextLater 0 bytes text
      now = (r.universe, r.reads, none-refused r.universe (plane bytes r.universe r.reads).generation, text-as MAX_LEVEL text later h)

  module _ (n : ℕ) (life : OuterTotalistic) (is : pattern.rule ≡ Life life) where
    rule-is : r.universe.rule ≡ Life life
    rule-is = same.rule ∙ is

    small-then : pattern.generation + n < 2 ^ 64 → r.universe.generation + n < 2 ^ 64
    small-then small = subst (λ g. g + n < 2 ^ 64) (sym same.generation) small

    -- what leaves the plane in the generations of the pattern's square leaves it in those of what the file says
    leaves-then : LeavesWithin life n (tree_cell (content store pattern.root)) → LeavesWithin life n r.universe.cell
    leaves-then h = subst (λ (f : ℤ → ℤ → ℕ). LeavesWithin life n f) (sym cells-are) h

    pub generation-refused-read : 2 ^ 64 ≤ pattern.generation + n → LaterRefusal n r.universe (Some (fault_of kinds.GenerationTooLarge))
    generation-refused-read large = generation-refused n r.universe life rule-is (subst (λ g. 2 ^ 64 ≤ g + n) (sym same.generation) large)

    pub leaving-refused-read : pattern.generation + n < 2 ^ 64 → LeavesWithin life n (tree_cell (content store pattern.root))
        → LaterRefusal n r.universe (Some (fault_of kinds.OutOfPlane))
    leaving-refused-read small leaves = leaving-refused n r.universe life rule-is (small-then small) (leaves-then leaves)

    -- the text of the square of the later generation
    pub text-later : (generation : ℕ) (next : Tree) (text : List ℕ) → generation ≡ pattern.generation + n → pattern.generation + n < 2 ^ 64
        → ((x y : ℤ) → tree_cell next x y ≡ after life n (tree_cell (content store pattern.root)) x y)
        → ¬ (LeavesWithin life n (tree_cell (content store pattern.root)))
        → IsTextWith MAX_LEVEL (IsSame (square_universe pattern.rule generation next)) text → IsTextLater n bytes text
    text-later generation next text named small cells stays h = (
      r.universe,
      r.reads,
      not-refused n r.universe life rule-is (small-then small) (λ leaves. stays (subst (λ (f : ℤ → ℤ → ℕ). LeavesWithin life n f) cells-are leaves)),
      text-as MAX_LEVEL text later h,
    )
      where
        later : (v : Universe) → IsSame (square_universe pattern.rule generation next) v → IsLaterBy n r.universe v
        later v e = record {
          same_rule = sym e.rule ∙ sym same.rule;
          generation = sym e.generation ∙ named ∙ ap (λ g. g + n) (sym same.generation);
          cells = λ x y.
              life-state n r.universe.rule life r.universe.cell x y (v.cell x y) rule-is
              (sym (e.cells x y) ∙ cells x y ∙ ap (λ (f : ℤ → ℤ → ℕ). after life n f x y) (sym cells-are));
        }
