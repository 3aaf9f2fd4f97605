-- The squares that a step stores, and those that a refused one lacked.
use Rattle.std.proofs.Common.{◌≡◌, ℕ, ℤ, List, Result, Ok, Err, IsErrAnd, refl, sym, ap, subst}
use Rattle.life_base.specs.Refusal.{fault_of}
use Rattle.life_base.specs.declared.cell.TheConstants.{MAX_LEVEL}
use Rattle.life_base.specs.declared.fault.Fault.{Fault}
use Rattle.life_base.specs.declared.kind.Kind.TheVariants.{Full}
use Rattle.life_base.specs.declared.rule.Rule.{Rule}
use Rattle.life_base.specs.declared.rule.Rule.TheVariants.{Life, Named}
use Rattle.life_base.specs.Sets.{OuterTotalistic}
use Rattle.life_base.specs.Tree.{Tree, depth, tree_cell, IsFull}
use Rattle.life_quad.specs.Refused.{TrimmedTo}
use Rattle.life_quad.specs.Store.{Nodes}
use Rattle.life_table.specs.Meaning.{Becomes}
use Rattle.life_table.specs.declared.table.Table.{Table}
use Rattle.life_next.specs.Generation.{next_life}
use Rattle.life_sweep.specs.Generation.{states_at, AnswersAt, TableAnswers, TableAnswersAt}
use Rattle.life_block.specs.Needed.{level_after}
use Rattle.life_pattern.specs.Files.{Reads}
use Rattle.life_pattern.specs.Store.{content, IsRead}
use Rattle.life_pattern.specs.Universe.{Universe, least_level, whole}
use Rattle.life_pattern.specs.declared.pattern.Pattern.{Pattern}
use Rattle.life_step.specs.Refusals.{SomeByRule, SomeByTable, of_root, of_next_root}

-- what follows from a full store in a call follows from it in a call that hands the fault on
pub handed-on : {T U P : Type 0} {f : Fault} (r : Result U Fault) → IsErrAnd r (λ g. g ≡ f) → (◌≡◌ {A = Result T Fault} (Err f) (Err (fault_of Full)) → P)
    → r ≡ Err (fault_of Full) → P
handed-on (Ok x) bad needed full = absurd bad
handed-on {f = f} (Err g) is needed full = let same : f ≡ fault_of Full = cc in needed (ap (λ (d : Fault). Err d) same)

-- what the step of a pattern needs or lacks is what the step of its file does
pub step-lacks : (Lacks : Rule → Tree → Type 0) (bytes : List ℕ) (store : Nodes) (pattern : Pattern) → IsRead MAX_LEVEL bytes store pattern
    → Lacks pattern.rule (content store pattern.root)
    → (u : Universe) × Reads MAX_LEVEL bytes u × Lacks u.rule (whole MAX_LEVEL u)
step-lacks Lacks bytes store pattern r l =
    (r.universe, r.reads, subst (λ q. Lacks q (whole MAX_LEVEL r.universe)) r.is.rule (subst (λ t. Lacks pattern.rule t) r.is.root l))

-- the square to which that of the next generation is trimmed is one that the step needs
pub root-by_rule : (P : Tree → Type 0) (root : Tree) {rule : Rule} {life : OuterTotalistic} {next : Tree} → rule ≡ Life life → IsFull next
    → depth next ≡ level_after (depth root) → ((x y : ℤ) → tree_cell next x y ≡ next_life life (tree_cell root) x y)
    → TrimmedTo P next (least_level rule) → SomeByRule P rule root
root-by_rule P root {next = next} is full level cells smaller =
    subst (λ q. SomeByRule P q root) (sym is)
    (of_root (record { square = next; full = full; is = level; cells = cells; smaller = subst (λ q. TrimmedTo P next (least_level q)) is smaller }))

pub root-by_table : (P : Tree → Type 0) (table : Table) {rule : Rule} {root next : Tree} → rule ≡ Named table.name → IsFull next
    → depth next ≡ MAX_LEVEL → ((x y : ℤ) → AnswersAt table (tree_cell root) x y (Becomes (tree_cell next x y)))
    → TrimmedTo P next (least_level rule) → SomeByTable P table rule root
root-by_table P table {next = next} is full level cells smaller = (
  is,
  of_next_root (tree_cell next) cells
      (record {
        square = next;
        full = full;
        is = level;
        cells = λ x y. refl;
        smaller = subst (λ q. TrimmedTo P next (least_level q)) is smaller;
      }),
)

-- the next states by a table are those by the same table in the words of a generation
pub answered-by_table : TableAnswersAt → (law table : Table) (t next : Tree) → law ≡ table
    → ((x y : ℤ) → TableAnswers law (states_at (tree_cell t) x y) (Becomes (tree_cell next x y)))
    → (x y : ℤ) → AnswersAt table (tree_cell t) x y (Becomes (tree_cell next x y))
answered-by_table answers law table t next same cells x y =
    (answers table (tree_cell t) x y (Becomes (tree_cell next x y))).0
    (subst (λ (T : Table). TableAnswers T (states_at (tree_cell t) x y) (Becomes (tree_cell next x y))) same (cells x y))
