-- The stages of a course, and copies of squares in other stores.
use Rattle.std.proofs.Common.{◌≡◌, ◌≢◌, ◌⊎◌, inl, inr, ℕ, ◌+◌, ◌-◌, ◌<◌, ◌≤◌, false, ℤ, List, refl, sym, ◌∙◌, ap, subst, arith}
use Rattle.life_base.specs.Refusal.{fault_of}
use Rattle.life_base.specs.Sets.{OuterTotalistic}
use Rattle.life_base.specs.Tree.{Tree, point, quad, depth, tree_cell}
use Rattle.life_base.specs.declared.fault.Fault.{Fault}
use Rattle.life_base.specs.declared.kind.Kind.{Kind}
use Rattle.life_base.specs.declared.kind.Kind.TheVariants as kinds
use Rattle.life_quad.specs.Turning.{turned_tree}
use Rattle.life_quad.specs.declared.turning.Turn.{Turn}
use Rattle.life_leap.specs.After.{after}
use Rattle.life_later.proofs.CourseLemmas.{binary-later, none-later, then-later}
use Rattle.life_later.proofs.StayLemmas.{leaves-then, none-leaves, stays-then}
use Rattle.life_later.specs.Course.{IsCourse, IsCourseFault, IsFaultApart, LeavesWithin}

-- the turn that leaves each square as it is
abbrev same_turn : Turn
same_turn = record { exchange = false; columns = false; rows = false }

pub copy-same : (t : Tree) → turned_tree same_turn t ≡ t
copy-same (point state) = refl
copy-same (quad nw ne sw se) = λ i. quad (copy-same nw i) (copy-same ne i) (copy-same sw i) (copy-same se i)

-- ---- courses

pub course-none : (rule : OuterTotalistic) (n : ℕ) (t : Tree) → n ≡ 0 → 3 ≤ depth t → IsCourse rule n t t
course-none rule n t none low = record {
  low = low;
  later = λ x y. none-later rule t x y ∙ ap (λ m. after rule m (tree_cell t) x y) (sym none);
  stays = none-leaves rule n (tree_cell t) none;
}

pub course-then : (rule : OuterTotalistic) (m n k : ℕ) (t u v : Tree) → n + m ≡ k → IsCourse rule m t u → IsCourse rule n u v → IsCourse rule k t v
course-then rule m n k t u v sum first second =
    let same : tree_cell u ≡ after rule m (tree_cell t) = (λ i x y. first.later x y i) in
    record {
      low = second.low;
      later = λ x y. then-later rule m n t u v first.later second.later x y ∙ ap (λ l. after rule l (tree_cell t) x y) sum;
      stays = λ h. stays-then rule m n (tree_cell t) (tree_cell u) same first.stays second.stays (subst (λ l. LeavesWithin rule l (tree_cell t)) (sym sum) h);
    }

-- one leap further
pub next-course : (rule : OuterTotalistic) (generations left consumed : ℕ) (t u v : Tree) → left ≤ generations → consumed ≤ left
    → IsCourse rule (generations - left) t u → 3 ≤ depth v → ((x y : ℤ) → tree_cell v x y ≡ after rule consumed (tree_cell u) x y)
    → ¬ (LeavesWithin rule consumed (tree_cell u)) → IsCourse rule (generations - (left - consumed)) t v
next-course rule generations left consumed t u v most few first low later stays =
    course-then rule (generations - left) consumed (generations - (left - consumed)) t u v (omega (arith, most, few)) first
    (record { low = low; later = later; stays = stays })

-- one stage further
pub next-stage : (rule : OuterTotalistic) (generations left rest : ℕ) (t u v : Tree) → left ≤ generations → rest ≤ left
    → IsCourse rule (generations - left) t u → IsCourse rule (left - rest) u v → IsCourse rule (generations - rest) t v
next-stage rule generations left rest t u v most few first second =
    course-then rule (generations - left) (left - rest) (generations - rest) t u v (omega (arith, most, few)) first second

-- the last stage
pub last-stage : (rule : OuterTotalistic) (generations rest : ℕ) (t u : Tree) → rest ≡ 0 → IsCourse rule (generations - rest) t u
    → IsCourse rule generations t u
last-stage rule generations rest t u none h =
    let e : generations - rest ≡ generations = omega (arith, none) in
    subst (λ n. IsCourse rule n t u) e h

-- the same square in another store
pub course-copied : (rule : OuterTotalistic) (n : ℕ) (t u v : Tree) → v ≡ u → IsCourse rule n t u → IsCourse rule n t v
course-copied rule n t u v same h = subst (IsCourse rule n t) (sym same) h

pub course-binary : (rule : OuterTotalistic) (n : ℕ) (t u : Tree) → ((x y : ℤ) → tree_cell t x y < 2) → IsCourse rule n t u → (x y : ℤ) → tree_cell u x y < 2
course-binary rule n t u binary h = binary-later rule n t u binary h.later

-- ---- refusals

pub leaves-later : (rule : OuterTotalistic) (m n k : ℕ) (t u : Tree) → n + m ≡ k → IsCourse rule m t u → LeavesWithin rule n (tree_cell u)
    → LeavesWithin rule k (tree_cell t)
leaves-later rule m n k t u sum first h =
    let same : tree_cell u ≡ after rule m (tree_cell t) = (λ i x y. first.later x y i) in
    subst (λ l. LeavesWithin rule l (tree_cell t)) sum (leaves-then rule m n (tree_cell t) (tree_cell u) same h)

-- a refusal of later generations is one of all of them
pub refused-later : (rule : OuterTotalistic) (m n k : ℕ) (t u : Tree) (stored : List Tree) (most : ℕ) (fault : Fault) → n + m ≡ k → IsCourse rule m t u
    → IsCourseFault rule n (tree_cell u) stored most fault → IsCourseFault rule k (tree_cell t) stored most fault
refused-later rule m n k t u stored most fault sum first (inl h) = inl h
refused-later rule m n k t u stored most fault sum first (inr h) = inr (h.0, leaves-later rule m n k t u sum first h.1)

-- a refusal in a store of its own
pub refused-apart : (rule : OuterTotalistic) (m n k : ℕ) (t u : Tree) (stored : List Tree) (most : ℕ) (fault : Fault) → n + m ≡ k → IsCourse rule m t u
    → IsCourseFault rule n (tree_cell u) stored most fault → IsFaultApart rule k (tree_cell t) fault
refused-apart rule m n k t u stored most fault sum first (inl (inl memory)) = inl memory
refused-apart rule m n k t u stored most fault sum first (inl (inr full)) = inr (inl full.0)
refused-apart rule m n k t u stored most fault sum first (inr h) = inr (inr (h.0, leaves-later rule m n k t u sum first h.1))

pub copy-refused : (rule : OuterTotalistic) (n : ℕ) (cells : ℤ → ℤ → ℕ) (kind : Kind) (fault : Fault) → (kind ≡ kinds.Memory) ⊎ (kind ≡ kinds.Full)
    → fault ≡ fault_of kind → IsFaultApart rule n cells fault
copy-refused rule n cells kind fault (inl memory) is = inl (is ∙ ap fault_of memory)
copy-refused rule n cells kind fault (inr full) is = inr (inl (is ∙ ap fault_of full))

-- what another store refuses, unless it is full
pub not-full : (rule : OuterTotalistic) (n : ℕ) (cells : ℤ → ℤ → ℕ) (stored : List Tree) (most : ℕ) (fault : Fault) → IsFaultApart rule n cells fault
    → fault.kind ≢ kinds.Full → IsCourseFault rule n cells stored most fault
not-full rule n cells stored most fault (inl memory) not = inl (inl memory)
not-full rule n cells stored most fault (inr (inl full)) not = absurd (not (ap (λ (f : Fault). f.kind) full))
not-full rule n cells stored most fault (inr (inr leaves)) not = inr leaves
