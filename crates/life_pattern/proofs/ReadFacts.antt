-- Patterns that were read into a store: what was read stays read, and two of them are equal exactly if their files say the same.
use Rattle.std.proofs.Common.{◌≡◌, ℕ, ◌≤◌, List, ap, sym, ◌∙◌, subst}
use Rattle.life_base.specs.Text.{lines_of}
use Rattle.life_base.specs.Tree.{depth}
use Rattle.life_base.specs.declared.cell.TheConstants.{MAX_LEVEL}
use Rattle.life_quad.specs.Store.{Nodes}
use Rattle.life_quad.proofs.LawLemmas.{equal_squares_have_one_id}
use Rattle.life_pattern.specs.Universe.{IsSame, whole, square_universe}
use Rattle.life_pattern.specs.Files.{Same}
use Rattle.life_pattern.specs.Store.{content, Keeps, IsRead, universe_in}
use Rattle.life_pattern.specs.declared.pattern.Pattern.{Pattern}
use Rattle.life_pattern.proofs.Whole.{same-whole}
use Rattle.life_pattern.proofs.Fits.{read-fits, read-same, root-high}
use Rattle.life_pattern.proofs.Formats.{files_say_one}
use Rattle.life_pattern.proofs.Sameness.{same-sym, same-trans}

-- ---- one store after another

-- what was read stays read
pub read-stays : (top : ℕ) (bytes : List ℕ) (old new : Nodes) (pattern : Pattern) → Keeps old new → IsRead top bytes old pattern → IsRead top bytes new pattern
read-stays top bytes old new pattern k r =
    let p = k.contents pattern.root r.is.known in
    record { universe = r.universe; reads = r.reads; is = record { rule = r.is.rule; generation = r.is.generation; known = p.0; root = p.1 ∙ r.is.root } }

pub root-deep : (bytes : List ℕ) (store : Nodes) (pattern : Pattern) → IsRead MAX_LEVEL bytes store pattern → 1 ≤ depth (content store pattern.root)
root-deep bytes store pattern r = root-high pattern.rule _ (read-fits bytes store pattern r).level

-- ---- two files

pub same-read : (first second : List ℕ) (store : Nodes) (a b : Pattern) → IsRead MAX_LEVEL first store a → IsRead MAX_LEVEL second store b
    → a.rule ≡ b.rule → a.generation ≡ b.generation → a.root ≡ b.root → Same MAX_LEVEL first second
same-read first second store a b p q rule generation root =
    let one : universe_in store a ≡ universe_in store b = λ i. square_universe (rule i) (generation i) (content store (root i)) in
    let same = same-trans _ _ _ (subst (IsSame p.universe) one (read-same first store a p)) (same-sym _ _ (read-same second store b q)) in
    record { first = p.universe; second = q.universe; reads_first = p.reads; reads_second = q.reads; same = same }

pub read-equal : (first second : List ℕ) (store : Nodes) (a b : Pattern) → IsRead MAX_LEVEL first store a → IsRead MAX_LEVEL second store b
    → Same MAX_LEVEL first second
    → (a.rule ≡ b.rule) × (a.generation ≡ b.generation) × (a.root ≡ b.root)
read-equal first second store a b p q s =
    let e : p.universe ≡ s.first = files_say_one MAX_LEVEL (lines_of first) _ _ p.reads s.reads_first in
    let f : q.universe ≡ s.second = files_say_one MAX_LEVEL (lines_of second) _ _ q.reads s.reads_second in
    let w : content store a.root ≡ content store b.root =
    p.is.root ∙ ap (whole MAX_LEVEL) e ∙ same-whole MAX_LEVEL s.first s.second s.same ∙ ap (whole MAX_LEVEL) (sym f) ∙ sym q.is.root in (
      p.is.rule ∙ ap (λ u. u.rule) e ∙ s.same.rule ∙ ap (λ u. u.rule) (sym f) ∙ sym q.is.rule,
      p.is.generation ∙ ap (λ u. u.generation) e ∙ s.same.generation ∙ ap (λ u. u.generation) (sym f) ∙ sym q.is.generation,
      equal_squares_have_one_id store p.is.known.1 a.root b.root p.is.known.0 q.is.known.0 w,
    )
