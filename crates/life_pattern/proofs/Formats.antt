-- Files of either format: they differ, they say one thing, and what they say lies on the plane.
use Rattle.std.proofs.Common.{◌≡◌, ℕ, suc, ◌+◌, ◌-◌, ◌^◌, ◌<◌, ◌≤◌, Bool, true, false, cond, List, [], ◌∷◌, ◌++◌, length, refl, ap, sym, ◌∙◌, subst, arith, ◌⊎◌, inl, inr, ℤ, pos, neg_ℤ, ◌+ℤ◌, ◌≤ℤ◌, ◌<ℤ◌, Option, Some, None, codes, Ok, Err}
use Rattle.std.proofs.lemmas.Bool.Decides.{nat_tests}
use Rattle.std.proofs.lemmas.Int.{ints}
use Rattle.life_base.specs.Text.{lines_of, begins_with, is_too_long}
use Rattle.life_base.specs.declared.kind.Kind.{Kind}
use Rattle.life_base.specs.declared.kind.Kind.TheVariants.{LineTooLong, NoHeader}
use Rattle.life_base.specs.declared.rule.Rule.{Rule}
use Rattle.life_base.specs.declared.rule.Rule.TheVariants.{Life, Named}
use Rattle.life_mc.specs.Macrocell.{Macrocell, IsValidMacrocell, largest_state}
use Rattle.life_mc.specs.Cells.{macrocell_cell}
use Rattle.life_mc.specs.Reading.{AreMacrocell, broken_rule}
use Rattle.life_mc.proofs.Accepted.{files_are_valid}
use Rattle.life_mc.proofs.FormatLaws.{files_are_unique}
use Rattle.life_rle.specs.declared.line.Opening.{Opening}
use Rattle.life_rle.specs.declared.line.Opening.TheVariants.{Comment, PositionLine, Header}
use Rattle.life_rle.specs.declared.position.Position.{Position}
use Rattle.life_rle.specs.Grammar.{IsRle, IsUnmarked, IsPreamble, opening_of}
use Rattle.life_rle.specs.Pattern.{Rle, placed_items, rle_cell}
use Rattle.life_rle.specs.Position.{default_position}
use Rattle.life_rle.specs.Runs.{runs_of}
use Rattle.life_rle.specs.RunsLaw.{AreGoodRuns, rle_state_by, has_cell}
use Rattle.life_rle.specs.States.{is_state_of}
use Rattle.life_base.specs.declared.cell.Run.{Run}
use Rattle.life_rle.proofs.RunsLaws.{runs_are_cells, blank_outside}
use Rattle.life_rle.proofs.Unique.{IsRle-unique}
use Rattle.life_rle.proofs.ValidFiles.{files_are_valid as rles_are_valid}
use Rattle.life_rle.proofs.PrefixLaws.{first_of}
use Rattle.life_pattern.specs.Universe.{Universe, macrocell_universe, rle_universe, corner, IsBlankOutside, IsOnPlane}
use Rattle.life_pattern.specs.Files.{Says, as_macrocell, as_rle, Reads, is_macrocell}
use Rattle.life_pattern.specs.Laws.{FormatsDiffer, FilesAreUnique}
use Rattle.life_pattern.proofs.LineWords.{state_bound}
use Rattle.life_pattern.proofs.Whole.{rooted, root-most, no-lines}
use Rattle.life_pattern.proofs.Planes.{tree_cell-below, states-below, upto-below}
use Rattle.life_mc.proofs.Squares.{lines_stand_for_squares}
use Rattle.life_pattern.proofs.Trees.{outside-by}
use Rattle.life_base.proofs.Basics.{le_or_lt, double, true_false}

pub sum_back : (a b c : ℕ) → a ≡ suc b → a ≤ suc c → suc ((c - b) + b) ≡ suc c
sum_back a b c p q = omega arith

-- ---- the two formats differ by their first line

passes : {X : Type 0} (b : Bool) (x : X) (o : Option X) → cond b (Some x) o ≡ None → (b ≡ false) × (o ≡ None)
passes true x o h = cc
passes false x o h = (refl, h)

none_if : (b : Bool) (kind : Kind) → cond b None (Some kind) ≡ None → b ≡ true
none_if true kind h = refl
none_if false kind h = cc

pub macrocell-first : (top : ℕ) (lines : List (List ℕ)) (file : Macrocell) → AreMacrocell top lines file → is_macrocell lines ≡ true
unfolding broken_rule
macrocell-first top [] file a = absurd (omega (arith, a.header))
macrocell-first top (line ∷ lines) file a =
    none_if (begins_with line (codes "[M2]")) NoHeader (passes (is_too_long line) LineTooLong _ (a.unbroken 0 (omega arith))).1

not_ok : {X E : Type 0} (b : Bool) (e f : E) (x : X) → cond b (Err e) (Err f) ≡ Ok x → ⊥
not_ok true e f x h = cc
not_ok false e f x h = cc

bracket-opens : (level : ℕ) (rest : List ℕ) (found : Opening) → opening_of level (91 ∷ rest) ≡ Ok found → ⊥
bracket-opens level rest found h = not_ok (is_too_long (91 ∷ rest)) LineTooLong NoHeader found h

macrocell-opens : (level : ℕ) (line : List ℕ) (found : Opening) → begins_with line (codes "[M2]") ≡ true → opening_of level line ≡ Ok found → ⊥
macrocell-opens level [] found b h = true_false false b refl
macrocell-opens level (c ∷ rest) found b h =
    bracket-opens level rest found (subst (λ n. opening_of level (n ∷ rest) ≡ Ok found) (first_of c rest b) h)

preamble-first : (level : ℕ) (given position : Position) (line : List ℕ) (lines : List (List ℕ)) → IsPreamble level given (line ∷ lines) position
    → (found : Opening) × (opening_of level line ≡ Ok found)
preamble-first level given position line lines (inl p) = (Comment, p.0)
preamble-first level given position line lines (inr p) = (PositionLine p.0, p.1)

unmarked-first : (level : ℕ) (lines : List (List ℕ)) (file : Rle) → IsUnmarked level lines file → is_macrocell lines ≡ true → ⊥
unmarked-first level lines file u m = by u.before refl u.preamble
  where
    by : (before : List (List ℕ)) → u.before ≡ before → IsPreamble level default_position before file.position → ⊥
    by [] e p = macrocell-opens level u.header (Header file.rule) (ap is_macrocell (sym (u.whole ∙ ap (λ b. b ++ u.header ∷ u.body) e)) ∙ m) u.rule
    by (line ∷ before) e p =
        let f = preamble-first level default_position file.position line before p in
        macrocell-opens level line f.0 (ap is_macrocell (sym (u.whole ∙ ap (λ b. b ++ u.header ∷ u.body) e)) ∙ m) f.1

prefix-first : (prefix : List (List ℕ)) (last : List ℕ) (more : List (List ℕ)) → (prefix ≡ [] → ⊥) → is_macrocell (prefix ++ last ∷ more) ≡ is_macrocell prefix
prefix-first [] last more h = absurd (h refl)
prefix-first (line ∷ prefix) last more h = refl

unmarked-some : (level : ℕ) (file : Rle) → IsUnmarked level [] file → ⊥
unmarked-some level file u = by u.before u.whole
  where
    by : (before : List (List ℕ)) → [] ≡ before ++ u.header ∷ u.body → ⊥
    by [] e = cc
    by (line ∷ before) e = cc

pub rle-first : (level : ℕ) (lines : List (List ℕ)) (file : Rle) → IsRle level lines file → is_macrocell lines ≡ true → ⊥
rle-first level lines file (inl u) m = unmarked-first level lines file u m
rle-first level lines file (inr r) m =
    unmarked-first level r.prefix _ r.begun
    (sym (prefix-first r.prefix r.last r.free (λ e. unmarked-some level _ (subst (λ l. IsUnmarked level l (record file { items = r.earlier })) e r.begun)))
    ∙ sym (ap is_macrocell r.whole) ∙ m)

pub formats_differ : (top : ℕ) → FormatsDiffer top
formats_differ top = λ lines file other a r. rle-first top lines other r (macrocell-first top lines file a)

pub files_say_one : (top : ℕ) → FilesAreUnique top
files_say_one top = λ lines u v p q. by lines u v p q
  where
    by : (lines : List (List ℕ)) (u v : Universe) → Says top lines u → Says top lines v → u ≡ v
    by lines _ _ (as_macrocell f a) (as_macrocell g b) = ap macrocell_universe (files_are_unique top lines f g a b)
    by lines _ _ (as_macrocell f a) (as_rle g b) = absurd (formats_differ top lines f g a b)
    by lines _ _ (as_rle f a) (as_macrocell g b) = absurd (formats_differ top lines g f b a)
    by lines _ _ (as_rle f a) (as_rle g b) = ap rle_universe (IsRle-unique top lines f g a b)

-- ---- what a file says lies on the plane

two_states : (rule : Rule) → 2 ≤ state_bound rule
two_states (Life sets) = omega arith
two_states (Named name) = omega arith

state-below : (rule : Rule) (state : ℕ) → is_state_of rule state ≡ true → state < state_bound rule
state-below (Life sets) state h = grind (arith, nat_tests)
state-below (Named name) state h = grind (arith, nat_tests)

runs-below : (level : ℕ) (rule : Rule) (runs : List Run) → AreGoodRuns level rule runs → (x y : ℤ) → rle_state_by runs x y < state_bound rule
runs-below level rule [] g x y = omega (arith, two_states rule)
runs-below level rule (run ∷ runs) g x y = by (has_cell run x y) (runs-below level rule runs g.1 x y)
  where
    by : (b : Bool) → rle_state_by runs x y < state_bound rule → cond b run.state (rle_state_by runs x y) < state_bound rule
    by true h = state-below rule run.state g.0.state
    by false h = h

outside-of : (n : ℕ) (x y : ℤ)
    → ¬ (((neg_ℤ (pos n) ≤ℤ x) × (x <ℤ (neg_ℤ (pos n) +ℤ pos (n + n)))) × ((neg_ℤ (pos n) ≤ℤ y) × (y <ℤ (neg_ℤ (pos n) +ℤ pos (n + n)))))
    → (x <ℤ neg_ℤ (pos n)) ⊎ (pos n ≤ℤ x) ⊎ (y <ℤ neg_ℤ (pos n)) ⊎ (pos n ≤ℤ y)
outside-of n x y h = grind (arith, ints)

rle-outside : (top : ℕ) (lines : List (List ℕ)) (file : Rle) → IsRle (suc top) lines file → IsBlankOutside (suc top) (rle_cell file)
unfolding corner
rle-outside top lines file r x y n =
    let h : ¬ (((neg_ℤ (pos (2 ^ top)) ≤ℤ x) × (x <ℤ (neg_ℤ (pos (2 ^ top)) +ℤ pos (2 ^ top + 2 ^ top))))
    × ((neg_ℤ (pos (2 ^ top)) ≤ℤ y) × (y <ℤ (neg_ℤ (pos (2 ^ top)) +ℤ pos (2 ^ top + 2 ^ top))))) =
    subst (λ v. ¬ (((neg_ℤ (pos (2 ^ top)) ≤ℤ x) × (x <ℤ (neg_ℤ (pos (2 ^ top)) +ℤ pos v)))
    × ((neg_ℤ (pos (2 ^ top)) ≤ℤ y) × (y <ℤ (neg_ℤ (pos (2 ^ top)) +ℤ pos v))))) (double top) n in
    let o = outside-of (2 ^ top) x y h in
    let one : top ≡ suc top - 1 = omega arith in
    blank_outside (suc top) lines file x y r
    (subst (λ k. (x <ℤ neg_ℤ (pos (2 ^ k))) ⊎ (pos (2 ^ k) ≤ℤ x) ⊎ (y <ℤ neg_ℤ (pos (2 ^ k))) ⊎ (pos (2 ^ k) ≤ℤ y)) one o)

rle-on_plane : (top : ℕ) (lines : List (List ℕ)) (file : Rle) → IsRle (suc top) lines file → IsOnPlane (suc top) (rle_universe file)
rle-on_plane top lines file r =
    let s = rles_are_valid (suc top) lines file r in
    let c = runs_are_cells (suc top) lines file r in
    record {
      rule = s.rule;
      generation = s.generation;
      states = λ x y. upto-below _ (largest_state file.rule)
          (subst (λ n. n < state_bound file.rule) (sym (c.2 x y)) (runs-below (suc top) file.rule (runs_of (placed_items file)) c.0 x y));
      outside = rle-outside top lines file r;
    }

-- every state of a file's root is below the bound, and so is every cell
macrocell-on_plane : (top : ℕ) (file : Macrocell) → 3 ≤ suc top → IsValidMacrocell (suc top) file → IsOnPlane (suc top) (macrocell_universe file)
macrocell-on_plane top file high v = elim (le_or_lt 1 (length file.lines)) [
  | inl l ↦
      let r = rooted (suc top) file v l in
      let most = root-most (suc top) file high v l in
      record {
        rule = v.rule;
        generation = v.generation;
        states = λ x y. upto-below _ (largest_state file.rule) (cells-below (suc top) file v x y);
        outside = subst (λ n. IsBlankOutside n (macrocell_cell file)) (sum_back _ r.level top r.is most)
            (outside-by (macrocell_cell file) (top - r.level) r.level r.outside);
      }
  | inr l ↦
      let none : length file.lines ≡ 0 = omega arith in
      record {
        rule = v.rule;
        generation = v.generation;
        states = λ x y. subst (λ n. n ≤ largest_state file.rule) (sym (no-lines file none x y)) (omega arith);
        outside = λ x y n. no-lines file none x y;
      }
]
  where
    cells-below : (top : ℕ) (file : Macrocell) → IsValidMacrocell top file → (x y : ℤ) → macrocell_cell file x y < state_bound file.rule
    cells-below top file v x y =
        let s = lines_stand_for_squares top file v in
        subst (λ n. n < state_bound file.rule) (sym (s.plane x y))
        (tree_cell-below (state_bound file.rule) _ (states-below (largest_state file.rule) _ s.root.states) (omega (arith, two_states file.rule)) x y)

pub reads-plane : (top : ℕ) (bytes : List ℕ) (u : Universe) → 3 ≤ suc top → Reads (suc top) bytes u → IsOnPlane (suc top) u
reads-plane top bytes _ high (as_macrocell file a) = macrocell-on_plane top file high (files_are_valid (suc top) bytes file a)
reads-plane top bytes _ high (as_rle file r) = rle-on_plane top (lines_of bytes) file r
