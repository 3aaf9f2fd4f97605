-- The longest prefix of lines that breaks no rule has all runs that any prefix of them has.
use Rattle.std.proofs.Common.{◌≡◌, ℕ, ◌+◌, ◌*◌, ◌≤◌, List, [], ◌∷◌, ◌++◌, length, refl, sym, ap, ◌∙◌, subst, inl, inr, ◌⊎◌, append_assoc, length-append, arith, ℤ, append-nil, Option, Some, None, Result, Ok, Err}
use Rattle.std.proofs.lemmas.List.{nil_from_length}
use Rattle.life_base.specs.Lines.{joined_lines}
use Rattle.life_base.specs.Rules.{default_rule}
use Rattle.life_base.specs.declared.cell.Run.{Run}
use Rattle.life_base.specs.declared.kind.Kind.{Kind}
use Rattle.life_rle.specs.Position.{default_position}
use Rattle.life_rle.specs.File.{HasRuns, IsPrefixOfRuns}
use Rattle.life_rle.specs.Pattern.{Rle, placed_items, placed_after, rle_cell}
use Rattle.life_rle.specs.Runs.{runs_of}
use Rattle.life_rle.specs.RunsLaw.{rle_state_by}
use Rattle.life_rle.specs.Items.{Next, End, Mark, Spelled, Broken}
use Rattle.life_rle.specs.declared.item.Item.{Item}
use Rattle.life_rle.specs.declared.line.Later.{Later}
use Rattle.life_rle.specs.declared.line.Later.TheVariants.{Passed, Data}
use Rattle.life_rle.specs.Grammar.{IsRle, later_of}
use Rattle.life_rle.specs.Blocks.{AreAllBlocks, HasFewBlocks}
use Rattle.life_rle.proofs.Progress.{Progress, Before, Begun, Ended, Refused, with_items, after_items, later_step, step, progress, start, Stands, lines-Stands, progress-append, progress-Refused, placed_behind-append, line_items, line_last, items_fault}
use Rattle.life_rle.proofs.ReadItems.{runs_of-append}
use Rattle.life_rle.proofs.Unique.{IsPreamble-progress, IsUnmarked-progress, IsMarked-progress}
use Rattle.life_rle.proofs.RunsLaws.{runs_are_cells}
use Rattle.life_rle.proofs.BlockBytes.{joined-append}
use Rattle.life_rle.proofs.BlockLaw.{few_blocks}

-- ---- the runs so far

abbrev IsGood : Progress → Type 0
IsGood (Before position) = Unit {0}
IsGood (Begun file) = Unit {0}
IsGood (Ended file) = Unit {0}
IsGood (Refused kind) = ⊥

good_or_not : (p : Progress) → IsGood p ⊎ (IsGood p → ⊥)
good_or_not (Before position) = inl tt
good_or_not (Begun file) = inl tt
good_or_not (Ended file) = inl tt
good_or_not (Refused kind) = inr (λ h. h)

refused : (level : ℕ) (p : Progress) (lines : List (List ℕ)) → (IsGood p → ⊥) → IsGood (progress level p lines) → ⊥
refused level (Before position) lines n g = n tt
refused level (Begun file) lines n g = n tt
refused level (Ended file) lines n g = n tt
refused level (Refused kind) lines n g = subst IsGood (progress-Refused level kind lines) g

abbrev runs_in : Progress → List Run
runs_in (Before position) = []
runs_in (Begun file) = runs_of (placed_items file)
runs_in (Ended file) = runs_of (placed_items file)
runs_in (Refused kind) = []

more-runs : (file : Rle) (items : List Item) → IsPrefixOfRuns (runs_of (placed_items file)) (runs_of (placed_items (with_items file items)))
more-runs file items = (
  runs_of (placed_after file.position file.items items),
  ap runs_of (placed_behind-append file.position [] file.items items)
      ∙ runs_of-append (placed_items file) (placed_after file.position file.items items),
)

no-more : (runs : List Run) → IsPrefixOfRuns runs runs
no-more runs = ([], sym (append-nil runs))

after-grow : (file : Rle) (items : List Item) (next : Next) (k : Option Kind) → IsGood (after_items file items next k)
    → IsPrefixOfRuns (runs_of (placed_items file)) (runs_in (after_items file items next k))
after-grow file items End None g = more-runs file items
after-grow file items Mark None g = more-runs file items
after-grow file items (Spelled i r) None g = absurd g
after-grow file items (Broken kind) None g = absurd g
after-grow file items End (Some kind) g = absurd g
after-grow file items Mark (Some kind) g = absurd g
after-grow file items (Spelled i r) (Some kind) g = absurd g
after-grow file items (Broken k) (Some kind) g = absurd g

later-grow : (level : ℕ) (file : Rle) (line : List ℕ) (r : Result Later Kind) → IsGood (later_step level file line r)
    → IsPrefixOfRuns (runs_of (placed_items file)) (runs_in (later_step level file line r))
later-grow level file line (Err kind) g = absurd g
later-grow level file line (Ok Passed) g = no-more (runs_of (placed_items file))
later-grow level file line (Ok Data) g =
    after-grow file (line_items level line) (line_last level line) (items_fault level file (line_items level line) (line_last level line)) g

step-grow : (level : ℕ) (p : Progress) (line : List ℕ) → IsGood (step level p line) → IsPrefixOfRuns (runs_in p) (runs_in (step level p line))
step-grow level (Before position) line g = (runs_in (step level (Before position) line), refl)
step-grow level (Begun file) line g = later-grow level file line (later_of line) g
step-grow level (Ended file) line g = no-more (runs_of (placed_items file))
step-grow level (Refused kind) line g = no-more []

prefix-prefix : (a b c : List Run) → IsPrefixOfRuns a b → IsPrefixOfRuns b c → IsPrefixOfRuns a c
prefix-prefix a b c f g = (f.0 ++ g.0, g.1 ∙ ap (λ (l : List Run). l ++ g.0) f.1 ∙ append_assoc a f.0 g.0)

grow : (level : ℕ) (p : Progress) (lines : List (List ℕ)) → IsGood (progress level p lines) → IsPrefixOfRuns (runs_in p) (runs_in (progress level p lines))
grow level p [] g = no-more (runs_in p)
grow level p (line ∷ lines) g = elim (good_or_not (step level p line)) [
  | inl here ↦ prefix-prefix (runs_in p) (runs_in (step level p line)) (runs_in (progress level (step level p line) lines)) (step-grow level p line here)
      (grow level (step level p line) lines g)
  | inr bad ↦ absurd (refused level (step level p line) lines bad g)
]

-- what a prefix has
has-runs : (level : ℕ) (prefix : List (List ℕ)) (runs : List Run) → HasRuns level prefix runs
    → IsGood (progress level start prefix) × (runs ≡ runs_in (progress level start prefix))
has-runs level prefix runs (inl h) =
    let e = IsPreamble-progress level default_position h.0 prefix h.1 in
    (subst IsGood (sym e) tt, h.2 ∙ ap runs_in (sym e))
has-runs level prefix runs (inr (file, inl b, r)) =
    let e = IsUnmarked-progress level prefix file b in
    (subst IsGood (sym e) tt, r ∙ ap runs_in (sym e))
has-runs level prefix runs (inr (file, inr b, r)) =
    let e = IsMarked-progress level prefix file b in
    (subst IsGood (sym e) tt, r ∙ ap runs_in (sym e))

-- ---- the longest prefix

abbrev Lines : Type 0
Lines = List (List ℕ)

split : (xs ys us vs : Lines) → xs ++ ys ≡ us ++ vs
    → ((more : Lines) × (xs ≡ us ++ more)) ⊎ ((line : List ℕ) × (more : Lines) × (rest : Lines) × (us ≡ xs ++ line ∷ more) × (ys ≡ line ∷ rest))
split [] ys [] vs e = inl ([], refl)
split [] ys (u ∷ us) vs e = inr (u, us, us ++ vs, refl, e)
split (x ∷ xs) ys [] vs e = inl (x ∷ xs, refl)
split (x ∷ xs) ys (u ∷ us) vs e =
    let same : x ≡ u = cc in
    let tails : xs ++ ys ≡ us ++ vs = cc in
    elim (split xs ys us vs tails) [
      | inl h ↦ inl (h.0, (λ i. same i ∷ h.1 i))
      | inr h ↦ inr (h.0, h.1, h.2, (λ i. sym same i ∷ h.3 i), h.4)
    ]

record Longest (level : ℕ) (lines : Lines) : Type 0 where
  prefix : Lines
  behind : Lines
  whole : lines ≡ prefix ++ behind
  good : IsGood (progress level start prefix)
  most : (f b : Lines) → lines ≡ f ++ b → IsGood (progress level start f) → (more : Lines) × (prefix ≡ f ++ more)

longest : (level : ℕ) (prefix lines : Lines) → IsGood (progress level start prefix) → Longest level (prefix ++ lines)
longest level prefix [] g = record {
  prefix = prefix;
  behind = [];
  whole = refl;
  good = g;
  most = λ f b e h. (b, sym (append-nil prefix) ∙ e);
}
longest level prefix (line ∷ lines) g = elim (good_or_not (progress level start (prefix ++ line ∷ []))) [
  | inl on ↦ subst (Longest level) (append_assoc prefix (line ∷ []) lines) (longest level (prefix ++ line ∷ []) lines on)
  | inr bad ↦ record {
    prefix = prefix;
    behind = line ∷ lines;
    whole = refl;
    good = g;
    most = λ f b e h. elim (split prefix (line ∷ lines) f b e) [
      | inl m ↦ m
      | inr m ↦
          let same : m.0 ≡ line = let w = m.4 in cc in
          let longer : f ≡ (prefix ++ line ∷ []) ++ m.1 = m.3 ∙ ap (λ l. prefix ++ l ∷ m.1) same ∙ sym (append_assoc prefix (line ∷ []) m.1) in
          absurd (refused level (progress level start (prefix ++ line ∷ [])) m.1 bad
          (subst IsGood (ap (progress level start) longer ∙ progress-append level start (prefix ++ line ∷ []) m.1) h))
    ];
  }
]

-- ---- its runs

prefixes-runs : (level : ℕ) (lines : Lines) (l : Longest level lines) (f b : Lines) (before : List Run) → lines ≡ f ++ b → HasRuns level f before
    → IsPrefixOfRuns before (runs_in (progress level start l.prefix))
prefixes-runs level lines l f b before e h =
    let has = has-runs level f before h in
    let m = l.most f b e has.0 in
    let all : progress level start l.prefix ≡ progress level (progress level start f) m.0 = ap (progress level start) m.1 ∙ progress-append level start f m.0 in
    let g = grow level (progress level start f) m.0 (subst IsGood all l.good) in
    (g.0, ap runs_in all ∙ g.1 ∙ ap (λ (r : List Run). r ++ g.0) (sym has.1))

shorter : (top : ℕ) (lines prefix behind : Lines) → lines ≡ prefix ++ behind → 14 * length (joined_lines prefix) + 4 * top ≤ 14 * length (joined_lines lines)
    + 4 * top
shorter top lines prefix behind e =
    let a = ap (λ (l : Lines). length (joined_lines l)) e in
    let b = joined-append prefix behind in
    omega (arith, a, b)

of-file : (top : ℕ) (lines prefix behind : Lines) (file : Rle) → lines ≡ prefix ++ behind → IsRle top prefix file
    → ((f b : Lines) (before : List Run) → lines ≡ f ++ b → HasRuns top f before → IsPrefixOfRuns before (runs_of (placed_items file)))
    → ((other : Rle) → IsRle top lines other → runs_of (placed_items file) ≡ runs_of (placed_items other)) → HasFewBlocks top lines
of-file top lines prefix behind file e h most whole =
    let few = few_blocks top prefix file h in
    let laws = runs_are_cells top prefix file h in
    let same : rle_cell file ≡ rle_state_by (runs_of (placed_items file)) = (λ i x y. laws.2 x y i) in
    let less = shorter top lines prefix behind e in
    record {
      rule = file.rule;
      runs = runs_of (placed_items file);
      good = laws.0;
      order = laws.1;
      blocks = few.0;
      all = subst (λ (f : ℤ → ℤ → ℕ). AreAllBlocks top f few.0) same few.1;
      few = omega (arith, few.2, less);
      most = most;
      whole = whole;
    }

prefixes-blocks : (top : ℕ) (lines prefix behind : Lines) (p : Progress) → lines ≡ prefix ++ behind → Stands top prefix p → IsGood p
    → ((f b : Lines) (before : List Run) → lines ≡ f ++ b → HasRuns top f before → IsPrefixOfRuns before (runs_in p))
    → ((other : Rle) → IsRle top lines other → runs_in p ≡ runs_of (placed_items other)) → HasFewBlocks top lines
prefixes-blocks top lines prefix behind (Before position) e s g most whole = record {
  rule = default_rule;
  runs = [];
  good = tt;
  order = tt;
  blocks = [];
  all = λ b i j low high li lj some. absurd (some refl);
  few = omega arith;
  most = most;
  whole = whole;
}
prefixes-blocks top lines prefix behind (Begun file) e s g most whole = of-file top lines prefix behind file e (inl s) most whole
prefixes-blocks top lines prefix behind (Ended file) e s g most whole = of-file top lines prefix behind file e (inr s) most whole
prefixes-blocks top lines prefix behind (Refused kind) e s g most whole = absurd g

-- of a file it is all lines
whole-runs : (level : ℕ) (lines : Lines) (l : Longest level lines) (file : Rle) → IsRle level lines file
    → runs_in (progress level start l.prefix) ≡ runs_of (placed_items file)
whole-runs level lines l file h =
    let has = has-runs level lines (runs_of (placed_items file)) (inr (file, h, refl)) in
    let m = l.most lines [] (sym (append-nil lines)) has.0 in
    let a = ap (λ (ls : Lines). length ls) m.1 ∙ length-append lines m.0 in
    let b = ap (λ (ls : Lines). length ls) l.whole ∙ length-append l.prefix l.behind in
    let none : m.0 ≡ [] = nil_from_length m.0 (omega (arith, a, b)) in
    let all : l.prefix ≡ lines = m.1 ∙ ap (λ (ls : Lines). lines ++ ls) none ∙ append-nil lines in
    ap (λ (ls : Lines). runs_in (progress level start ls)) all ∙ sym has.1

pub few_blocks_in_prefixes : (top : ℕ) (lines : Lines) → HasFewBlocks top lines
few_blocks_in_prefixes top lines =
    let l = longest top [] lines tt in
    prefixes-blocks top lines l.prefix l.behind (progress top start l.prefix) l.whole (lines-Stands top l.prefix) l.good (prefixes-runs top lines l)
    (whole-runs top lines l)
