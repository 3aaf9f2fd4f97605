-- The patterns that are made of the lines of a file, and the faults of lines.
use Rattle.std.proofs.Common.{◌≡◌, ℕ, suc, ◌+◌, ◌-◌, ◌<◌, ◌≤◌, Bool, true, false, cond, List, [], ◌∷◌, ◌++◌, length, refl, ap, sym, ◌∙◌, subst, arith, ◌⊎◌, inl, inr, Some, ℤ, length-append, MatchBool, Result, Ok, Err, OnOk, IfErr}
use Rattle.life_base.specs.Refusal.{Prefix}
use Rattle.life_base.specs.Tree.{Tree, depth, tree_cell, IsFull}
use Rattle.life_base.specs.declared.cell.TheConstants.{MAX_LEVEL}
use Rattle.life_base.specs.declared.cell.Run.{Run}
use Rattle.life_base.specs.declared.kind.Kind.{Kind}
use Rattle.life_base.specs.declared.kind.Kind.TheVariants.{Full, Memory, Spent, NoHeader}
use Rattle.life_base.specs.declared.rule.Rule.{Rule}
use Rattle.life_mc.specs.Macrocell.{IsValidMacrocell, AreSquares}
use Rattle.life_mc.specs.Reading.{broken_rule, is_macrocell_kind, squares_of, AcceptsMacrocell}
use Rattle.life_mc.specs.declared.line.Line.{Line}
use Rattle.life_mc.proofs.Accepted.{lines_are_valid}
use Rattle.life_mc.proofs.FormatLaws.{prefixes_are_files}
use Rattle.life_mc.proofs.LineKinds.{broken_kind}
use Rattle.life_quad.specs.Moves.{trimmed_square}
use Rattle.life_quad.specs.Store.{Nodes, stored_squares}
use Rattle.life_rle.specs.Decided.{LacksHeader}
use Rattle.life_rle.specs.File.{HasRuns}
use Rattle.life_rle.specs.Grammar.{IsRle, BreaksRle, is_rle_kind}
use Rattle.life_rle.specs.Pattern.{Rle, rle_cell}
use Rattle.life_rle.specs.Position.{default_position}
use Rattle.life_rle.specs.RunsLaw.{rle_state_by, has_cell}
use Rattle.life_rle.proofs.LineKinds.{Breaks-kind}
use Rattle.life_rle.proofs.DecidedLaw.{decided}
use Rattle.life_rle.proofs.RunsLaws.{runs_are_cells}
use Rattle.life_rle.proofs.Unique.{IsRle-unique}
use Rattle.life_strip.specs.Given.{state_by}
use Rattle.life_pattern.specs.Files.{Breaks, is_macrocell}
use Rattle.life_quad.specs.Keeping.{IsShortageKind}
use Rattle.life_reader.specs.Taking.{consumed_lines}
use Rattle.life_pattern.specs.Universe.{Universe, IsSame, least_level, centred_square, whole, square_universe}
use Rattle.life_reader.specs.declared.progress.Progress.{Progress}
use Rattle.life_reader.specs.declared.progress.Progress.TheVariants as progress
use Rattle.life_pattern.proofs.Whole.{same-whole, whole-trimmed}
use Rattle.life_pattern.proofs.Whole.{least-one}
use Rattle.life_pattern.proofs.Planes.{full-depth, trimmed-is, centred-tree_cell, tree_cell-outside}
use Rattle.life_pattern.proofs.TreeWords.{HasDepth, trimmed_to}
use Rattle.life_pattern.proofs.Trees.{centred-trimmed}

-- ---- the root of a pattern

-- a square with the cells of a pattern, trimmed, is the whole of the pattern
pub trimmed-whole : (top : ℕ) (u : Universe) (t : Tree) → IsFull t → depth t ≤ suc top → least_level u.rule ≤ depth t
    → ((x y : ℤ) → tree_cell t x y ≡ u.cell x y)
    → trimmed_square t (least_level u.rule) ≡ whole (suc top) u
trimmed-whole top u t full low le cells =
    let m = least_level u.rule in
    let k : ℕ = depth t - 1 in
    let d : depth t ≡ suc k = omega (arith, least-one u.rule) in
    let h : HasDepth (suc k) t = subst (λ (n : ℕ). HasDepth n t) d (full-depth t full) in
    let high : m ≤ suc k = subst (λ (n : ℕ). m ≤ n) d le in
    let n : suc top ≡ suc ((top - k) + k) = omega (arith, d, low) in
    let v : Universe = square_universe u.rule u.generation t in
    let s : IsSame u v = record { rule = refl; generation = refl; cells = λ x y. sym (cells x y) } in
    sym (same-whole (suc top) u v s ∙ whole-trimmed (suc top) v ∙ ap (λ (j : ℕ). trimmed_to (centred_square (tree_cell t) j) m) n
    ∙ centred-trimmed (tree_cell t) m (top - k) k (least-one u.rule) high (tree_cell-outside h)
    ∙ ap (λ (s : Tree). trimmed_to s m) (centred-tree_cell h) ∙ sym (trimmed-is m h (least-one u.rule)))

-- ---- the cells of runs

same-cells : (runs : List Run) (x y : ℤ) → state_by runs x y ≡ rle_state_by runs x y
same-cells [] x y = refl
same-cells (run ∷ runs) x y = ap (λ (n : ℕ). cond (has_cell run x y) run.state n) (same-cells runs x y)

-- the runs of lines that are a file have its cells
pub file-cells : (lines : List (List ℕ)) (runs : List Run) (file : Rle) → HasRuns MAX_LEVEL lines runs → IsRle MAX_LEVEL lines file → (x y : ℤ)
    → state_by runs x y ≡ rle_cell file x y
file-cells lines runs file (inl h) r x y = absurd ((decided MAX_LEVEL lines).1 (file, r) (h.0, h.1))
file-cells lines runs file (inr h) r x y =
    let same : h.0 ≡ file = IsRle-unique MAX_LEVEL lines h.0 file h.1 r in
    same-cells runs x y ∙ ap (λ (rs : List Run). rle_state_by rs x y) h.2
    ∙ sym ((runs_are_cells MAX_LEVEL lines h.0 h.1).2 x y) ∙ ap (λ (f : Rle). rle_cell f x y) same

-- ---- node lines

pub record NextSquare (lines : List (List ℕ)) (square : Line) : Type 0 where
  pub rule : Rule
  pub generation : ℕ
  pub valid : IsValidMacrocell MAX_LEVEL (record { rule = rule; generation = generation; lines = squares_of lines ++ square ∷ [] })

-- a node line that goes on a prefix is a square after those before it
pub next-square : (lines more : List (List ℕ)) (line : List ℕ) (square : Line) → more ≡ lines ++ line ∷ [] → Prefix (AcceptsMacrocell MAX_LEVEL) more
    → squares_of more ≡ squares_of lines ++ square ∷ [] → NextSquare lines square
next-square lines more line square e p s =
    let some : 0 < length more = omega (arith, ap length e, length-append lines (line ∷ [])) in
    let file = (prefixes_are_files MAX_LEVEL more some).0 p in
    let v = lines_are_valid MAX_LEVEL more file.0 file.1 in
    let same : file.0.lines ≡ squares_of lines ++ square ∷ [] = file.1.squares ∙ s in
    record {
      rule = file.0.rule;
      generation = file.0.generation;
      valid = record { rule = v.rule; generation = v.generation; squares = subst (λ (ls : List Line). AreSquares MAX_LEVEL file.0.rule ls) same v.squares };
    }

-- ---- faults

kind-differs : (kind other : Kind) → is_macrocell_kind kind ≡ true → is_macrocell_kind other ≡ false → kind ≡ other → ⊥
kind-differs kind other h k e = cc

kind-differs-rle : (kind other : Kind) → is_rle_kind kind ≡ true → is_rle_kind other ≡ false → kind ≡ other → ⊥
kind-differs-rle kind other h k e = cc

pub not-full : (lines : List (List ℕ)) (line : List ℕ) (kind : Kind) → (kind ≡ Memory) ⊎ (kind ≡ Spent) ⊎ (broken_rule MAX_LEVEL lines line ≡ Some kind)
    → kind ≡ Full → ⊥
not-full lines line kind (inl m) e = cc
not-full lines line kind (inr (inl s)) e = cc
not-full lines line kind (inr (inr b)) e = kind-differs kind Full (broken_kind MAX_LEVEL lines line kind b) refl e

pub not-full-rle : (lines : List (List ℕ)) (line : List ℕ) (kind : Kind) → (kind ≡ Memory) ⊎ (kind ≡ Spent) ⊎ BreaksRle MAX_LEVEL lines line kind → kind ≡ Full
    → ⊥
not-full-rle lines line kind (inl m) e = cc
not-full-rle lines line kind (inr (inl s)) e = cc
not-full-rle lines line kind (inr (inr b)) e = kind-differs-rle kind Full (Breaks-kind MAX_LEVEL lines line kind b) refl e

-- no lines lack a header
pub undecided-lacks : (p : Progress) → p ≡ progress.Undecided → LacksHeader MAX_LEVEL (consumed_lines p) × (is_macrocell (consumed_lines p) ≡ false)
undecided-lacks p e = subst (λ (q : Progress). LacksHeader MAX_LEVEL (consumed_lines q) × (is_macrocell (consumed_lines q) ≡ false)) (sym e)
    ((default_position, refl), refl)

-- what holds of an answer by two facts
pub on-ok : {T E P Q : Type 0} (r : Result T E) → OnOk r P → (P → Q) → OnOk r Q
on-ok (Ok x) p f = f p
on-ok (Err e) p f = tt

pub both-ok : {T E P Q R : Type 0} (r : Result T E) → OnOk r P → OnOk r Q → (P → Q → R) → OnOk r R
both-ok (Ok x) p q f = f p q
both-ok (Err e) p q f = tt

-- a reader that has refused nothing isn't spent
pub reported-fault : (stored : List Tree) (most : ℕ) (B : Type 0) (refused : Bool) (kind : Kind) → refused ≡ false
    → (kind ≡ Memory) ⊎ (kind ≡ Spent) ⊎ B → (kind ≡ Spent → refused ≡ true) → IsShortageKind stored most kind ⊎ B
reported-fault stored most B refused kind r (inl m) s = inl (inl m)
reported-fault stored most B refused kind r (inr (inl p)) s = let t = s p in cc
reported-fault stored most B refused kind r (inr (inr b)) s = inr b

-- the kind of a refused line of RLE
pub rle-fault : (r : Result (Unit {0}) Kind) (store : Nodes) (lines : List (List ℕ)) (line : List ℕ) → is_macrocell (lines ++ line ∷ []) ≡ false
    → IfErr r (λ kind. IsShortageKind (stored_squares store) store.limit kind ⊎ BreaksRle MAX_LEVEL lines line kind)
    → IfErr r (λ kind. IsShortageKind (stored_squares store) store.limit kind ⊎ Breaks MAX_LEVEL lines line kind)
rle-fault (Ok x) store lines line m f = tt
rle-fault (Err kind) store lines line m (inl want) = inl want
rle-fault (Err kind) store lines line m (inr b) =
    inr (subst (λ (v : Bool). MatchBool v (broken_rule MAX_LEVEL lines line ≡ Some kind) (BreaksRle MAX_LEVEL lines line kind)) (sym m) b)

-- the end of a reader of RLE is refused for want of a header
pub end-kind : (p : Progress) (lines : List (List ℕ)) (refused : Bool) (kind : Kind) → consumed_lines p ≡ lines → is_macrocell lines ≡ false → refused ≡ false
    → (kind ≡ NoHeader) ⊎ (kind ≡ Spent) → (kind ≡ NoHeader → LacksHeader MAX_LEVEL lines) → (kind ≡ Spent → refused ≡ true)
    → (kind ≡ NoHeader) × LacksHeader MAX_LEVEL (consumed_lines p) × (is_macrocell (consumed_lines p) ≡ false)
end-kind p lines refused kind e m r (inl n) l s = (n, subst (LacksHeader MAX_LEVEL) (sym e) (l n), ap is_macrocell e ∙ m)
end-kind p lines refused kind e m r (inr t) l s = let u = s t in cc
