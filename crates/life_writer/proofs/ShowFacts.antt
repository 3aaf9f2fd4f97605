-- The five lines of a pattern: its least box, and how many cells and node lines it has.
use Rattle.std.proofs.Common.{◌≡◌, ◌≢◌, ℕ, suc, ◌+◌, ◌-◌, ◌^◌, ◌≤◌, Bool, true, false, cond, List, [], ◌++◌, length, codes, append_assoc, refl, ap, sym, ◌∙◌, subst, arith, ℤ, pos, neg_ℤ, ◌+ℤ◌, ◌≤ℤ◌, ◌<ℤ◌, Option, Some, None, MatchOption, IfSome, decimal}
use Rattle.std.specs.Fmt.{signed_decimal}
use Rattle.std.proofs.Math.Pow.{pow_mono}
use Rattle.std.proofs.lemmas.Int.{ints}
use Rattle.life_base.specs.Tree.{Tree, depth, blank, state_at, tree_cell, is_blank_tree as is_blank, IsFull}
use Rattle.life_base.specs.declared.cell.TheConstants.{MAX_LEVEL}
use Rattle.life_quad.specs.Cells.{IsBoundingBoxOfTree as IsLeastBoxOf, population}
use Rattle.life_quad.specs.Store.{Nodes}
use Rattle.life_quad.proofs.LawLemmas.{known_squares_are_full}
use Rattle.life_base.specs.declared.bounds.Bounds.{Bounds}
use Rattle.life_rle.specs.Written.{box_side}
use Rattle.life_pattern.specs.Universe.{corner, IsWithin}
use Rattle.life_writer.specs.Listing.{canonical_file}
use Rattle.life_pattern.specs.Store.{content, IsRead, universe_in}
use Rattle.life_writer.specs.Texts.{IsBoxOf, AreOrdered, IsShownText, box_text, show_text}
use Rattle.life_pattern.specs.declared.pattern.Pattern.{Pattern}
use Rattle.life_pattern.proofs.TreeWords.{HasDepth}
use Rattle.life_pattern.proofs.Trees.{is_blank-blank}
use Rattle.life_pattern.proofs.Planes.{full-depth, tree_cell-outside}
use Rattle.life_writer.proofs.Canonical.{same-canonical}
use Rattle.life_writer.proofs.CellFacts.{inside}
use Rattle.life_writer.proofs.TextFacts.{cells-read, root-cells}
use Rattle.life_pattern.proofs.Fits.{read-same}
use Rattle.life_base.proofs.Basics.{double}
use Rattle.life_base.proofs.Squares.{state_at-blank}

-- ---- the sides of a box of the plane

within-bounds : (k : ℕ) (x : ℤ) → k ≤ 61 → IsWithin (suc k) x → (neg_ℤ (pos (2 ^ 61)) ≤ℤ x) × (x <ℤ pos (2 ^ 61))
unfolding corner
within-bounds k x le h = bounds (2 ^ k) (2 ^ 61) (2 ^ suc k) (pow_mono le) (double k) h.0 h.1
  where
    bounds : (m n w : ℕ) → m ≤ n → w ≡ m + m → neg_ℤ (pos m) ≤ℤ x → x <ℤ (neg_ℤ (pos m) +ℤ pos w) → (neg_ℤ (pos n) ≤ℤ x) × (x <ℤ pos n)
    bounds m n w le e low high = (omega (arith, ints), omega (arith, ints))

cell-bounds : (k : ℕ) (t : Tree) → HasDepth (suc k) t → k ≤ 61 → (x y : ℤ) → tree_cell t x y ≢ 0
    → ((neg_ℤ (pos (2 ^ 61)) ≤ℤ x) × (x <ℤ pos (2 ^ 61))) × ((neg_ℤ (pos (2 ^ 61)) ≤ℤ y) × (y <ℤ pos (2 ^ 61)))
cell-bounds k t h le x y some =
    let w = inside (tree_cell t) (suc k) x y (tree_cell-outside h) some in
    (within-bounds k x le w.0, within-bounds k y le w.1)

box-ordered : (k : ℕ) (t : Tree) → HasDepth (suc k) t → k ≤ 61 → (box : Bounds) → IsLeastBoxOf t box → AreOrdered box
box-ordered k t h le box b =
    let left = cell-bounds k t h le box.left b.at_left.0 b.at_left.1 in
    let right = cell-bounds k t h le box.right b.at_right.0 b.at_right.1 in
    let top = cell-bounds k t h le b.at_top.0 box.top b.at_top.1 in
    let bottom = cell-bounds k t h le b.at_bottom.0 box.bottom b.at_bottom.1 in
    record {
      columns = record { least = left.0.0; order = (b.inside box.left b.at_left.0 b.at_left.1).1; most = right.0.1 };
      rows = record { least = top.1.0; order = (b.inside b.at_top.0 box.top b.at_top.1).3; most = bottom.1.1 };
    }

pub found-ordered : (t : Tree) → IsFull t → 1 ≤ depth t → depth t ≤ MAX_LEVEL → (found : Option Bounds) → MatchOption found (is_blank t ≡ true) (IsLeastBoxOf t)
    → IfSome found AreOrdered
found-ordered t full high low None h = tt
found-ordered t full high low (Some box) h =
    let d : depth t ≡ suc (depth t - 1) = omega arith in
    box-ordered (depth t - 1) t (subst (λ n. HasDepth n t) d (full-depth t full)) (omega arith) box h

-- ---- the box of a square is that of its cells

blank-cells : (k : ℕ) (t : Tree) → HasDepth k t → is_blank t ≡ true → (x y : ℤ) → tree_cell t x y ≡ 0
blank-cells k t h b x y = subst (λ s. tree_cell s x y ≡ 0) (sym (is_blank-blank h b)) (none (blank k) (λ i j. state_at-blank k i j))
  where
    choose : (b : Bool) (n : ℕ) → n ≡ 0 → cond b n 0 ≡ 0
    choose true n e = e
    choose false n e = refl

    none : (s : Tree) → ((i j : ℕ) → state_at s i j ≡ 0) → tree_cell s x y ≡ 0
    none s e = choose _ _ (e _ _)

box-of : (f : ℤ → ℤ → ℕ) (t : Tree) → IsFull t → ((x y : ℤ) → f x y ≡ tree_cell t x y) → (found : Option Bounds)
    → MatchOption found (is_blank t ≡ true) (IsLeastBoxOf t) → IsBoxOf f found
box-of f t full same None h = λ x y. same x y ∙ blank-cells (depth t) t (full-depth t full) h x y
box-of f t full same (Some box) h = record {
  inside = λ x y some. h.inside x y (λ e. some (same x y ∙ e));
  at_left = (h.at_left.0, λ e. h.at_left.1 (sym (same box.left h.at_left.0) ∙ e));
  at_right = (h.at_right.0, λ e. h.at_right.1 (sym (same box.right h.at_right.0) ∙ e));
  at_top = (h.at_top.0, λ e. h.at_top.1 (sym (same h.at_top.0 box.top) ∙ e));
  at_bottom = (h.at_bottom.0, λ e. h.at_bottom.1 (sym (same h.at_bottom.0 box.bottom) ∙ e));
}

-- ---- the five lines

pub is-shown : (bytes : List ℕ) (store : Nodes) (pattern : Pattern) → IsRead MAX_LEVEL bytes store pattern → (box : Option Bounds)
    → MatchOption box (is_blank (content store pattern.root) ≡ true) (IsLeastBoxOf (content store pattern.root))
    → (nodes : ℕ) (text : List ℕ) → text ≡ show_text pattern.rule pattern.generation (population (content store pattern.root)) box nodes
    → nodes ≡ length (canonical_file MAX_LEVEL (universe_in store pattern)).lines → IsShownText MAX_LEVEL bytes text
is-shown bytes store pattern r box found nodes text e n =
    let t = content store pattern.root in
    let full = (known_squares_are_full store pattern.root r.is.known.0).0 in
    let s = read-same bytes store pattern r in
    let u = r.universe in
    let list = root-cells bytes store pattern r in
    let cells = list.0 in
    let l : population t ≡ length cells = sym list.2 in
    let m : nodes ≡ length (canonical_file MAX_LEVEL u).lines = n ∙ ap (λ f. length f.lines) (sym (same-canonical MAX_LEVEL u (universe_in store pattern) s)) in
    record {
      universe = u;
      reads = r.reads;
      cells = cells;
      are = cells-read bytes store pattern r cells list.1;
      box = box;
      least = box-of u.cell t full s.cells box found;
      is =
          e ∙ ap (λ q. show_text q pattern.generation (population t) box nodes) r.is.rule
          ∙ ap (λ g. show_text u.rule g (population t) box nodes) r.is.generation
          ∙ ap (λ c. show_text u.rule u.generation c box nodes) l
          ∙ ap (show_text u.rule u.generation (length cells) box) m;
    }

-- ---- texts piece by piece

nine : (o a b c d e f g h i : List ℕ) → o ++ a ++ b ++ c ++ d ++ e ++ f ++ g ++ h ++ i ≡ o ++ (a ++ b ++ c ++ d ++ e ++ f ++ g ++ h ++ i)
nine o a b c d e f g h i = simp append_assoc

pub box-text : (o0 o1 o2 o3 o4 o5 o6 o7 : List ℕ) (found : Option Bounds) (box : Bounds) (columns rows : ℕ) → found ≡ Some box
    → o1 ≡ o0 ++ codes "box " → o2 ≡ o1 ++ signed_decimal box.left ++ codes " " → o3 ≡ o2 ++ signed_decimal box.top ++ codes " "
    → columns ≡ box_side box.left box.right → o4 ≡ o3 ++ decimal columns → o5 ≡ o4 ++ codes " "
    → rows ≡ box_side box.top box.bottom → o6 ≡ o5 ++ decimal rows → o7 ≡ o6 ++ codes "\n" → o7 ≡ o0 ++ box_text found
box-text o0 o1 o2 o3 o4 o5 o6 o7 found box columns rows is e1 e2 e3 w e4 e5 h e6 e7 =
    let sl = signed_decimal box.left in
    let st = signed_decimal box.top in
    let f2 : o2 ≡ o0 ++ codes "box " ++ sl ++ codes " " = e2 ∙ ap (λ o. o ++ sl ++ codes " ") e1 in
    let f3 : o3 ≡ o0 ++ codes "box " ++ sl ++ codes " " ++ st ++ codes " " = e3 ∙ ap (λ o. o ++ st ++ codes " ") f2 in
    let f4 : o4 ≡ o0 ++ codes "box " ++ sl ++ codes " " ++ st ++ codes " " ++ decimal columns = e4 ∙ ap (λ o. o ++ decimal columns) f3 in
    let f5 : o5 ≡ o0 ++ codes "box " ++ sl ++ codes " " ++ st ++ codes " " ++ decimal columns ++ codes " " = e5 ∙ ap (λ o. o ++ codes " ") f4 in
    let f6 : o6 ≡ o0 ++ codes "box " ++ sl ++ codes " " ++ st ++ codes " " ++ decimal columns ++ codes " " ++ decimal rows = e6
    ∙ ap (λ o. o ++ decimal rows) f5 in
    e7 ∙ ap (λ o. o ++ codes "\n") f6
    ∙ nine o0 (codes "box ") sl (codes " ") st (codes " ") (decimal columns) (codes " ") (decimal rows) (codes "\n")
    ∙ ap (λ n. o0 ++ (codes "box " ++ sl ++ codes " " ++ st ++ codes " " ++ decimal n ++ codes " " ++ decimal rows ++ codes "\n")) w
    ∙ ap (λ n. o0 ++ (codes "box " ++ sl ++ codes " " ++ st ++ codes " " ++ decimal (box_side box.left box.right) ++ codes " " ++ decimal n ++ codes "\n")) h
    ∙ ap (λ f. o0 ++ box_text f) (sym is)

five : (r g p b n : List ℕ)
    → [] ++ codes "rule " ++ r ++ codes "\n" ++ codes "generation " ++ g ++ codes "\n" ++ codes "population " ++ p ++ codes "\n" ++ b ++ codes "nodes " ++ n
    ++ codes "\n"
    ≡ codes "rule " ++ r ++ codes "\ngeneration " ++ g ++ codes "\npopulation " ++ p ++ codes "\n" ++ b ++ codes "nodes " ++ n ++ codes "\n"
five r g p b n = simp append_assoc

pub five-text : (o0 o1 o2 o3 o4 o5 r g p b n : List ℕ) → o0 ≡ [] → o1 ≡ o0 ++ codes "rule " ++ r ++ codes "\n" → o2 ≡ o1 ++ codes "generation " ++ g
    ++ codes "\n"
    → o3 ≡ o2 ++ codes "population " ++ p ++ codes "\n" → o4 ≡ o3 ++ b → o5 ≡ o4 ++ codes "nodes " ++ n ++ codes "\n"
    → o5 ≡ codes "rule " ++ r ++ codes "\ngeneration " ++ g ++ codes "\npopulation " ++ p ++ codes "\n" ++ b ++ codes "nodes " ++ n ++ codes "\n"
five-text o0 o1 o2 o3 o4 o5 r g p b n e0 e1 e2 e3 e4 e5 =
    let f1 : o1 ≡ [] ++ codes "rule " ++ r ++ codes "\n" = e1 ∙ ap (λ o. o ++ codes "rule " ++ r ++ codes "\n") e0 in
    let f2 = e2 ∙ ap (λ o. o ++ codes "generation " ++ g ++ codes "\n") f1 in
    let f3 = e3 ∙ ap (λ o. o ++ codes "population " ++ p ++ codes "\n") f2 in
    let f4 = e4 ∙ ap (λ o. o ++ b) f3 in
    e5 ∙ ap (λ o. o ++ codes "nodes " ++ n ++ codes "\n") f4 ∙ five r g p b n
