-- The canonical file has no more node lines than any macrocell file of its pattern: each of its squares has a line of that file.
use Rattle.std.proofs.Common.{◌≡◌, ℕ, zero, suc, ◌+◌, ◌-◌, ◌<◌, ◌≤◌, Bool, true, false, ◌&&◌, List, [], ◌∷◌, ◌++◌, length, refl, ap, sym, ◌∙◌, subst, arith, ◌⊎◌, inl, inr, length-append, nat_lt, if◌then◌else◌, Some}
use Rattle.std.proofs.lemmas.Bool.{or_cases, or_left, or_right, and_right}
use Rattle.std.proofs.lemmas.Bool.Decides.{nat_tests}
use Rattle.life_base.specs.Tree.{Tree, quad, depth, blank, is_blank_tree as is_blank}
use Rattle.life_base.specs.declared.rule.Rule.{Rule}
use Rattle.life_base.specs.declared.rule.Rule.TheVariants.{Life, Named}
use Rattle.life_mc.specs.Macrocell.{Macrocell, IsValidMacrocell, level_of}
use Rattle.life_mc.specs.Cells.{macrocell_cell, root_level}
use Rattle.life_mc.specs.Squares.{line_tree, tree_of, root_tree}
use Rattle.life_mc.specs.declared.line.Line.{Line}
use Rattle.life_mc.specs.declared.line.Line.TheVariants.{Leaf, Quad}
use Rattle.life_mc.proofs.Squares.{lines_stand_for_squares}
use Rattle.life_pattern.specs.Universe.{Universe, IsSame, macrocell_universe, is_life, least_level, corner, centred_square, whole, IsBlankOutside, IsOnPlane}
use Rattle.life_writer.specs.Listing.{same_tree, is_small, walk, is_in, with_all, listed_squares, lines_for, canonical_file}
use Rattle.life_writer.specs.Least.{IsRival, IsLineOf, SquaresHaveNodeLines}
use Rattle.life_pattern.proofs.TreeWords.{HasDepth, point_depth, quad_depth, has_blank_border, middle, trim_times, trimmed_to as trimmed}
use Rattle.life_pattern.proofs.LineWords.{line_at, IsQuarter, IsValidLine}
use Rattle.life_pattern.proofs.LineFacts.{tree_of-line, get-line_at, squares-valid, root_level-last}
use Rattle.life_pattern.proofs.Trees.{centred-trimmed, centred-depth, outside-by, square-same, trim_times-once, trim_times-stop, blank-blank, blank-depth, bool_cases, depth_is}
use Rattle.life_writer.proofs.SameTrees.{same_tree-refl, same_tree-true}
use Rattle.life_writer.proofs.ListFacts.{is_in-left, is_in-right, is_in-append_cases, is_in-one, NoRepeats, no_longer}
use Rattle.life_writer.proofs.Walk.{le-more, listed-walk, listed-once, walk-small, walk-big, walk-level, walk-cases, WalkCase, root_case, nw_case, ne_case, sw_case, se_case}
use Rattle.life_writer.proofs.Content.{not_small, length-lines_for}
use Rattle.life_pattern.proofs.Whole.{least-one, rooted, root-most, no-lines, least-high, whole-is, whole-trimmed}
use Rattle.life_pattern.proofs.Planes.{full-depth}
use Rattle.life_writer.proofs.Canonical.{listed-last, listed-blank, nowhere, nowhere-zero, centred-nowhere}
use Rattle.life_base.proofs.Basics.{le_or_lt, lt_or_eq, less_one, true_false}
use Rattle.life_pattern.proofs.Formats.{sum_back}

-- the square of line i, by its own level
pub line_square : List Line → ℕ → Tree
line_square lines i = tree_of lines (level_of (line_at lines i)) (suc i)

-- the squares of the first n lines, the newest first
pub line_squares : List Line → ℕ → List Tree
line_squares lines zero = []
line_squares lines (suc n) = line_square lines n ∷ line_squares lines n

line_squares-length : (lines : List Line) (n : ℕ) → length (line_squares lines n) ≡ n
unfolding line_squares
line_squares-length lines zero = refl
line_squares-length lines (suc n) = ap suc (line_squares-length lines n)

line_squares-has : (lines : List Line) (n i : ℕ) → i < n → is_in (line_squares lines n) (line_square lines i) ≡ true
unfolding line_squares
line_squares-has lines zero i h = absurd (omega arith)
line_squares-has lines (suc n) i h = elim (lt_or_eq i n h) [
  | inl l ↦ or_right (same_tree (line_square lines n) (line_square lines i)) _ (line_squares-has lines n i l)
  | inr e ↦ or_left _ _ (subst (λ v. same_tree (line_square lines n) (line_square lines v) ≡ true) (sym e) (same_tree-refl (line_square lines n)))
]

line_squares-more : (lines : List Line) (n j : ℕ) (t : Tree) → j ≤ n → is_in (line_squares lines j) t ≡ true → is_in (line_squares lines n) t ≡ true
unfolding line_squares
line_squares-more lines zero j t h i = let e : j ≡ 0 = omega arith in subst (λ v. is_in (line_squares lines v) t ≡ true) e i
line_squares-more lines (suc n) j t h i = elim (lt_or_eq j (suc n) (omega arith)) [
  | inl l ↦ or_right (same_tree (line_square lines n) t) _ (line_squares-more lines n j t (omega arith) i)
  | inr e ↦ subst (λ v. is_in (line_squares lines v) t ≡ true) e i
]

shallow-small : (m k : ℕ) (t : Tree) → HasDepth k t → k < m → is_small m t ≡ true
shallow-small m k t h l = let e : depth t ≡ k = depth_is h in let c : nat_lt (depth t) m ≡ true = grind (arith, nat_tests) in or_right (is_blank t) _ c

shallow-none : (m k : ℕ) (t s : Tree) → HasDepth k t → k < m → is_in (walk t m) s ≡ true → ⊥
shallow-none m k t s h l i = true_false false (rw (walk-small t m (shallow-small m k t h l)) at i) refl

-- a square of depth m has no other square in its walk
pub least-walk : (m : ℕ) {k : ℕ} {t : Tree} (s : Tree) → HasDepth k t → k ≤ m → is_in (walk t m) s ≡ true → s ≡ t
least-walk m s point_depth l i = absurd (true_false false i refl)
least-walk m s (quad_depth {k = k} {nw = a} {ne = b} {sw = c} {se = d} p q r u) l i = elim (walk-cases a b c d m s i) [
  | root_case e ↦ e
  | nw_case j ↦ absurd (shallow-none m k a s p l j)
  | ne_case j ↦ absurd (shallow-none m k b s q l j)
  | sw_case j ↦ absurd (shallow-none m k c s r l j)
  | se_case j ↦ absurd (shallow-none m k d s u l j)
]

-- no line is a leaf
abbrev pub NoLeaves : List Line → Type 0
NoLeaves lines = (i : ℕ) → i < length lines → (rows : List ℕ) → ¬ (line_at lines i ≡ Leaf rows)

-- the walk over a line's square meets squares of lines alone
walk-line : (m : ℕ) (f : Macrocell) (k j : ℕ) (line : Line) → ((rows : List ℕ) → line ≡ Leaf rows → 3 ≤ m)
    → level_of line ≡ suc k → HasDepth (suc k) (line_tree (tree_of f.lines k) line) → is_in (line_squares f.lines (suc j)) (line_tree (tree_of f.lines k) line)
    ≡ true
    → (top : ℕ) → IsValidLine top f.rule f.lines j line
    → ((number : ℕ) → IsQuarter f.rule f.lines j k number → (t : Tree) → is_in (walk (tree_of f.lines k number) m) t ≡ true
    → is_in (line_squares f.lines j) t ≡ true)
    → (t : Tree) → is_in (walk (line_tree (tree_of f.lines k) line) m) t ≡ true → is_in (line_squares f.lines (suc j)) t ≡ true
walk-line m f k j (Leaf rows) leaves e h itself top v below t i =
    let le : 3 ≤ m = leaves rows refl in
    let s : t ≡ line_tree (tree_of f.lines k) (Leaf rows) = least-walk m t h (omega arith) i in
    subst (λ u. is_in (line_squares f.lines (suc j)) u ≡ true) (sym s) itself
walk-line m f k j (Quad level a b c d) leaves e h itself top v below t i =
    let g : level - 1 ≡ k = ap (λ n. n - 1) e ∙ less_one k in
    let go = λ (number : ℕ) (q : IsQuarter f.rule f.lines j (level - 1) number) (w : is_in (walk (tree_of f.lines k number) m) t ≡ true).
    line_squares-more f.lines (suc j) j t (omega arith) (below number (subst (λ n. IsQuarter f.rule f.lines j n number) g q) t w) in
    elim (walk-cases (tree_of f.lines k a) (tree_of f.lines k b) (tree_of f.lines k c) (tree_of f.lines k d) m t i) [
      | root_case s ↦ subst (λ u. is_in (line_squares f.lines (suc j)) u ≡ true) (sym s) itself
      | nw_case w ↦ go a v.2 w
      | ne_case w ↦ go b v.3 w
      | sw_case w ↦ go c v.4 w
      | se_case w ↦ go d v.5 w
    ]

line_squares-at : (lines : List Line) (n i : ℕ) → i < n → is_in (line_squares lines n) (tree_of lines (level_of (line_at lines i)) (suc i)) ≡ true
unfolding line_square
line_squares-at lines n i h = line_squares-has lines n i h

-- the square of a number has its level
number-depth : (top : ℕ) (f : Macrocell) → IsValidMacrocell top f → (k i number : ℕ) → i ≤ length f.lines → IsQuarter f.rule f.lines i k number
    → HasDepth k (tree_of f.lines k number)
number-depth top f v zero i number l q = point_depth
number-depth top f v (suc k) i zero l q = blank-depth (suc k)
number-depth top f v (suc k) i (suc j) l (inl e) = absurd (omega arith)
number-depth top f v (suc k) i (suc j) l (inr c) =
    let b : j < length f.lines = omega arith in
    let e : level_of (line_at f.lines j) ≡ suc k = subst (λ n. level_of (line_at f.lines n) ≡ suc k) (less_one j) c.2 in
    let s = (lines_stand_for_squares top f v).each (suc j) (line_at f.lines j) (get-line_at f.lines j b) in
    subst (λ n. HasDepth n (tree_of f.lines n (suc j))) e
    (subst (λ n. HasDepth n (tree_of f.lines (level_of (line_at f.lines j)) (suc j))) s.depth_is (full-depth _ s.full))

-- the walk over a child's square meets squares of lines alone
walk-lines : (top m : ℕ) (f : Macrocell) → IsValidMacrocell top f → (3 ≤ m) ⊎ NoLeaves f.lines → (k i number : ℕ) → i ≤ length f.lines
    → IsQuarter f.rule f.lines i k number
    → (t : Tree) → is_in (walk (tree_of f.lines k number) m) t ≡ true → is_in (line_squares f.lines i) t ≡ true
walk-lines top m f v leaves zero i number l q t h = absurd (true_false false h refl)
walk-lines top m f v leaves (suc k) i zero l q t h = absurd
    (true_false false (rw (walk-small (blank (suc k)) m (or_left _ _ (blank-blank (suc k)))) at h) refl)
walk-lines top m f v leaves (suc k) i (suc j) l q t h = elim q [
  | inl e ↦ absurd (omega arith)
  | inr c ↦
      let b : j < length f.lines = omega arith in
      let e : level_of (line_at f.lines j) ≡ suc k = subst (λ n. level_of (line_at f.lines n) ≡ suc k) (less_one j) c.2 in
      let form : tree_of f.lines (suc k) (suc j) ≡ line_tree (tree_of f.lines k) (line_at f.lines j) = tree_of-line f.lines k j b in
      let deep : HasDepth (suc k) (line_tree (tree_of f.lines k) (line_at f.lines j)) = subst (HasDepth (suc k)) form
      (number-depth top f v (suc k) i (suc j) l (inr c)) in
      let itself : is_in (line_squares f.lines (suc j)) (tree_of f.lines (suc k) (suc j)) ≡ true =
      subst (λ n. is_in (line_squares f.lines (suc j)) (tree_of f.lines n (suc j)) ≡ true) e (line_squares-at f.lines (suc j) j (omega arith)) in
      line_squares-more f.lines i (suc j) t (omega arith)
      (walk-line m f k j (line_at f.lines j)
      (λ rows r. elim leaves [ inl g ↦ g | inr g ↦ absurd (g j b rows r) ])
      e deep (subst (λ u. is_in (line_squares f.lines (suc j)) u ≡ true) form itself) top (squares-valid top f.rule f.lines v.squares j b)
      (λ number w u x. walk-lines top m f v leaves k j number (omega arith) w u x) t (subst (λ u. is_in (walk u m) t ≡ true) form h))
]

-- ---- the walk of a trimmed square

le_from : (a b : ℕ) → a ≡ b → a ≤ b
le_from a b h = omega arith

lt_from : (a b c : ℕ) → a ≤ b → c ≡ suc b → a < c
lt_from a b c h e = omega arith

lt_le : (a b c : ℕ) → a < b → b ≤ c → a < c
lt_le a b c p q = omega arith

not_less : (a b : ℕ) → a < b → b ≡ a → ⊥
not_less a b p q = omega arith

walked-big : (t : Tree) (m : ℕ) (s : Tree) → is_in (walk t m) s ≡ true → is_small m t ≡ false
walked-big t m s h = elim (bool_cases (is_small m t)) [
  | inl e ↦ absurd (true_false false (rw (walk-small t m e) at h) refl)
  | inr e ↦ e
]

record IsBig (m k : ℕ) (t : Tree) : Type 0 where
  shown : is_blank t ≡ false
  deep : m ≤ k

big-parts : (m k : ℕ) (t : Tree) → depth t ≡ k → is_small m t ≡ false → IsBig m k t
big-parts m k t e h = record { shown = grind (arith, nat_tests); deep = grind (arith, nat_tests) }

and_first : (a b : Bool) → a ≡ false → (a && b) ≡ false
and_first a b h = grind arith

-- the walk of a quarter is part of the walk
module _ (a b c d : Tree) (m : ℕ) (t : Tree) where
  into-nw : is_small m (quad a b c d) ≡ false → is_in (walk a m) t ≡ true → is_in (walk (quad a b c d) m) t ≡ true
  into-nw s h = rw (walk-big a b c d m s) (is_in-left (walk a m) _ t h)

  into-ne : is_small m (quad a b c d) ≡ false → is_in (walk b m) t ≡ true → is_in (walk (quad a b c d) m) t ≡ true
  into-ne s h = rw (walk-big a b c d m s) (is_in-right (walk a m) _ t (is_in-left (walk b m) _ t h))

  into-sw : is_small m (quad a b c d) ≡ false → is_in (walk c m) t ≡ true → is_in (walk (quad a b c d) m) t ≡ true
  into-sw s h = rw (walk-big a b c d m s) (is_in-right (walk a m) _ t (is_in-right (walk b m) _ t (is_in-left (walk c m) _ t h)))

  into-se : is_small m (quad a b c d) ≡ false → is_in (walk d m) t ≡ true → is_in (walk (quad a b c d) m) t ≡ true
  into-se s h = rw (walk-big a b c d m s) (is_in-right (walk a m) _ t (is_in-right (walk b m) _ t (is_in-right (walk c m) _ t (is_in-left (walk d m) _ t h))))

module _ {k : ℕ} {a b c d : Tree} (p : HasDepth k a) (q : HasDepth k b) (r : HasDepth k c) (s : HasDepth k d) (m : ℕ) (t : Tree) where
  quad-big : (is_blank a && is_blank b && is_blank c && is_blank d) ≡ false → m ≤ k → is_small m (quad a b c d) ≡ false
  quad-big h l = not_small m (quad a b c d) (suc k) (depth_is (quad_depth p q r s)) (le-more m k l) h

  from-nw : is_in (walk a m) t ≡ true → is_in (walk (quad a b c d) m) t ≡ true
  from-nw h = let v = big-parts m k a (depth_is p) (walked-big a m t h) in
      into-nw a b c d m t (quad-big (and_first _ _ (and_first _ _ (and_first _ _ v.shown))) v.deep) h

  from-ne : is_in (walk b m) t ≡ true → is_in (walk (quad a b c d) m) t ≡ true
  from-ne h = let v = big-parts m k b (depth_is q) (walked-big b m t h) in
      into-ne a b c d m t (quad-big (and_first _ _ (and_first _ _ (and_right (is_blank a) _ v.shown))) v.deep) h

  from-sw : is_in (walk c m) t ≡ true → is_in (walk (quad a b c d) m) t ≡ true
  from-sw h = let v = big-parts m k c (depth_is r) (walked-big c m t h) in
      into-sw a b c d m t (quad-big (and_first _ _ (and_right (is_blank a && is_blank b) _ v.shown)) v.deep) h

  from-se : is_in (walk d m) t ≡ true → is_in (walk (quad a b c d) m) t ≡ true
  from-se h = let v = big-parts m k d (depth_is s) (walked-big d m t h) in
      into-se a b c d m t (quad-big (and_right (is_blank a && is_blank b && is_blank c) _ v.shown) v.deep) h

record IsInner (m : ℕ) (root trim t : Tree) : Type 0 where
  in_root : is_in (walk root m) t ≡ true
  less : depth t < depth trim

-- the depth of a trimmed square
depth-trim : (n : ℕ) {k : ℕ} {root : Tree} → HasDepth k root → n < k → depth (trim_times n root) ≤ k
depth-trim zero h l = le_from _ _ (depth_is h)
depth-trim (suc n) point_depth l = absurd (omega arith)
depth-trim (suc n) (quad_depth {nw = a} {ne = b} {sw = c} {se = d} point_depth q r s) l = absurd (omega arith)
depth-trim (suc n) {root = root} (quad_depth (quad_depth {k = k} a b c d) (quad_depth e f g h) (quad_depth i j o p) (quad_depth q r s t)) l =
    elim (bool_cases (has_blank_border root)) [
      | inl u ↦ subst (λ v. depth v ≤ suc (suc k)) (sym (trim_times-once n root u)) (le-more _ _ (depth-trim n (quad_depth d g j q) (omega arith)))
      | inr u ↦ subst (λ v. depth v ≤ suc (suc k)) (sym (trim_times-stop (suc n) root u))
          (le_from _ _ (depth_is (quad_depth (quad_depth a b c d) (quad_depth e f g h) (quad_depth i j o p) (quad_depth q r s t))))
    ]

trim-none : (m : ℕ) {k : ℕ} {root : Tree} → HasDepth k root → (t : Tree) → is_in (walk root m) t ≡ true → (t ≡ root) ⊎ IsInner m root root t
trim-none m point_depth t i = absurd (true_false false i refl)
trim-none m (quad_depth {k = k} {nw = a} {ne = b} {sw = c} {se = d} p q r s) t i =
    let e : depth (quad a b c d) ≡ suc k = depth_is (quad_depth p q r s) in
    elim (walk-cases a b c d m t i) [
      | root_case u ↦ inl u
      | nw_case u ↦ inr (record { in_root = i; less = lt_from _ _ _ (walk-level m t p u) e })
      | ne_case u ↦ inr (record { in_root = i; less = lt_from _ _ _ (walk-level m t q u) e })
      | sw_case u ↦ inr (record { in_root = i; less = lt_from _ _ _ (walk-level m t r u) e })
      | se_case u ↦ inr (record { in_root = i; less = lt_from _ _ _ (walk-level m t s u) e })
    ]

walk-cases_of : {k : ℕ} {a b c d : Tree} → HasDepth k a → HasDepth k b → HasDepth k c → HasDepth k d → (m : ℕ) (t : Tree)
    → is_in (walk (quad a b c d) m) t ≡ true → WalkCase a b c d m t
walk-cases_of {a = a} {b = b} {c = c} {d = d} p q r s m t h = walk-cases a b c d m t h

-- the walk of the middle, without the middle itself, is part of the walk
middle-walk : (m : ℕ) {k : ℕ} {root : Tree} → HasDepth (suc (suc k)) root → (t : Tree) → is_in (walk (middle root) m) t ≡ true → depth t < suc k
    → is_in (walk root m) t ≡ true
middle-walk m {k = k} (quad_depth (quad_depth a b c d) (quad_depth e f g h) (quad_depth i j o p) (quad_depth q r s u)) t w l =
    let nw = quad_depth a b c d in let ne = quad_depth e f g h in let sw = quad_depth i j o p in let se = quad_depth q r s u in
    elim (walk-cases_of d g j q m t w) [
      | root_case x ↦ absurd (not_less _ _ l (sym (ap depth x ∙ depth_is (quad_depth d g j q))))
      | nw_case x ↦ from-nw nw ne sw se m t (from-se a b c d m t x)
      | ne_case x ↦ from-ne nw ne sw se m t (from-sw e f g h m t x)
      | sw_case x ↦ from-sw nw ne sw se m t (from-ne i j o p m t x)
      | se_case x ↦ from-se nw ne sw se m t (from-nw q r s u m t x)
    ]

trim-walk : (m n : ℕ) {k : ℕ} {root : Tree} → HasDepth k root → n < k → (t : Tree) → is_in (walk (trim_times n root) m) t ≡ true → (t ≡ trim_times n root)
    ⊎ IsInner m root (trim_times n root) t
trim-walk m zero h l t i = trim-none m h t i
trim-walk m (suc n) point_depth l t i = absurd (omega arith)
trim-walk m (suc n) (quad_depth {nw = a} {ne = b} {sw = c} {se = d} point_depth q r s) l t i = absurd (omega arith)
trim-walk m (suc n) {root = root} (quad_depth (quad_depth {k = k} a b c d) (quad_depth e f g h) (quad_depth i j o p) (quad_depth q r s u)) l t w =
    let hr : HasDepth (suc (suc k)) root = quad_depth (quad_depth a b c d) (quad_depth e f g h) (quad_depth i j o p) (quad_depth q r s u) in
    let hm : HasDepth (suc k) (middle root) = quad_depth d g j q in
    elim (bool_cases (has_blank_border root)) [
      | inl x ↦
          let same = trim_times-once n root x in
          let w' : is_in (walk (trim_times n (middle root)) m) t ≡ true = subst (λ v. is_in (walk v m) t ≡ true) same w in
          subst (λ v. (t ≡ v) ⊎ IsInner m root v t) (sym same)
          (elim (trim-walk m n hm (omega arith) t w') [
            | inl y ↦ inl y
            | inr y ↦ inr (record { in_root = middle-walk m hr t y.in_root (lt_le _ _ _ y.less (depth-trim n hm (omega arith))); less = y.less })
          ])
      | inr x ↦
          let same = trim_times-stop (suc n) root x in
          subst (λ v. (t ≡ v) ⊎ IsInner m root v t) (sym same) (trim-none m hr t (subst (λ v. is_in (walk v m) t ≡ true) same w))
    ]

-- ---- the least file

not_in : (xs : List Tree) (t : Tree) → (is_in xs t ≡ true → ⊥) → is_in xs t ≡ false
not_in xs t h = elim (bool_cases (is_in xs t)) [ inl e ↦ absurd (h e) | inr e ↦ e ]

once-prefix : (xs ys : List Tree) → NoRepeats (xs ++ ys) → NoRepeats xs
once-prefix [] ys h = tt
once-prefix (x ∷ xs) ys h = (not_in xs x (λ i. true_false _ (is_in-left xs ys x i) h.0), once-prefix xs ys h.1)

listed-small : (t : Tree) (m : ℕ) → is_small m t ≡ true → listed_squares t m ≡ []
unfolding listed_squares
listed-small t m h = ap (with_all []) (walk-small t m h)

pub quarter-last : (top : ℕ) (f : Macrocell) → IsValidMacrocell top f → 0 < length f.lines → IsQuarter f.rule f.lines (length f.lines) (root_level f.lines)
    (length f.lines)
quarter-last top f v h =
    let r = rooted top f v h in
    subst (λ n. IsQuarter f.rule f.lines (length f.lines) n (length f.lines)) (sym r.is)
    (inr (h, omega arith, sym (root_level-last f.lines h) ∙ r.is))

-- ---- the number of a square's line

-- the greatest number of a line whose square this is, among the first n
line_number : List Line → ℕ → Tree → ℕ
line_number lines zero t = 0
line_number lines (suc n) t = if same_tree (line_square lines n) t then suc n else line_number lines n t

record IsNumbered (lines : List Line) (n : ℕ) (t : Tree) : Type 0 where
  index : ℕ
  below : index < n
  is : line_number lines n t ≡ suc index
  square : line_square lines index ≡ t

numbered : (lines : List Line) (n : ℕ) (t : Tree) → is_in (line_squares lines n) t ≡ true → IsNumbered lines n t
unfolding line_squares line_number
numbered lines zero t h = absurd (true_false false h refl)
numbered lines (suc n) t h = elim (bool_cases (same_tree (line_square lines n) t)) [
  | inl e ↦ record { index = n; below = omega arith; is = rw e refl; square = same_tree-true _ t e }
  | inr e ↦ elim (or_cases (same_tree (line_square lines n) t) (is_in (line_squares lines n) t) h) [
    | inl i ↦ absurd (true_false _ i e)
    | inr i ↦ let r = numbered lines n t i in record { index = r.index; below = omega (arith, r.below); is = (rw e refl) ∙ r.is; square = r.square }
  ]
]

-- a line's square has the line's level
line_square-depth : (top : ℕ) (f : Macrocell) → IsValidMacrocell top f → (i : ℕ) → i < length f.lines → depth (line_square f.lines i)
    ≡ level_of (line_at f.lines i)
unfolding line_square
line_square-depth top f v i h = ((lines_stand_for_squares top f v).each (suc i) (line_at f.lines i) (get-line_at f.lines i h)).depth_is

line_square-own : (top : ℕ) (f : Macrocell) → IsValidMacrocell top f → (i : ℕ) (t : Tree) → i < length f.lines → line_square f.lines i ≡ t
    → IsLineOf f t (suc i)
unfolding line_square
line_square-own top f v i t h e =
    let d : depth t ≡ level_of (line_at f.lines i) = ap depth (sym e) ∙ line_square-depth top f v i h in
    record { line = line_at f.lines i; is = get-line_at f.lines i h; level = sym d; square = ap (λ n. tree_of f.lines n (suc i)) d ∙ e }

root-square : (f : Macrocell) → 0 < length f.lines → line_square f.lines (length f.lines - 1) ≡ root_tree f.lines
unfolding line_square
root-square f h =
    let i : suc (length f.lines - 1) ≡ length f.lines = omega arith in
    ap (λ n. tree_of f.lines n (suc (length f.lines - 1))) (sym (root_level-last f.lines h)) ∙ ap (tree_of f.lines (root_level f.lines)) i

-- ---- the squares of a trimmed root, where the root has level m or more

record IsTrimmedList (f : Macrocell) (w : Tree) (m : ℕ) : Type 0 where
  prefix : List Tree
  is : listed_squares w m ≡ prefix ++ w ∷ []
  once : NoRepeats prefix
  of_lines : (t : Tree) → is_in prefix t ≡ true → is_in (line_squares f.lines (length f.lines)) t ≡ true
  no_root : is_in prefix (root_tree f.lines) ≡ false

deep-list : (top m : ℕ) (f : Macrocell) → IsValidMacrocell top f → (3 ≤ m) ⊎ NoLeaves f.lines → 1 ≤ m → 0 < length f.lines → m ≤ root_level f.lines
    → {j : ℕ} {w : Tree} → HasDepth j w → w ≡ trimmed (root_tree f.lines) m → is_small m w ≡ false → IsTrimmedList f w m
unfolding trimmed
deep-list top m f v leaves le h deep {w = w} hw e s =
    let k = root_level f.lines in
    let n = length f.lines in
    let r : Tree = root_tree f.lines in
    let ro = rooted top f v h in
    let hr : HasDepth k r = subst (λ z. HasDepth z r) (sym ro.is) ro.depth_of in
    let dr : depth r ≡ k = depth_is hr in
    let few : depth r - m < k = omega (arith, ro.is) in
    let last = listed-last m le hw s in
    let q : IsQuarter f.rule f.lines n k n = quarter-last top f v h in
    let inner : (t : Tree) → is_in last.prefix t ≡ true → IsInner m r (trim_times (depth r - m) r) t = λ t z.
    let z' : is_in (walk w m) t ≡ true = listed-walk w m t (subst (λ l. is_in l t ≡ true) (sym last.is) (is_in-left last.prefix (w ∷ []) t z)) in
    let c : (t ≡ trim_times (depth r - m) r) ⊎ IsInner m r (trim_times (depth r - m) r) t = trim-walk m (depth r - m) hr few t
    (subst (λ x. is_in (walk x m) t ≡ true) e z') in
    (elim c [
      | inl x ↦ absurd (true_false _ (subst (λ y. is_in last.prefix y ≡ true) (x ∙ sym e) z) last.fresh)
      | inr x ↦ x
    ]) in
    record {
      prefix = last.prefix;
      is = last.is;
      once = once-prefix last.prefix (w ∷ []) (subst NoRepeats last.is (listed-once w m));
      of_lines = λ t z. walk-lines top m f v leaves k n n (le_from n n refl) q t (inner t z).in_root;
      no_root = not_in last.prefix r (λ z. not_less _ _ (lt_le _ _ _ (inner r z).less (depth-trim (depth r - m) hr few)) (sym dr));
    }

-- where the root has a level of at most m, the list has at most one square
low-list : (m : ℕ) {w : Tree} → 1 ≤ m → HasDepth m w → (t : Tree) → is_in (listed_squares w m) t ≡ true → t ≡ w
low-list m {w = w} le hw t z = least-walk m t hw (le_from m m refl) (listed-walk w m t z)

none_left : (a b : ℕ) → a ≡ b → a - b ≡ 0
none_left a b h = omega arith

trimmed-least : (m : ℕ) (t : Tree) → HasDepth m t → trimmed t m ≡ t
unfolding trimmed
trimmed-least m t h = let e : depth t - m ≡ 0 = none_left (depth t) m (depth_is h) in ap (λ n. trim_times n t) e

-- the trimmed form of a valid file's cells: that of its root, or all of level m
record IsFromRoot (f : Macrocell) (top m : ℕ) : Type 0 where
  shape : ((m ≤ root_level f.lines) × (trimmed (centred_square (macrocell_cell f) top) m ≡ trimmed (root_tree f.lines) m))
      ⊎ (trimmed (centred_square (macrocell_cell f) top) m ≡ centred_square (macrocell_cell f) m)

from_root : (top m : ℕ) (f : Macrocell) → 3 ≤ suc top → 1 ≤ m → m ≤ suc top → IsValidMacrocell (suc top) f → 0 < length f.lines → IsFromRoot f (suc top) m
from_root top m f high le most v h =
    let g = macrocell_cell f in
    let k = root_level f.lines in
    let r = rooted (suc top) f v h in
    let top_k : k ≤ suc top = root-most (suc top) f high v h in
    let j = r.level in
    let e : k ≡ suc j = r.is in
    let out : IsBlankOutside (suc j) g = r.outside in
    record {
      shape = elim (le_or_lt m k) [
        | inl d ↦ inl (
          d,
          ap (λ n. trimmed (centred_square g n) m) (sym (sum_back k j top e top_k))
              ∙ centred-trimmed g m (top - j) j le (subst (λ n. m ≤ n) e d) out
              ∙ ap (λ t. trimmed t m) r.cells,
        )
        | inr d ↦
            let i = m - 1 in
            let u : m ≡ suc i = omega arith in
            let w : suc ((i - j) + j) ≡ suc i = sum_back (suc j) j i refl (omega (arith, e)) in
            let out' : IsBlankOutside (suc i) g = subst (λ n. IsBlankOutside n g) w (outside-by g (i - j) j out) in
            inr (ap (λ n. trimmed (centred_square g n) m) (sym (sum_back m i top u most))
            ∙ centred-trimmed g m (top - i) i le (omega arith) out'
            ∙ ap (λ n. trimmed (centred_square g n) m) (sym u)
            ∙ trimmed-least m (centred_square g m) (centred-depth g m))
      ];
    }

life_leaves : (rule : Rule) (lines : List Line) → (is_life rule ≡ true) ⊎ NoLeaves lines → (3 ≤ least_level rule) ⊎ NoLeaves lines
life_leaves (Life sets) lines h = inl (omega arith)
life_leaves (Named name) lines (inl e) = absurd (true_false _ e refl)
life_leaves (Named name) lines (inr n) = inr n

rival-leaves : (u : Universe) (f : Macrocell) → u.rule ≡ f.rule → IsRival f → (is_life u.rule ≡ true) ⊎ NoLeaves f.lines
rival-leaves u f e (inl l) = inl (ap is_life e ∙ l)
rival-leaves u f e (inr n) = inr (λ i h rows is. n i rows (get-line_at f.lines i h ∙ ap Some is))

-- ---- each square of the list has a line

record IsLine (f : Macrocell) (w t : Tree) (number : ℕ) : Type 0 where
  some : 1 ≤ number
  most : number ≤ length f.lines

no_lines-blank : (top : ℕ) (u : Universe) (f : Macrocell) → least_level u.rule ≤ suc top → IsOnPlane (suc top) u → IsSame u (macrocell_universe f)
    → length f.lines ≡ 0
    → listed_squares (whole (suc top) u) (least_level u.rule) ≡ []
unfolding centred_square
no_lines-blank top u f le h same z =
    let w = whole-is top u le h in
    let b : whole (suc top) u ≡ blank (suc w.level) =
    w.is ∙ square-same u.cell nowhere (λ x y. same.cells x y ∙ no-lines f z x y ∙ sym (nowhere-zero x y)) (suc w.level) (corner (suc w.level))
    (corner (suc w.level)) ∙ centred-nowhere (suc w.level) in
    listed-blank (whole (suc top) u) (least_level u.rule) (ap is_blank b ∙ blank-blank (suc w.level))

place_for : Macrocell → Tree → Tree → ℕ
place_for f w t = if same_tree t w then length f.lines else line_number f.lines (length f.lines) t

place_for-root : (f : Macrocell) (w t : Tree) → same_tree t w ≡ true → place_for f w t ≡ length f.lines
unfolding place_for
place_for-root f w t h = rw h refl

place_for-own : (f : Macrocell) (w t : Tree) → same_tree t w ≡ false → place_for f w t ≡ line_number f.lines (length f.lines) t
unfolding place_for
place_for-own f w t h = rw h refl

-- the squares of the list but its last stand for lines of their own, none of them the root's
record AreApart (f : Macrocell) (w : Tree) (m : ℕ) : Type 0 where
  others : (t : Tree) → is_in (listed_squares w m) t ≡ true → same_tree t w ≡ false → is_in (line_squares f.lines (length f.lines)) t ≡ true
  no_root : (t : Tree) → is_in (listed_squares w m) t ≡ true → same_tree t w ≡ false → root_tree f.lines ≡ t → ⊥
  few : length (listed_squares w m) ≤ length f.lines

line_squares-root : (f : Macrocell) → 0 < length f.lines → is_in (line_squares f.lines (length f.lines)) (root_tree f.lines) ≡ true
line_squares-root f h = subst (λ t. is_in (line_squares f.lines (length f.lines)) t ≡ true) (root-square f h)
    (line_squares-has f.lines (length f.lines) (length f.lines - 1) (omega arith))

apart-deep : (f : Macrocell) (w : Tree) (m : ℕ) → 0 < length f.lines → IsTrimmedList f w m → AreApart f w m
apart-deep f w m some l = record {
  others = λ t z n. l.of_lines t (in_prefix t z n);
  no_root = λ t z n e. true_false _ (subst (λ y. is_in l.prefix y ≡ true) (sym e) (in_prefix t z n)) l.no_root;
  few =
      let all : (t : Tree) → is_in (root_tree f.lines ∷ l.prefix) t ≡ true → is_in (line_squares f.lines (length f.lines)) t ≡ true =
      λ t z. elim (or_cases (same_tree (root_tree f.lines) t) (is_in l.prefix t) z) [
        | inl x ↦ subst (λ y. is_in (line_squares f.lines (length f.lines)) y ≡ true) (same_tree-true _ t x) (line_squares-root f some)
        | inr x ↦ l.of_lines t x
      ] in
      let long : length (root_tree f.lines ∷ l.prefix) ≤ length (line_squares f.lines (length f.lines)) = no_longer (root_tree f.lines ∷ l.prefix)
      (line_squares f.lines (length f.lines)) (l.no_root, l.once) all in
      let a : length (listed_squares w m) ≡ length l.prefix + 1 = ap length l.is ∙ length-append l.prefix (w ∷ []) in
      let b : length (line_squares f.lines (length f.lines)) ≡ length f.lines = line_squares-length f.lines (length f.lines) in
      omega arith;
}
  where
    in_prefix : (t : Tree) → is_in (listed_squares w m) t ≡ true → same_tree t w ≡ false → is_in l.prefix t ≡ true
    in_prefix t z n = elim (is_in-append_cases l.prefix (w ∷ []) t (subst (λ y. is_in y t ≡ true) l.is z)) [
      | inl i ↦ i
      | inr i ↦ absurd (true_false _ (ap (λ y. same_tree y w) (sym (is_in-one w t i)) ∙ same_tree-refl w) n)
    ]

apart-low : (f : Macrocell) (w : Tree) (m : ℕ) → 0 < length f.lines → 1 ≤ m → HasDepth m w → AreApart f w m
apart-low f w m some le h = record {
  others = λ t z n. absurd (never t z n);
  no_root = λ t z n e. absurd (never t z n);
  few = at_most (no_longer (listed_squares w m) (w ∷ []) (listed-once w m)
      (λ t z. subst (λ y. is_in (w ∷ []) y ≡ true) (sym (low-list m le h t z)) (or_left _ _ (same_tree-refl w))));
}
  where
    never : (t : Tree) → is_in (listed_squares w m) t ≡ true → same_tree t w ≡ false → ⊥
    never t z n = true_false _ (ap (λ y. same_tree y w) (low-list m le h t z) ∙ same_tree-refl w) n

    at_most : length (listed_squares w m) ≤ 1 → length (listed_squares w m) ≤ length f.lines
    at_most l = omega arith

apart-small : (f : Macrocell) (w : Tree) (m : ℕ) → is_small m w ≡ true → AreApart f w m
apart-small f w m s = record { others = λ t z n. absurd (never t z); no_root = λ t z n e. absurd (never t z); few = rw (listed-small w m s) (omega arith) }
  where
    never : (t : Tree) → is_in (listed_squares w m) t ≡ true → ⊥
    never t z = true_false false (subst (λ l. is_in l t ≡ true) (listed-small w m s) z) refl

apart : (top : ℕ) (u : Universe) (f : Macrocell) → 3 ≤ suc top → IsOnPlane (suc top) u → IsValidMacrocell (suc top) f → IsSame u (macrocell_universe f)
    → IsRival f
    → 0 < length f.lines
    → AreApart f (whole (suc top) u) (least_level u.rule)
unfolding centred_square
apart top u f high h v same rival l =
    let m = least_level u.rule in
    let le = least-high u.rule (suc top) high in
    let wi = whole-is top u le h in
    let w = whole (suc top) u in
    let e : w ≡ trimmed (centred_square (macrocell_cell f) (suc top)) m =
    whole-trimmed (suc top) u ∙ ap (λ x. trimmed x m) (square-same u.cell (macrocell_cell f) same.cells (suc top) (corner (suc top)) (corner (suc top))) in
    elim (bool_cases (is_small m w)) [
      | inl s ↦ apart-small f w m s
      | inr s ↦ elim ((from_root top m f high (least-one u.rule) le v l).shape) [
        | inl a ↦ apart-deep f w m l (deep-list (suc top) m f v (life_leaves u.rule f.lines (rival-leaves u f same.rule rival)) (least-one u.rule) l a.0
            wi.depth_of (e ∙ a.1) s)
        | inr a ↦ apart-low f w m l (least-one u.rule) (subst (HasDepth m) (sym (e ∙ a)) (centred-depth (macrocell_cell f) m))
      ]
    ]

-- the squares of the list have lines, no two of them one line
pub has-places : (top : ℕ) (u : Universe) (f : Macrocell) → 3 ≤ suc top → IsOnPlane (suc top) u → IsValidMacrocell (suc top) f → IsSame u (macrocell_universe f)
    → IsRival f → SquaresHaveNodeLines (suc top) u f
has-places top u f high h v same rival = elim (le_or_lt 1 (length f.lines)) [
  | inl l ↦
      let w = whole (suc top) u in
      let m = least_level u.rule in
      let n = length f.lines in
      let ap_ = apart top u f high h v same rival l in
      record {
        line_for = place_for f w;
        within = λ t z. elim (bool_cases (same_tree t w)) [
          | inl e ↦ rw (place_for-root f w t e) (l, le_from n n refl)
          | inr e ↦ let r = numbered f.lines n t (ap_.others t z e) in rw (place_for-own f w t e, r.is) (omega arith, omega (arith, r.below))
        ];
        root = λ z. place_for-root f w w (same_tree-refl w);
        own = λ t z other. elim (bool_cases (same_tree t w)) [
          | inl e ↦ absurd (other (same_tree-true t w e))
          | inr e ↦ let r = numbered f.lines n t (ap_.others t z e) in
              rw (place_for-own f w t e, r.is) (line_square-own (suc top) f v r.index t r.below r.square)
        ];
        apart = λ s t y z e. elim (bool_cases (same_tree s w)) [
          | inl p ↦ elim (bool_cases (same_tree t w)) [
            | inl q ↦ same_tree-true s w p ∙ sym (same_tree-true t w q)
            | inr q ↦ absurd (ap_.no_root t z q
                (root-line f t l (numbered f.lines n t (ap_.others t z q)) (sym (place_for-own f w t q) ∙ sym e ∙ place_for-root f w s p)))
          ]
          | inr p ↦ elim (bool_cases (same_tree t w)) [
            | inl q ↦ absurd (ap_.no_root s y p
                (root-line f s l (numbered f.lines n s (ap_.others s y p)) (sym (place_for-own f w s p) ∙ e ∙ place_for-root f w t q)))
            | inr q ↦
                let a = numbered f.lines n s (ap_.others s y p) in
                let b = numbered f.lines n t (ap_.others t z q) in
                let next : suc a.index ≡ suc b.index = sym a.is ∙ sym (place_for-own f w s p) ∙ e ∙ place_for-own f w t q ∙ b.is in
                let i : a.index ≡ b.index = omega arith in
                sym a.square ∙ ap (line_square f.lines) i ∙ b.square
          ]
        ];
      }
  | inr l ↦
      let none : listed_squares (whole (suc top) u) (least_level u.rule)
      ≡ [] = no_lines-blank top u f (least-high u.rule (suc top) high) h same (omega arith) in
      let never : (t : Tree) → is_in (listed_squares (whole (suc top) u) (least_level u.rule)) t ≡ true
      → ⊥ = λ t z. true_false false (subst (λ y. is_in y t ≡ true) none z) refl in
      record {
        line_for = λ t. 0;
        within = λ t z. absurd (never t z);
        root = λ z. absurd (never _ z);
        own = λ t z o. absurd (never t z);
        apart = λ s t y z e. absurd (never s y);
      }
]
  where
    root-line : (f : Macrocell) (t : Tree) → 1 ≤ length f.lines → IsNumbered f.lines (length f.lines) t → line_number f.lines (length f.lines) t
        ≡ length f.lines → root_tree f.lines ≡ t
    root-line f t l r e =
        let i : length f.lines - 1 ≡ r.index = omega (arith, r.is, e) in
        sym (root-square f l) ∙ ap (line_square f.lines) i ∙ r.square

-- the canonical file has no more lines
pub least : (top : ℕ) (u : Universe) (f : Macrocell) → 3 ≤ suc top → IsOnPlane (suc top) u → IsValidMacrocell (suc top) f → IsSame u (macrocell_universe f)
    → IsRival f
    → length (canonical_file (suc top) u).lines ≤ length f.lines
unfolding canonical_file
least top u f high h v same rival =
    let m = least_level u.rule in
    let w = whole (suc top) u in
    let n : length (lines_for u.rule (listed_squares w m)) ≡ length (listed_squares w m) = length-lines_for u.rule (listed_squares w m) in
    let few : length (listed_squares w m) ≤ length f.lines = elim (le_or_lt 1 (length f.lines)) [
      | inl l ↦ (apart top u f high h v same rival l).few
      | inr l ↦ subst (λ y. length y ≤ length f.lines) (sym (no_lines-blank top u f (least-high u.rule (suc top) high) h same (omega arith))) (omega arith)
    ] in
    rw n few
