-- What is read in the words of the claims is a file in the layers below.
use Rattle.std.proofs.Common.{◌≡◌, ℕ, zero, suc, ◌+◌, ◌<◌, List, [], ◌∷◌, length, take, drop, map, Bool, true, false, cond, not, ◌&&◌, refl, ap, ◌∙◌, sym, arith, ◌⊎◌, inl, inr, true≢false, Option, Some, None, Result, Ok, Err, codes, slice_index, slice_index_or, slice_get, filter_map}
use Rattle.std.specs.List.{list_any, list_all, cons_option}
use Rattle.std.proofs.lemmas.Bool.{or_parts}
use Rattle.life_base.specs.Text.{lines_of, is_blank, begins_with, trim, is_digit_text, value_of, words_of}
use Rattle.life_base.specs.declared.kind.Kind.{Kind}
use Rattle.life_base.specs.declared.kind.Kind.TheVariants as kinds
use Rattle.life_base.specs.declared.fault.Fault.{Fault}
use Rattle.life_mc.specs.Macrocell.{Macrocell as LayerFile}
use Rattle.life_mc.specs.Reading.{AreMacrocell, broken_rule, rule_in_force, generation_in_force, squares_of, square_on, is_leaf, leaf_bytes, is_leaf_byte, quad_of_numbers}
use Rattle.life_mc.specs.declared.line.Line.{Line}
use Rattle.life_mc.specs.declared.line.Line.TheVariants.{Leaf}
use Rattle.life_rle.specs.Grammar.{IsSomeRle}
use Rattle.life_rle.proofs.DecidedLaw.{decided as rle_decided}
use Rattle.claims.specs.Pattern.{Pattern}
use Rattle.claims.specs.Files.{claimed_fault_at, macrocell_of, read_lines, end_of_rle}
use Rattle.claims.specs.Rle.{with_rle_line}
use Rattle.claims.specs.Counting.{is_claimed_node_line, has_leaves}
use Rattle.claims.proofs.McFile.{macrocell_refuses}
use Rattle.claims.proofs.RleFile.{rle_refuses, rle_lacks, begun}

not_both : {X : Type 0} (r : Result X Fault) (x : X) (fault : Fault) → r ≡ Ok x → r ≡ Err fault → ⊥
not_both (Ok y) x fault e f = cc
not_both (Err g) x fault e f = cc

-- the line breaks a rule
abbrev broken_at : List (List ℕ) → ℕ → Option Kind
broken_at lines k = broken_rule 62 (take k lines) (slice_index_or lines k [])

-- no line before m does, or one is the first that does
pub record FirstBroken (lines : List (List ℕ)) (m : ℕ) : Type 0 where
  pub k : ℕ
  pub below : k < m
  pub kind : Kind
  pub here : broken_rule 62 (take k lines) (slice_index_or lines k []) ≡ Some kind
  pub before : (i : ℕ) → i < k → broken_rule 62 (take i lines) (slice_index_or lines i []) ≡ None

more_unbroken : (lines : List (List ℕ)) (m : ℕ) → ((i : ℕ) → i < m → broken_at lines i ≡ None) → broken_at lines m ≡ None → (i : ℕ) → i < suc m
    → broken_at lines i ≡ None
more_unbroken lines m h e i l = elim (split i m (omega arith)) [ inl s ↦ h i s | inr s ↦ ap (broken_at lines) s ∙ e ]
  where
    split : (a b : ℕ) → a < suc b → (a < b) ⊎ (a ≡ b)
    split a b h = grind arith

search_broken : (lines : List (List ℕ)) (m : ℕ) → ((i : ℕ) → i < m → broken_at lines i ≡ None) ⊎ FirstBroken lines m
search_broken lines zero = inl (λ i h. absurd (omega arith))
search_broken lines (suc m) = by (search_broken lines m) (broken_at lines m) refl
  where
    by : ((i : ℕ) → i < m → broken_at lines i ≡ None) ⊎ FirstBroken lines m → (o : Option Kind) → broken_at lines m ≡ o
        → ((i : ℕ) → i < suc m → broken_at lines i ≡ None) ⊎ FirstBroken lines (suc m)
    by (inr f) o e = inr (record { k = f.k; below = let h = f.below in omega (arith, h); kind = f.kind; here = f.here; before = f.before })
    by (inl h) None e = inl (more_unbroken lines m h e)
    by (inl h) (Some kind) e = inr (record { k = m; below = omega arith; kind = kind; here = e; before = h })

pub macrocell_back : (lines : List (List ℕ)) (pattern : Pattern) → macrocell_of lines ≡ Ok pattern → (file : LayerFile) × AreMacrocell 62 lines file
macrocell_back [] pattern e = cc
macrocell_back (line ∷ lines) pattern e = elim (search_broken (line ∷ lines) (length (line ∷ lines))) [
  | inl h ↦ (
    record { rule = rule_in_force (line ∷ lines); generation = generation_in_force (line ∷ lines); lines = squares_of (line ∷ lines) },
    record { header = omega arith; unbroken = h; rule = refl; generation = refl; squares = refl },
  )
  | inr f ↦ absurd (not_both (macrocell_of (line ∷ lines)) pattern (claimed_fault_at (f.k + 1) f.kind) e
      (macrocell_refuses (line ∷ lines) f.k f.kind f.below f.before f.here))
]

pub rle_back : (lines : List (List ℕ)) (pattern : Pattern) → read_lines with_rle_line end_of_rle 1 begun lines ≡ Ok pattern → IsSomeRle 62 lines
rle_back lines pattern e = elim (rle_decided 62 lines).0 [
  | inl h ↦ h
  | inr (inl h) ↦ absurd (not_both (read_lines with_rle_line end_of_rle 1 begun lines) pattern (claimed_fault_at (1 + length lines) kinds.NoHeader) e
      (rle_lacks lines h.0 h.1))
  | inr (inr h) ↦
      absurd (not_both (read_lines with_rle_line end_of_rle 1 begun lines) pattern (claimed_fault_at (1 + length h.prefix) h.kind) e
      (ap (read_lines with_rle_line end_of_rle 1 begun) h.whole ∙ rle_refuses h.prefix h.rest h.line h.kind h.breaks))
]

-- ---- leaves

-- a line that gives a leaf is a leaf line
leaf_line : (line rows : List ℕ) → square_on line ≡ Some (Leaf rows) → (is_claimed_node_line line && is_leaf_byte (slice_index (trim line) 0)) ≡ true
leaf_line line rows e = by (not (is_blank line) && not (begins_with line (codes "#"))) (is_leaf_byte (slice_index (trim line) 0)) (is_leaf (trim line))
    (list_all is_digit_text (words_of (trim line))) e
  where
    no_quad : (numbers : List ℕ) → quad_of_numbers numbers ≡ Some (Leaf rows) → ⊥
    no_quad [] h = cc
    no_quad (a ∷ []) h = cc
    no_quad (a ∷ b ∷ []) h = cc
    no_quad (a ∷ b ∷ c ∷ []) h = cc
    no_quad (a ∷ b ∷ c ∷ d ∷ []) h = cc
    no_quad (a ∷ b ∷ c ∷ d ∷ e ∷ []) h = cc
    no_quad (a ∷ b ∷ c ∷ d ∷ e ∷ f ∷ numbers) h = cc

    by : (node first whole digits : Bool)
        → cond node (cond first (cond whole (Some (Leaf (leaf_bytes (trim line)))) None)
        (cond digits (quad_of_numbers (map value_of (words_of (trim line)))) None))
        None ≡ Some (Leaf rows)
        → (node && first) ≡ true
    by true true whole digits h = refl
    by true false whole true h = absurd (no_quad (map value_of (words_of (trim line))) h)
    by true false whole false h = cc
    by false first whole digits h = cc

no_leaf_in : (lines : List (List ℕ)) (i : ℕ) (rows : List ℕ) → list_any (λ line. is_claimed_node_line line && is_leaf_byte (slice_index (trim line) 0)) lines
    ≡ false
    → slice_get (filter_map square_on lines) i ≡ Some (Leaf rows) → ⊥
no_leaf_in [] i rows h e = cc
no_leaf_in (line ∷ lines) i rows h e =
    by (square_on line) refl i (λ j. no_leaf_in lines j rows (or_parts (is_claimed_node_line line && is_leaf_byte (slice_index (trim line) 0)) _ h).1) e
  where
    by : (o : Option Line) → square_on line ≡ o → (j : ℕ) → ((k : ℕ) → slice_get (filter_map square_on lines) k ≡ Some (Leaf rows) → ⊥)
        → slice_get (cons_option o (filter_map square_on lines)) j ≡ Some (Leaf rows) → ⊥
    by None f j below g = below j g
    by (Some found) f zero below g =
        true≢false (sym (leaf_line line rows (f ∙ g)) ∙ (or_parts (is_claimed_node_line line && is_leaf_byte (slice_index (trim line) 0))
        (list_any (λ l. is_claimed_node_line l && is_leaf_byte (slice_index (trim l) 0)) lines) h).0)
    by (Some found) f (suc j) below g = below j g

-- a file without leaf lines has no leaf
pub no_leaves : (bytes : List ℕ) (file : LayerFile) → AreMacrocell 62 (lines_of bytes) file → has_leaves bytes ≡ false → (index : ℕ) (rows : List ℕ)
    → ¬ (slice_get file.lines index ≡ Some (Leaf rows))
no_leaves bytes file are h i rows e = at (lines_of bytes) (ap (λ (t : List Line). slice_get t i) (sym are.squares) ∙ e) h
  where
    at : (lines : List (List ℕ)) → slice_get (squares_of lines) i ≡ Some (Leaf rows)
        → list_any (λ line. is_claimed_node_line line && is_leaf_byte (slice_index (trim line) 0)) (drop 1 lines) ≡ false → ⊥
    at [] g k = cc
    at (header ∷ lines) g k = no_leaf_in lines i rows k g
