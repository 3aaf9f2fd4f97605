-- The texts of squares with cells in their south-eastern quarters alone.
use Rattle.std.proofs.Common.{◌≡◌, inl, inr, ℕ, zero, suc, ◌+◌, ◌/◌, ◌%◌, ◌<◌, ◌≤◌, Bool, true, false, ◌&&◌, ◌||◌, List, [], ◌∷◌, ◌++◌, length, map, if◌then◌else◌, ◌==◌, refl, sym, ap, ◌∙◌, subst, arith, true≢false, flat_map, lit≤, append-nil, append_assoc}
use Rattle.std.proofs.lemmas.Bool.Decides.{nat_tests}
use Rattle.std.proofs.lemmas.List.{map-append, length-map}
use Rattle.std.proofs.lemmas.Grind.{flat_map-append}
use Rattle.life_base.specs.Tree.{Tree, point, quad, depth, blank, is_blank_tree}
use Rattle.life_base.specs.declared.rule.Rule.{Rule}
use Rattle.life_mc.specs.Writing.{header_lines_text, node_text}
use Rattle.life_mc.specs.declared.line.Line.{Line}
use Rattle.life_mc.specs.declared.line.Line.TheVariants.{Leaf, Quad}
use Rattle.life_base.proofs.Squares.{depth-blank, is_blank-blank}
use Rattle.life_writer.specs.Listing.{line_of, is_in, listed_squares, number_of_quarter, place, quad_line, rows_of, same_tree, square_text, walk, with_all, with_new}
use Rattle.life_pattern.specs.Universe.{is_life, least_level}
use Rattle.life_quad.specs.Store.{eight, four as four_of}
use Rattle.life_forms.specs.Corners.{leaf_line, with_leaf, seated}
use Rattle.life_forms.proofs.LeafFacts.{blank-is-small, full-walk, is-big, last-live, leaf-line, leaf-walk, no-walk, text-of-leaf}
use Rattle.life_writer.proofs.ListFacts.{is_in-append_cases, is_in-last, is_in-one, place-append, place-last, with_all-append, with_new-fresh, with_new-has}
use Rattle.life_pattern.proofs.Trees.{bool_cases}
use Rattle.life_writer.proofs.SameTrees.{same_tree-refl}

-- ---- leaves

-- a square of level 3, all of whose walk it is, if it isn't blank
pub record IsLeafTree (t : Tree) : Type 0 where
  pub level : depth t ≡ 3
  pub alone : is_blank_tree t ≡ false → walk t 3 ≡ t ∷ []

-- the walk over such a square adds it to a list, if it isn't blank
leaf-listed : (known : List Tree) (t : Tree) → IsLeafTree t → with_all known (walk t 3) ≡ with_leaf known t
leaf-listed known t is = elim (bool_cases (is_blank_tree t)) [
  | inl e ↦ ap (with_all known) (no-walk t (blank-is-small t e)) ∙ rw e refl
  | inr e ↦ ap (with_all known) (is.alone e) ∙ rw e refl
]

-- ---- levels of a list

-- each square of a list is of such a level
abbrev HasLevels : (ℕ → Type 0) → List Tree → Type 0
HasLevels P known = (t : Tree) → is_in known t ≡ true → P (depth t)

absent : (P : ℕ → Type 0) (known : List Tree) (t : Tree) → HasLevels P known → ¬ P (depth t) → is_in known t ≡ false
absent P known t levels other = elim (bool_cases (is_in known t)) [
  | inl e ↦ absurd (other (levels t e))
  | inr e ↦ e
]

behind-levels : (P : ℕ → Type 0) (known : List Tree) (t : Tree) → HasLevels P known → P (depth t) → HasLevels P (known ++ t ∷ [])
behind-levels P known t levels here s h = elim (is_in-append_cases known (t ∷ []) s h) [
  | inl e ↦ levels s e
  | inr e ↦ subst (λ (u : Tree). P (depth u)) (is_in-one t s e) here
]

new-levels : (P : ℕ → Type 0) (known : List Tree) (t : Tree) → HasLevels P known → P (depth t) → HasLevels P (with_leaf known t)
new-levels P known t levels here = elim (bool_cases (is_blank_tree t)) [
  | inl e ↦ (rw e levels)
  | inr e ↦ (elim (bool_cases (is_in known t)) as (λ _. HasLevels P (with_leaf known t)) [
    | inl f ↦ rw e (rw f levels)
    | inr f ↦ rw e (rw f (behind-levels P known t levels here))
  ])
]

none-levels : (P : ℕ → Type 0) → HasLevels P []
none-levels P t h = absurd (true≢false (sym h))

-- ---- numbers

-- what is before a list stays at its place
abbrev Begins : List Tree → List Tree → Type 0
Begins known all = (rest : List Tree) × (all ≡ known ++ rest)

begins-leaf : (known : List Tree) (t : Tree) → Begins known (with_leaf known t)
begins-leaf known t = elim (bool_cases (is_blank_tree t)) [
  | inl e ↦ ([], rw e (sym (append-nil known)))
  | inr e ↦ elim (bool_cases (is_in known t)) as (λ _. Begins known (with_leaf known t)) [
    | inl f ↦ ([], rw (e, f) (sym (append-nil known)))
    | inr f ↦ (t ∷ [], rw (e, f) refl)
  ]
]

begins-on : (a b c : List Tree) → Begins a b → Begins b c → Begins a c
begins-on a b c first second =
    (first.0 ++ second.0, second.1 ∙ ap (λ l. l ++ second.0) first.1 ∙ append_assoc a first.0 second.0)

number-of : (all : List Tree) (t : Tree) (n : ℕ) → depth t ≡ suc n → number_of_quarter all t ≡ (if is_blank_tree t then 0 else suc (place all t))
number-of all (point s) n e = absurd (omega (arith, e))
number-of all (quad a b c d) n e = refl

-- the number of a leaf is the same in each list that begins so
number-stays : (known all : List Tree) (t : Tree) (n : ℕ) → depth t ≡ suc n → Begins (with_leaf known t) all
    → number_of_quarter all t ≡ number_of_quarter (with_leaf known t) t
number-stays known all t n level begins =
    number-of all t n level ∙ same ∙ sym (number-of (with_leaf known t) t n level)
  where
    same : (if is_blank_tree t then 0 else suc (place all t)) ≡ (if is_blank_tree t then 0 else suc (place (with_leaf known t) t))
    same = elim (bool_cases (is_blank_tree t)) [
      | inl e ↦ rw e refl
      | inr e ↦
          (let list : with_leaf known t ≡ with_new known t = rw e refl in
          let there : is_in (with_leaf known t) t ≡ true = subst (λ (l : List Tree). is_in l t ≡ true) (sym list) (with_new-has known t) in
          let stays : place all t ≡ place (with_leaf known t) t =
          ap (λ (l : List Tree). place l t) begins.1 ∙ place-append (with_leaf known t) begins.0 t there in
          ap (λ (p : ℕ). if is_blank_tree t then 0 else suc p) stays)
    ]

-- ---- lines

quad-line-is : (rule : Rule) (all : List Tree) (t : Tree) → 3 < depth t → line_of rule all t ≡ quad_line all t
quad-line-is rule all t high = by (is_life rule)
  where
    by : (life : Bool) → (if life && depth t == 3 then Leaf (rows_of t) else quad_line all t) ≡ quad_line all t
    by false = refl
    by true = grind (arith, nat_tests, high)

or-true : (a b : Bool) → b ≡ true → (a || b) ≡ true
or-true true b e = refl
or-true false b e = e

in-rest : (t : Tree) (ts : List Tree) (s : Tree) → is_in ts s ≡ true → is_in (t ∷ ts) s ≡ true
in-rest t ts s h = or-true (same_tree t s) (is_in ts s) h

-- the lines of leaves
leaf-lines : (rule : Rule) → is_life rule ≡ true → (all known : List Tree) → ((t : Tree) → is_in known t ≡ true → depth t ≡ 3)
    → map (line_of rule all) known ≡ map (λ t. Leaf (rows_of t)) known
leaf-lines rule life all [] levels = refl
leaf-lines rule life all (t ∷ ts) levels =
    λ i. leaf-line rule life all t (levels t (rw (same_tree-refl t) refl)) i ∷ leaf-lines rule life all ts (λ s h. levels s (in-rest t ts s h)) i

-- a blank quarter has the number 0
blank-number : (all : List Tree) (j : ℕ) → 3 ≤ j → number_of_quarter all (blank j) ≡ 0
blank-number all zero high = refl
blank-number all (suc k) high = let blank-is = is_blank-blank (suc k) in rw blank-is refl

-- ---- squares with cells in their south-eastern quarter alone

module _ (j : ℕ) (high : 3 ≤ j) (t : Tree) (live : is_blank_tree t ≡ false) (known : List Tree) (listed : with_all [] (walk t 3) ≡ known)
    (levels : HasLevels (λ n. n ≤ j) known) where
  abbrev root : Tree
  root = quad (blank j) (blank j) (blank j) t

  root-level : depth root ≡ suc j
  root-level = ap suc (depth-blank j)

  root-live : is_blank_tree root ≡ false
  root-live = last-live (is_blank_tree (blank j)) (is_blank_tree (blank j)) (is_blank_tree (blank j)) (is_blank_tree t) live

  root-walk : walk root 3 ≡ walk t 3 ++ root ∷ []
  root-walk =
      let none : walk (blank j) 3 ≡ [] = no-walk (blank j) (blank-is-small (blank j) (is_blank-blank j)) in
      let level = root-level in
      full-walk (blank j) (blank j) (blank j) t (is-big root root-live (omega (arith, level, high)))
      ∙ (λ i. none i ++ (none i ++ (none i ++ (walk t 3 ++ root ∷ []))))

  -- it comes last in its own list
  root-list : listed_squares root 3 ≡ known ++ root ∷ []
  unfolding listed_squares
  root-list =
      let level = root-level in
      ap (with_all []) root-walk ∙ with_all-append [] (walk t 3) (root ∷ []) ∙ ap (λ (l : List Tree). with_new l root) listed
      ∙ with_new-fresh known root (absent (λ n. n ≤ j) known root levels (λ low. omega (arith, level, low)))

  root-line : (rule : Rule) (all : List Tree) → line_of rule all root ≡ Quad (suc j) 0 0 0 (number_of_quarter all t)
  root-line rule all =
      let level = root-level in
      let none : number_of_quarter all (blank j) ≡ 0 = blank-number all j high in
      quad-line-is rule all root (omega (arith, level, high)) ∙ (λ i. Quad (level i) (none i) (none i) (none i) (number_of_quarter all t))

  root-text : (rule : Rule) → is_life rule ≡ true → least_level rule ≡ 3 → (generation : ℕ)
      → square_text rule generation root
      ≡ header_lines_text rule generation ++ (flat_map node_text (map (line_of rule (known ++ root ∷ [])) known)
      ++ node_text (Quad (suc j) 0 0 0 (number_of_quarter (known ++ root ∷ []) t)))
  root-text rule life low generation =
      let all = known ++ root ∷ [] in
      let line = line_of rule all in
      ap (λ (n : ℕ). header_lines_text rule generation ++ flat_map node_text (map (line_of rule (listed_squares root n)) (listed_squares root n))) low
      ∙ ap (λ (l : List Tree). header_lines_text rule generation ++ flat_map node_text (map (line_of rule l) l)) root-list
      ∙ ap (λ (lines : List Line). header_lines_text rule generation ++ flat_map node_text lines) (map-append line known (root ∷ []))
      ∙ ap (λ (text : List ℕ). header_lines_text rule generation ++ text) (flat_map-append node_text (map line known) (line root ∷ []))
      ∙ ap (λ (text : List ℕ). header_lines_text rule generation ++ (flat_map node_text (map line known) ++ text)) (append-nil (node_text (line root)))
      ∙ ap (λ (l : Line). header_lines_text rule generation ++ (flat_map node_text (map line known) ++ node_text l)) (root-line rule all)

module _ (rule : Rule) (life : is_life rule ≡ true) (low : least_level rule ≡ 3) (generation : ℕ) where
  abbrev header : List ℕ
  header = header_lines_text rule generation

  -- a leaf alone
  pub eight-text : (f : Tree) → IsLeafTree f → is_blank_tree f ≡ false
      → square_text rule generation (seated f) ≡ header ++ (node_text (Leaf (rows_of f)) ++ node_text (Quad 4 0 0 0 1))
  eight-text f leaf live =
      let root = quad (blank 3) (blank 3) (blank 3) f in
      let all = f ∷ root ∷ [] in
      let listed : with_all [] (walk f 3) ≡ f ∷ [] = ap (with_all []) (leaf.alone live) in
      let level = leaf.level in
      let levels : HasLevels (λ n. n ≤ 3) (f ∷ []) = (λ t h. subst (λ (u : Tree). depth u ≤ 3) (is_in-one f t h) (omega (arith, level))) in
      let number : number_of_quarter all f ≡ 1 = number-of all f 2 level ∙ (rw (live, same_tree-refl f) refl) in
      (λ i. square_text rule generation (quad (blank (level i)) (blank (level i)) (blank (level i)) f))
      ∙ root-text 3 (lit≤ tt) f live (f ∷ []) listed levels rule life low generation
      ∙ (λ i. header ++ ((node_text (leaf-line rule life all f level i) ++ []) ++ node_text (Quad 4 0 0 0 (number i))))
      ∙ ap (λ (text : List ℕ). header ++ (text ++ node_text (Quad 4 0 0 0 1))) (append-nil (node_text (Leaf (rows_of f))))

  -- four leaves, each in the list of those before it
  module _ (a b c d : Tree) (la : IsLeafTree a) (lb : IsLeafTree b) (lc : IsLeafTree c) (ld : IsLeafTree d) (live : is_blank_tree (quad a b c d) ≡ false) where
    abbrev square : Tree
    square = quad a b c d

    abbrev one : List Tree
    one = with_leaf [] a

    abbrev two : List Tree
    two = with_leaf one b

    abbrev three : List Tree
    three = with_leaf two c

    abbrev four : List Tree
    four = with_leaf three d

    square-level : depth square ≡ 4
    square-level = ap suc la.level

    four-levels : HasLevels (λ n. n ≡ 3) four
    four-levels = let P = λ (n : ℕ). n ≡ 3 in
        new-levels P three d (new-levels P two c (new-levels P one b (new-levels P [] a (none-levels P) la.level) lb.level) lc.level) ld.level

    square-listed : with_all [] (walk square 3) ≡ four ++ square ∷ []
    square-listed =
        let level = square-level in
        ap (with_all []) (full-walk a b c d (is-big square live (omega (arith, level))))
        ∙ with_all-append [] (walk a 3) (walk b 3 ++ (walk c 3 ++ (walk d 3 ++ square ∷ [])))
        ∙ ap (λ (l : List Tree). with_all l (walk b 3 ++ (walk c 3 ++ (walk d 3 ++ square ∷ [])))) (leaf-listed [] a la)
        ∙ with_all-append one (walk b 3) (walk c 3 ++ (walk d 3 ++ square ∷ []))
        ∙ ap (λ (l : List Tree). with_all l (walk c 3 ++ (walk d 3 ++ square ∷ []))) (leaf-listed one b lb)
        ∙ with_all-append two (walk c 3) (walk d 3 ++ square ∷ [])
        ∙ ap (λ (l : List Tree). with_all l (walk d 3 ++ square ∷ [])) (leaf-listed two c lc)
        ∙ with_all-append three (walk d 3) (square ∷ [])
        ∙ ap (λ (l : List Tree). with_all l (square ∷ [])) (leaf-listed three d ld)
        ∙ with_new-fresh four square (absent (λ n. n ≡ 3) four square four-levels (λ low. omega (arith, level, low)))

    known-levels : HasLevels (λ n. n ≤ 4) (four ++ square ∷ [])
    known-levels =
        let level = square-level in
        behind-levels (λ n. n ≤ 4) four square (λ t h. let leaf = four-levels t h in omega (arith, leaf)) (omega (arith, level))

    abbrev whole : Tree
    whole = quad (blank 4) (blank 4) (blank 4) square

    abbrev all : List Tree
    all = (four ++ square ∷ []) ++ whole ∷ []

    all-begins : Begins four all
    all-begins = (square ∷ (whole ∷ []), append_assoc four (square ∷ []) (whole ∷ []))

    fourth : number_of_quarter all d ≡ number_of_quarter four d
    fourth = number-stays three all d 2 ld.level all-begins

    third : number_of_quarter all c ≡ number_of_quarter three c
    third = number-stays two all c 2 lc.level (begins-on three four all (begins-leaf three d) all-begins)

    two-begins : Begins two all
    two-begins = begins-on two three all (begins-leaf two c) (begins-on three four all (begins-leaf three d) all-begins)

    second : number_of_quarter all b ≡ number_of_quarter two b
    second = number-stays one all b 2 lb.level two-begins

    first : number_of_quarter all a ≡ number_of_quarter one a
    first = number-stays [] all a 2 la.level (begins-on one two all (begins-leaf one b) two-begins)

    last : number_of_quarter all square ≡ suc (length four)
    last =
        let there : is_in (four ++ square ∷ []) square ≡ true = is_in-last four square in
        let fresh : is_in four square ≡ false =
        (let level = square-level in absent (λ n. n ≡ 3) four square four-levels (λ low. omega (arith, level, low))) in
        (rw live refl) ∙ ap suc (place-append (four ++ square ∷ []) (whole ∷ []) square there ∙ place-last four square fresh)

    square-line : line_of rule all square
        ≡ Quad 4 (number_of_quarter one a) (number_of_quarter two b) (number_of_quarter three c) (number_of_quarter four d)
    square-line =
        let level = square-level in
        quad-line-is rule all square (omega (arith, level)) ∙ (λ i. Quad (level i) (first i) (second i) (third i) (fourth i))

    known-text : flat_map node_text (map (line_of rule all) (four ++ square ∷ []))
        ≡ flat_map node_text (map (λ t. Leaf (rows_of t)) four)
        ++ node_text (Quad 4 (number_of_quarter one a) (number_of_quarter two b) (number_of_quarter three c) (number_of_quarter four d))
    known-text =
        let line = line_of rule all in
        ap (flat_map node_text) (map-append line four (square ∷ []))
        ∙ flat_map-append node_text (map line four) (line square ∷ [])
        ∙ (λ i. flat_map node_text (leaf-lines rule life all four four-levels i) ++ (node_text (square-line i) ++ []))
        ∙ ap (λ (text : List ℕ). flat_map node_text (map (λ t. Leaf (rows_of t)) four) ++ text) (append-nil (node_text
        (Quad 4 (number_of_quarter one a) (number_of_quarter two b) (number_of_quarter three c) (number_of_quarter four d))))

    -- the text of the square of which they are the south-eastern quarter
    pub block-text : square_text rule generation (seated square)
        ≡ header ++ ((flat_map node_text (map (λ t. Leaf (rows_of t)) four)
        ++ node_text (Quad 4 (number_of_quarter one a) (number_of_quarter two b) (number_of_quarter three c) (number_of_quarter four d)))
        ++ node_text (Quad 5 0 0 0 (suc (length four))))
    block-text =
        let level = square-level in
        (λ i. square_text rule generation (quad (blank (level i)) (blank (level i)) (blank (level i)) square))
        ∙ root-text 4 (lit≤ tt) square live (four ++ square ∷ []) square-listed known-levels rule life low generation
        ∙ (λ i. header ++ (known-text i ++ node_text (Quad 5 0 0 0 (last i))))

-- ---- by words

word-leaf : (n : ℕ) → IsLeafTree (eight n)
word-leaf n = record {
  level = refl;
  alone = leaf-walk (four_of (n / 281474976710656)) (four_of (n / 4294967296 % 65536)) (four_of (n / 65536 % 65536)) (four_of (n % 65536)) refl refl refl refl;
}

lines-of : (words : List ℕ) → map leaf_line words ≡ map (λ t. Leaf (rows_of t)) (map eight words)
lines-of [] = refl
lines-of (w ∷ ws) = ap (λ (l : List Line). leaf_line w ∷ l) (lines-of ws)

module _ (rule : Rule) (life : is_life rule ≡ true) (low : least_level rule ≡ 3) (generation : ℕ) (prefix text : List ℕ)
    (begins : prefix ≡ header_lines_text rule generation) where
  -- the text that the code writes for a root that is a leaf
  pub written-four : (leaf : ℕ) → is_blank_tree (eight leaf) ≡ false → text ≡ prefix ++ node_text (leaf_line leaf)
      → text ≡ square_text rule generation (eight leaf)
  written-four leaf live is =
      is ∙ ap (λ (l : List ℕ). l ++ node_text (leaf_line leaf)) begins
      ∙ sym (text-of-leaf rule life low generation (four_of (leaf / 281474976710656)) (four_of (leaf / 4294967296 % 65536))
      (four_of (leaf / 65536 % 65536)) (four_of (leaf % 65536)) refl refl refl refl live)

  -- for one below the root
  pub written-eight : (leaf : ℕ) → is_blank_tree (eight leaf) ≡ false → text ≡ (prefix ++ node_text (leaf_line leaf)) ++ node_text (Quad 4 0 0 0 1)
      → text ≡ square_text rule generation (seated (eight leaf))
  written-eight leaf live is =
      is ∙ ap (λ (l : List ℕ). (l ++ node_text (leaf_line leaf)) ++ node_text (Quad 4 0 0 0 1)) begins
      ∙ append_assoc (header_lines_text rule generation) (node_text (leaf_line leaf)) (node_text (Quad 4 0 0 0 1))
      ∙ sym (eight-text rule life low generation (eight leaf) (word-leaf leaf) live)

  -- and for four
  pub written-sixteen : (nw ne sw se : ℕ) (k1 k2 k3 k4 : List ℕ) (n1 n2 n3 n4 : ℕ) → map eight k1 ≡ with_leaf [] (eight nw)
      → map eight k2 ≡ with_leaf (map eight k1) (eight ne) → map eight k3 ≡ with_leaf (map eight k2) (eight sw)
      → map eight k4 ≡ with_leaf (map eight k3) (eight se) → n1 ≡ number_of_quarter (map eight k1) (eight nw)
      → n2 ≡ number_of_quarter (map eight k2) (eight ne) → n3 ≡ number_of_quarter (map eight k3) (eight sw)
      → n4 ≡ number_of_quarter (map eight k4) (eight se) → is_blank_tree (quad (eight nw) (eight ne) (eight sw) (eight se)) ≡ false
      → text
      ≡ ((prefix ++ flat_map node_text (map leaf_line k4)) ++ node_text (Quad 4 n1 n2 n3 n4)) ++ node_text (Quad 5 0 0 0 (length k4 + 1))
      → text ≡ square_text rule generation (seated (quad (eight nw) (eight ne) (eight sw) (eight se)))
  written-sixteen nw ne sw se k1 k2 k3 k4 n1 n2 n3 n4 is1 is2 is3 is4 num1 num2 num3 num4 live is =
      let header = header_lines_text rule generation in
      let two : map eight k2 ≡ with_leaf (with_leaf [] (eight nw)) (eight ne) = is2 ∙ ap (λ (l : List Tree). with_leaf l (eight ne)) is1 in
      let three : map eight k3 ≡ with_leaf (with_leaf (with_leaf [] (eight nw)) (eight ne)) (eight sw) =
      is3 ∙ ap (λ (l : List Tree). with_leaf l (eight sw)) two in
      let four : map eight k4 ≡ with_leaf (with_leaf (with_leaf (with_leaf [] (eight nw)) (eight ne)) (eight sw)) (eight se) =
      is4 ∙ ap (λ (l : List Tree). with_leaf l (eight se)) three in
      let e1 = num1 ∙ ap (λ (l : List Tree). number_of_quarter l (eight nw)) is1 in
      let e2 = num2 ∙ ap (λ (l : List Tree). number_of_quarter l (eight ne)) two in
      let e3 = num3 ∙ ap (λ (l : List Tree). number_of_quarter l (eight sw)) three in
      let e4 = num4 ∙ ap (λ (l : List Tree). number_of_quarter l (eight se)) four in
      let lines : map leaf_line k4
      ≡ map (λ t. Leaf (rows_of t)) (with_leaf (with_leaf (with_leaf (with_leaf [] (eight nw)) (eight ne)) (eight sw)) (eight se)) =
      lines-of k4 ∙ ap (map (λ t. Leaf (rows_of t))) four in
      let mapped : length (map eight k4) ≡ length k4 = simp length-map in
      let count : length k4 + 1 ≡ suc (length (with_leaf (with_leaf (with_leaf (with_leaf [] (eight nw)) (eight ne)) (eight sw)) (eight se))) =
      (let listed : length (map eight k4) ≡ length (with_leaf (with_leaf (with_leaf (with_leaf [] (eight nw)) (eight ne)) (eight sw)) (eight se)) =
      ap length four in omega (arith, mapped, listed)) in
      is
      ∙ (λ i. ((begins i ++ flat_map node_text (lines i)) ++ node_text (Quad 4 (e1 i) (e2 i) (e3 i) (e4 i))) ++ node_text (Quad 5 0 0 0 (count i)))
      ∙ regroup header _ _ _
      ∙ sym (block-text rule life low generation (eight nw) (eight ne) (eight sw) (eight se) (word-leaf nw) (word-leaf ne) (word-leaf sw) (word-leaf se) live)
    where
      regroup : (a b c d : List ℕ) → ((a ++ b) ++ c) ++ d ≡ a ++ ((b ++ c) ++ d)
      regroup a b c d = simp append_assoc
