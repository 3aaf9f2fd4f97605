-- Squares of level 3 by their cells.
use Rattle.std.proofs.Common.{◌≡◌, length, Result, ◌+◌, ◌-◌, ◌*◌, ◌/◌, ◌%◌, ◌^◌, ◌<◌, ◌≤◌, ℕ, List, Bool, true, false, None, max, inl, inr, refl, sym, ap, ◌∙◌, arith, eqb-true}
use Rattle.std.proofs.lemmas.Bool.{cases_lt}
use Rattle.life_base.specs.Tree.{Tree, quad, depth, is_blank_tree, IsFull}
use Rattle.life_base.proofs.Squares.{depth-blank}
use Rattle.life_quad.specs.declared.id.Id.{Id}
use Rattle.life_quad.specs.declared.id.Node.{Node}
use Rattle.life_base.specs.declared.kind.Kind.{Kind}
use Rattle.life_quad.specs.Store.{Nodes, two, four, eight, small_of, id_of, square_of, node_square, is_bit_id, is_digit_id, content, squares, stored_squares, small_number_of, IsNode, Knows, IsShared, AnswersJoin}
use Rattle.life_quad.specs.SmallLaws.{all_four, bit, is_digit, square_of-bit, square_of-digit}
use Rattle.life_quad.specs.StoreLaws.{Kinds, a_state, a_blank, a_small, a_node, kind_of}
use Rattle.life_quad.proofs.SmallCells.{cells_named, no_cells, two_is}
use Rattle.life_quad.proofs.SmallLemmas.{of_none}
use Rattle.life_quad.proofs.StoreLemmas.{square_of-small}
use Rattle.life_quad.proofs.CallLemmas.{square_of-blank, node_of, is_blank-joined, IsNode-joined, is_wanted, join_answers}
use Rattle.life_quad.proofs.MakingLemmas.{Joins}

-- ---- the cells of four squares of level 2

-- found again by division
pub base_65536_digits : (a b c d : ℕ) → a < 65536 → b < 65536 → c < 65536 → d < 65536
    → (let n = ((a * 65536 + b) * 65536 + c) * 65536 + d in
    (n / 281474976710656 ≡ a) × (n / 4294967296 % 65536 ≡ b) × (n / 65536 % 65536 ≡ c) × (n % 65536 ≡ d))
base_65536_digits a b c d la lb lc ld = (omega arith, omega arith, omega arith, omega arith)

pub eight_of : (a b c d : ℕ) → a < 65536 → b < 65536 → c < 65536 → d < 65536
    → eight (((a * 65536 + b) * 65536 + c) * 65536 + d) ≡ quad (four a) (four b) (four c) (four d)
eight_of a b c d la lb lc ld =
    let q = base_65536_digits a b c d la lb lc ld in (λ i. quad (four (q.0 i)) (four (q.1 i)) (four (q.2 i)) (four (q.3 i)))

-- ---- the quarters by their Ids

-- the Id of a square of level 1
small_two : (S : List Tree) (d : ℕ) → d < 16 → square_of S (id_of (512 + d)) ≡ two d
small_two S d low = square_of-small S (id_of (512 + d)) (omega arith) (omega (arith, low)) ∙ two_is d low

-- the Id of a square of level 2 that has no node
pub cells_of_depth : (stored : List Tree) (q : ℕ) → q < 66064 → depth (square_of stored (id_of q)) ≡ 2 → square_of stored (id_of q) ≡ four (q - 528)
cells_of_depth stored q u h = by (kind_of stored (id_of q))
  where
    by : Kinds stored (id_of q) → square_of stored (id_of q) ≡ four (q - 528)
    by (a_state l e) = absurd (let d : 0 ≡ 2 = sym (ap depth e) ∙ h in omega (arith, d))
    by (a_blank l v e) =
        let d : q - 255 ≡ 2 = sym (depth-blank (q - 255)) ∙ sym (ap depth e) ∙ h in
        let z : q ≡ 257 = omega (arith, d) in
        let n : 0 ≡ q - 528 = omega (arith, z) in
        no_cells stored (id_of q) z ∙ ap four n
    by (a_small l v e) = elim (cases_lt q 528) [
      | inl less ↦
          (let m : 512 + (q - 512) ≡ q = omega (arith, l) in
          let is : square_of stored (id_of q) ≡ two (q - 512) =
          ap (λ n. square_of stored (id_of n)) (sym m) ∙ small_two stored (q - 512) (omega (arith, less)) in
          absurd (let d : 1 ≡ 2 = sym (ap depth is) ∙ h in omega (arith, d)))
      | inr more ↦ cells_named stored (id_of q) more u
    ]
    by (a_node l e) = absurd (omega (arith, l, u))

-- four quarters of one level, whose greatest Id is that of a square of level 2 with the states 0 and 1
module _ (stored : List Tree) (n : Node) (full : IsFull (node_square stored n)) where
  deep : (g : ℕ) → g ≡ max (max n.nw n.ne) (max n.sw n.se) → 528 ≤ g → g < 66064 → depth (square_of stored (id_of n.nw)) ≡ 2
  deep g e l u = elim (cases_lt n.nw 528) [
    | inr nw ↦ ap depth (cells_named stored (id_of n.nw) nw (omega (arith, e, u)))
    | inl a ↦ (elim (cases_lt n.ne 528) [
      | inr ne ↦ sym full.4 ∙ ap depth (cells_named stored (id_of n.ne) ne (omega (arith, e, u)))
      | inl b ↦ (elim (cases_lt n.sw 528) [
        | inr sw ↦ sym full.5 ∙ ap depth (cells_named stored (id_of n.sw) sw (omega (arith, e, u)))
        | inl c ↦ (elim (cases_lt n.se 528) [
          | inr se ↦ sym full.6 ∙ ap depth (cells_named stored (id_of n.se) se (omega (arith, e, u)))
          | inl d ↦ absurd (omega (arith, e, l, a, b, c, d))
        ])
      ])
    ])
  ]

  pub cells_of_node : (g : ℕ) → g ≡ max (max n.nw n.ne) (max n.sw n.se) → 528 ≤ g → g < 66064
      → node_square stored n ≡ eight ((((n.nw - 528) * 65536 + (n.ne - 528)) * 65536 + (n.sw - 528)) * 65536 + (n.se - 528))
  cells_of_node g e l u =
      let two_deep = deep g e l u in
      let a = cells_of_depth stored n.nw (omega (arith, e, u)) two_deep in
      let b = cells_of_depth stored n.ne (omega (arith, e, u)) (full.4 ∙ two_deep) in
      let c = cells_of_depth stored n.sw (omega (arith, e, u)) (full.5 ∙ two_deep) in
      let d = cells_of_depth stored n.se (omega (arith, e, u)) (full.6 ∙ two_deep) in
      (λ i. quad (a i) (b i) (c i) (d i))
      ∙ sym (eight_of (n.nw - 528) (n.ne - 528) (n.sw - 528) (n.se - 528) (omega (arith, e, u)) (omega (arith, e, u)) (omega (arith, e, u))
      (omega (arith, e, u)))

-- the blank square
pub no_leaf_cells : (stored : List Tree) (id : Id) → id.0 ≡ 258 → square_of stored id ≡ eight 0
no_leaf_cells stored id e = ap (λ n. square_of stored (id_of n)) e ∙ square_of-blank stored 3 (omega arith) (omega arith)

-- a square of level 3 is not small
pub large_quarter : (S : List Tree) (q : ℕ) → depth (square_of S (id_of q)) ≡ 2 → (is_bit_id q ≡ false) × (is_digit_id q ≡ false)
large_quarter S q h = (no_bit (is_bit_id q) refl, no_digit (is_digit_id q) refl)
  where
    no_bit : (b : Bool) → is_bit_id q ≡ b → b ≡ false
    no_bit false e = refl
    no_bit true e = absurd (let d : 0 ≡ 2 = sym (ap depth (square_of-bit S q (bit q e))) ∙ h in omega (arith, d))

    no_digit : (b : Bool) → is_digit_id q ≡ b → b ≡ false
    no_digit false e = refl
    no_digit true e = absurd (let d : 1 ≡ 2 = sym (ap depth (square_of-digit S q (is_digit q e))) ∙ h in omega (arith, d))

pub large_number : (S : List Tree) (a b c d : ℕ) → depth (square_of S (id_of a)) ≡ 2 → small_of a b c d ≡ None
large_number S a b c d h = let q = large_quarter S a h in sym (of_none a b c d (rw q.0 refl) (rw q.1 refl))

-- ---- a square with a cell of state 1 isn't blank

two_blank : (n : ℕ) → n < 16 → is_blank_tree (two n) ≡ true → n ≡ 0
two_blank n l h =
    let q = all_four _ _ _ _ h in
    let a : n / 8 ≡ 0 = eqb-true _ _ q.0 in
    let b : n / 4 % 2 ≡ 0 = eqb-true _ _ q.1 in
    let c : n / 2 % 2 ≡ 0 = eqb-true _ _ q.2 in
    let d : n % 2 ≡ 0 = eqb-true _ _ q.3 in
    omega (arith, a, b, c, d)

four_blank : (n : ℕ) → n < 65536 → is_blank_tree (four n) ≡ true → n ≡ 0
four_blank n l h =
    let q = all_four _ _ _ _ h in
    let a = two_blank (n / 4096) (omega (arith, l)) q.0 in
    let b = two_blank (n / 256 % 16) (omega arith) q.1 in
    let c = two_blank (n / 16 % 16) (omega arith) q.2 in
    let d = two_blank (n % 16) (omega arith) q.3 in
    omega (arith, a, b, c, d)

eight_blank : (n : ℕ) → n < 2 ^ 64 → is_blank_tree (eight n) ≡ true → n ≡ 0
eight_blank n l h =
    let q = all_four _ _ _ _ h in
    let a = four_blank (n / 281474976710656) (omega (arith, l)) q.0 in
    let b = four_blank (n / 4294967296 % 65536) (omega arith) q.1 in
    let c = four_blank (n / 65536 % 65536) (omega arith) q.2 in
    let d = four_blank (n % 65536) (omega arith) q.3 in
    omega (arith, a, b, c, d)

pub eight_not_blank : (n : ℕ) → n < 2 ^ 64 → 0 < n → is_blank_tree (eight n) ≡ false
eight_not_blank n l some = by (is_blank_tree (eight n)) refl
  where
    by : (b : Bool) → is_blank_tree (eight n) ≡ b → b ≡ false
    by false e = refl
    by true e = absurd (let z = eight_blank n l e in omega (arith, z, some))

-- four known squares as the quarters of the one with these cells, which aren't all 0
module _ (s : Nodes) (n : ℕ) (l : n < 2 ^ 64) (some : 0 < n) (nw ne sw se : Id) (a : Knows s nw) (b : Knows s ne) (c : Knows s sw) (d : Knows s se)
    (ea : content s nw ≡ four (n / 281474976710656)) (eb : content s ne ≡ four (n / 4294967296 % 65536)) (ec : content s sw ≡ four (n / 65536 % 65536))
    (ed : content s se ≡ four (n % 65536)) where
  abbrev made : Tree
  made = node_square (squares s.nodes) (node_of nw ne sw se)

  pub leaf_square : made ≡ eight n
  leaf_square = λ i. quad (ea i) (eb i) (ec i) (ed i)

  not_blank : is_blank_tree made ≡ false
  not_blank = ap is_blank_tree leaf_square ∙ eight_not_blank n l some

  ne_level : depth (content s ne) ≡ depth (content s nw)
  ne_level = ap depth eb ∙ sym (ap depth ea)

  sw_level : depth (content s sw) ≡ depth (content s nw)
  sw_level = ap depth ec ∙ sym (ap depth ea)

  se_level : depth (content s se) ≡ depth (content s nw)
  se_level = ap depth ed ∙ sym (ap depth ea)

  pub leaf_node : IsNode s.log (squares s.nodes) (length s.nodes) (node_of nw ne sw se)
  leaf_node =
      IsNode-joined s nw ne sw se a b c d ne_level sw_level se_level (let e = ap depth ea in omega (arith, e))
      (sym (is_blank-joined s nw ne sw se a b c d ne_level sw_level se_level) ∙ not_blank)

  pub leaf_large : small_number_of (node_of nw ne sw se) ≡ None
  leaf_large = large_number (squares s.nodes) nw.0 ne.0 sw.0 se.0 (ap depth ea)

  pub leaf_level : depth made ≡ 3
  leaf_level = ap depth leaf_square

  pub leaf_answers : (new : Nodes) (r : Result Id Kind) → AnswersJoin s new made r
      → Joins (λ s id. Knows s id × IsShared s) content stored_squares (λ s. s.limit) is_wanted s new made r
  leaf_answers new r h = join_answers s new made (let e = leaf_level in omega (arith, e)) not_blank r h
