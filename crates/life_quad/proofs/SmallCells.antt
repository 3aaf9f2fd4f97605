-- Squares of level 2 by their cells.
use Rattle.std.proofs.Common.{◌≡◌, zero, suc, ◌+◌, ◌-◌, ◌*◌, ◌/◌, ◌%◌, ◌<◌, ◌≤◌, ◌&&◌, ℕ, List, length, Contains, Bool, true, false, Some, refl, sym, ap, ◌∙◌, arith, nat_lt}
use Rattle.std.proofs.lemmas.Bool.Decides.{nat_tests}
use Rattle.life_base.specs.Tree.{Tree, depth, is_blank_tree}
use Rattle.life_quad.specs.declared.id.Id.{Id}
use Rattle.life_quad.specs.declared.id.Node.{Node}
use Rattle.life_quad.specs.Store.{Nodes, two, four, small_square, small_number_of, id_of, square_of, squares, is_bit_id, is_digit_id, is_blank_id, IsNode, IsSmall, IsSoundStore, Knows, HasSeen, HasQuarters}
use Rattle.life_quad.specs.SmallLaws.{all_four}
use Rattle.life_quad.specs.StoreLaws.{small_node}
use Rattle.life_quad.proofs.StoreLemmas.{square_of-small}
use Rattle.life_quad.proofs.SmallLemmas.{of_two, of_four}
use Rattle.life_quad.proofs.CallLemmas.{square_of-state, square_of-blank, node_of, IsNode-joined, IsSmall-joined}

small_is : (k : ℕ) → 528 ≤ k → small_square k ≡ four (k - 528)
unfolding small_square
small_is k l = let f : nat_lt k 528 ≡ false = grind (arith, nat_tests) in rw f refl

-- an Id of level 2 that isn't blank names its cells
pub cells_named : (stored : List Tree) (id : Id) → 528 ≤ id.0 → id.0 < 66064 → square_of stored id ≡ four (id.0 - 528)
cells_named stored id l u = square_of-small stored id (omega arith) u ∙ small_is id.0 l

-- the blank one has no cell of state 1
pub no_cells : (stored : List Tree) (id : Id) → id.0 ≡ 257 → square_of stored id ≡ four 0
no_cells stored id e = ap (λ n. square_of stored (id_of n)) e ∙ square_of-blank stored 2 (omega arith) (omega arith)

-- the small square of level 1 of a digit
pub two_is : (d : ℕ) → d < 16 → small_square (512 + d) ≡ two d
unfolding small_square
two_is d low =
    let t : nat_lt (512 + d) 528 ≡ true = grind (arith, nat_tests) in
    let e : 512 + d - 512 ≡ d = omega arith in
    rw t (ap two e)

-- the small square of level 2 of four digits
pub four_is : (n : ℕ) → small_square (528 + n) ≡ four n
four_is n = let m : 528 + n - 528 ≡ n = omega arith in small_is (528 + n) (omega arith) ∙ ap four m

-- a cell of state 0 or 1 is known
bit_known : (s : Nodes) (n : ℕ) → IsSoundStore s → n < 2 → Knows s (id_of n)
bit_known s n sound low = record {
  sound = sound;
  named = record { below = omega arith; blank = λ h. omega arith };
  joined = λ l u. absurd (omega arith);
}

blank_bit : (n : ℕ) → n < 2 → is_blank_id (id_of n) ≡ true → n ≡ 0
blank_bit n low h = grind (arith, nat_tests)

-- the square of level 1 of a digit that isn't 0 is small, and isn't blank
pub two_small : (s : Nodes) (d : ℕ) → IsSoundStore s → 0 < d → d < 16 → IsSmall s.log (squares s.nodes) (512 + d) × (is_blank_tree (two d) ≡ false)
two_small s d sound some low = (
  IsSmall-joined s (node_of a b c e) (512 + d) number node,
  ap is_blank_tree (sym (two_is d low) ∙ small_node (squares s.nodes) (node_of a b c e) (512 + d) number) ∙ node.not_blank,
)
  where
    a : Id
    a = id_of (d / 8)

    b : Id
    b = id_of (d / 4 % 2)

    c : Id
    c = id_of (d / 2 % 2)

    e : Id
    e = id_of (d % 2)

    la : a.0 < 2
    la = omega arith

    lb : b.0 < 2
    lb = omega arith

    lc : c.0 < 2
    lc = omega arith

    le : e.0 < 2
    le = omega arith

    flat : (id : Id) → id.0 < 2 → depth (square_of (squares s.nodes) id) ≡ 0
    flat id l = ap depth (square_of-state (squares s.nodes) id.0 (omega arith))

    bits : is_bit_id a.0 && is_bit_id b.0 && is_bit_id c.0 && is_bit_id e.0 ≡ true
    bits = grind (arith, nat_tests, la, lb, lc, le)

    number : small_number_of (node_of a b c e) ≡ Some (512 + d)
    number = let n : d / 8 * 8 + d / 4 % 2 * 4 + d / 2 % 2 * 2 + d % 2 ≡ d = omega arith in sym (of_two a.0 b.0 c.0 e.0 bits) ∙ ap (λ m. Some (512 + m)) n

    not_all : (v : Bool) → (is_blank_id a && is_blank_id b && is_blank_id c && is_blank_id e) ≡ v → v ≡ false
    not_all false h = refl
    not_all true h =
        let q = all_four _ _ _ _ h in
        let z : a.0 ≡ 0 = blank_bit a.0 la q.0 in
        let y : b.0 ≡ 0 = blank_bit b.0 lb q.1 in
        let x : c.0 ≡ 0 = blank_bit c.0 lc q.2 in
        let w : e.0 ≡ 0 = blank_bit e.0 le q.3 in
        absurd (omega arith)

    node : IsNode s.log (squares s.nodes) (length s.nodes) (node_of a b c e)
    node =
        IsNode-joined s a b c e (bit_known s a.0 sound la) (bit_known s b.0 sound lb) (bit_known s c.0 sound lc) (bit_known s e.0 sound le)
        (flat b lb ∙ sym (flat a la)) (flat c lc ∙ sym (flat a la)) (flat e le ∙ sym (flat a la)) (let z = flat a la in omega arith)
        (let v = is_blank_id a && is_blank_id b && is_blank_id c && is_blank_id e in not_all v refl)

-- a quarter of a small square of level 2, by its digit, where all squares of level 1 were joined
record Quarter (s : Nodes) (d : ℕ) : Type 0 where
  pub id : Id
  pub known : Knows s id
  pub deep : depth (square_of (squares s.nodes) id) ≡ 1
  pub is_digit : is_digit_id id.0 ≡ true
  pub digit : id.0 - 512 ≡ d
  pub blank : is_blank_id id ≡ true → d ≡ 0

quarter : (s : Nodes) (d : ℕ) → IsSoundStore s → ((k : ℕ) → 512 < k → k < 528 → Contains s.log k) → d < 16 → Quarter s d
quarter s zero sound all low = record {
  id = id_of 256;
  known = record { sound = sound; named = record { below = omega arith; blank = λ h. omega arith }; joined = λ l u. absurd (omega arith) };
  deep = ap depth (square_of-blank (squares s.nodes) 1 (omega arith) (omega arith));
  is_digit = refl;
  digit = refl;
  blank = λ h. refl;
}
quarter s (suc m) sound all low = record {
  id = id_of (512 + suc m);
  known = record {
    sound = sound;
    named = record { below = omega arith; blank = λ h. absurd (omega arith) };
    joined = λ l u. all (512 + suc m) (omega arith) (omega arith);
  };
  deep = ap depth (square_of-small (squares s.nodes) (id_of (512 + suc m)) (omega arith) (omega arith) ∙ two_is (suc m) low);
  is_digit = grind (arith, nat_tests, low);
  digit = omega arith;
  blank = λ h. absurd (shown (is_blank_id (id_of (512 + suc m))) refl h);
}
  where
    shown : (b : Bool) → is_blank_id (id_of (512 + suc m)) ≡ b → b ≡ true → ⊥
    shown b e h = grind (arith, nat_tests)

-- the square of level 2 of cells that aren't all 0 is small then, and isn't blank
pub four_small : (s : Nodes) (seen : Id → Bool) (n : ℕ) → IsSoundStore s → HasSeen seen s.log → HasQuarters seen → 0 < n → n < 65536
    → IsSmall s.log (squares s.nodes) (528 + n) × (is_blank_tree (four n) ≡ false)
four_small s seen n sound marks quarters some low = (
  IsSmall-joined s it (528 + n) number node,
  ap is_blank_tree (sym (four_is n) ∙ small_node (squares s.nodes) it (528 + n) number) ∙ node.not_blank,
)
  where
    all : (k : ℕ) → 512 < k → k < 528 → Contains s.log k
    all k l u = marks.joined k (quarters k l u)

    a : Quarter s (n / 4096)
    a = quarter s (n / 4096) sound all (omega arith)

    b : Quarter s (n / 256 % 16)
    b = quarter s (n / 256 % 16) sound all (omega arith)

    c : Quarter s (n / 16 % 16)
    c = quarter s (n / 16 % 16) sound all (omega arith)

    e : Quarter s (n % 16)
    e = quarter s (n % 16) sound all (omega arith)

    it : Node
    it = node_of a.id b.id c.id e.id

    digits : is_digit_id a.id.0 && is_digit_id b.id.0 && is_digit_id c.id.0 && is_digit_id e.id.0 ≡ true
    digits = rw (a.is_digit, b.is_digit, c.is_digit, e.is_digit) refl

    number : small_number_of it ≡ Some (528 + n)
    number =
        let z : (a.id.0 - 512) * 4096 + (b.id.0 - 512) * 256 + (c.id.0 - 512) * 16 + (e.id.0 - 512) ≡ n = omega (arith, a.digit, b.digit, c.digit, e.digit) in
        sym (of_four a.id.0 b.id.0 c.id.0 e.id.0 (by_bits (is_bit_id a.id.0) refl) digits) ∙ ap (λ m. Some (528 + m)) z
      where
        by_bits : (v : Bool) → is_bit_id a.id.0 ≡ v → (is_bit_id a.id.0 && is_bit_id b.id.0 && is_bit_id c.id.0 && is_bit_id e.id.0) ≡ false
        by_bits v h = grind (arith, nat_tests, a.is_digit)

    not_all : (v : Bool) → (is_blank_id a.id && is_blank_id b.id && is_blank_id c.id && is_blank_id e.id) ≡ v → v ≡ false
    not_all false h = refl
    not_all true h =
        let q = all_four _ _ _ _ h in
        let z = a.blank q.0 in
        let y = b.blank q.1 in
        let x = c.blank q.2 in
        let w = e.blank q.3 in
        absurd (omega arith)

    node : IsNode s.log (squares s.nodes) (length s.nodes) it
    node =
        IsNode-joined s a.id b.id c.id e.id a.known b.known c.known e.known (b.deep ∙ sym a.deep) (c.deep ∙ sym a.deep) (e.deep ∙ sym a.deep)
        (omega (arith, a.deep)) (let v = is_blank_id a.id && is_blank_id b.id && is_blank_id c.id && is_blank_id e.id in not_all v refl)
