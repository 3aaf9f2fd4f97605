-- Facts about tests, numbers, options and lists.
use Rattle.std.proofs.Common.{◌≡◌, ◌≢◌, ◌⊎◌, ℕ, zero, suc, ◌+◌, ◌-◌, ◌*◌, ◌^◌, ◌<◌, ◌≤◌, ◌==◌, nat_lt, Bool, true, false, cond, ◌&&◌, ℤ, pos, negsuc, neg_ℤ, ◌+ℤ◌, ◌-ℤ◌, ◌≤ℤ◌, ◌<ℤ◌, int_le, int_lt, int_eq, List, [], ◌∷◌, ◌++◌, length, map, slice_get, Contains, Option, Some, None, refl, sym, ap, ◌∙◌, arith, pow-suc}
use Rattle.std.proofs.lemmas.Bool.Decides.{nat_tests}
use Rattle.std.proofs.lemmas.Int.{ints}

-- ---- tests

pub left_of_and : (a b : Bool) → (a && b) ≡ true → a ≡ true
left_of_and true b h = refl
left_of_and false b h = h

pub right_of_and : (a b : Bool) → (a && b) ≡ true → b ≡ true
right_of_and true b h = h
right_of_and false b h = cc

pub true_false : (b : Bool) → b ≡ true → b ≡ false → ⊥
true_false b p q = cc

pub equal_swapped : (a b : ℕ) → (a == b) ≡ (b == a)
equal_swapped a b = grind (arith, nat_tests)

pub suc_not_zero : (k : ℕ) → (suc k == 0) ≡ false
suc_not_zero k = grind (arith, nat_tests)

pub suc_suc_not_one : (k : ℕ) → (suc (suc k) == 1) ≡ false
suc_suc_not_one k = grind (arith, nat_tests)

-- ---- natural numbers

pub double : (k : ℕ) → 2 ^ suc k ≡ 2 ^ k + 2 ^ k
double k = omega arith

pub twice : (k : ℕ) → 2 ^ suc k ≡ 2 * 2 ^ k
twice k = omega (arith, pow-suc 2 k)

pub less_one : (k : ℕ) → suc k - 1 ≡ k
less_one k = omega arith

-- twice the half of a side
pub halves : (k : ℕ) → 1 ≤ k → 2 ^ (k - 1) + 2 ^ (k - 1) ≡ 2 ^ k
halves zero h = absurd (omega arith)
halves (suc k) h = (λ j. 2 ^ less_one k j + 2 ^ less_one k j) ∙ sym (double k)

pub le_or_lt : (m n : ℕ) → (m ≤ n) ⊎ (n < m)
le_or_lt m n = grind arith

pub lt_or_eq : (i n : ℕ) → i < suc n → (i < n) ⊎ (i ≡ n)
lt_or_eq i n h = grind arith

pub zero_unless : (n : ℕ) → (n ≢ 0 → ⊥) → n ≡ 0
zero_unless zero h = refl
zero_unless (suc n) h = absurd (h (λ e. omega (arith, e)))

pub cond_le : (v : Bool) (n : ℕ) → cond v n 0 ≤ n
cond_le true n = omega arith
cond_le false n = omega arith

-- ---- whole numbers

pub plus_zero : (x : ℤ) → x +ℤ pos 0 ≡ x
plus_zero x = omega (arith, ints)

pub offset_plus : (e : ℤ) (a i : ℕ) → (pos a -ℤ e) +ℤ pos i ≡ pos (a + i) -ℤ e
offset_plus e a i = omega (arith, ints)

pub int_le_trans : (a b c : ℤ) → a ≤ℤ b → b ≤ℤ c → a ≤ℤ c
int_le_trans a b c h k = omega (arith, ints)

pub int_le-true : (a b : ℤ) → int_le a b ≡ true → a ≤ℤ b
int_le-true a b h = grind (arith, ints)

pub int_lt-true : (a b : ℤ) → int_lt a b ≡ true → a <ℤ b
int_lt-true a b h = grind (arith, ints)

pub le-int_le : (a b : ℤ) → a ≤ℤ b → int_le a b ≡ true
le-int_le a b h = grind (arith, ints)

pub lt-int_lt : (a b : ℤ) → a <ℤ b → int_lt a b ≡ true
lt-int_lt a b h = grind (arith, ints)

pub eq-int_eq : (a b : ℤ) → a ≡ b → int_eq a b ≡ true
eq-int_eq a b e = grind (arith, ints)

-- the test whether a coordinate is in the span about zero, by its distance from the begin of the span
pub in_span : (x : ℤ) (h c : ℕ) → x +ℤ pos h ≡ pos c → (int_le (neg_ℤ (pos h)) x && int_lt x (pos h)) ≡ nat_lt c (h + h)
in_span x h c e = grind (arith, ints, nat_tests)

pub out_of_span : (x : ℤ) (h c : ℕ) → x +ℤ pos h ≡ negsuc c → (int_le (neg_ℤ (pos h)) x && int_lt x (pos h)) ≡ false
out_of_span x h c e = grind (arith, ints)

pub within_span : (x : ℤ) (h : ℕ) → neg_ℤ (pos h) ≤ℤ x → x <ℤ pos h → (int_le (neg_ℤ (pos h)) x && int_lt x (pos h)) ≡ true
within_span x h l m = grind (arith, ints)

-- ---- options and lists

pub some_same : {X : Type 0} (a b : X) (o : Option X) → o ≡ Some a → o ≡ Some b → a ≡ b
some_same a b o h k = cc

pub false_from_none : (v : Bool) (i : ℕ) → cond v (Some i) None ≡ None → v ≡ false
false_from_none true i h = cc
false_from_none false i h = refl

pub slice_get-last : {X : Type 0} (xs : List X) (x : X) → slice_get (xs ++ x ∷ []) (length xs) ≡ Some x
slice_get-last [] x = refl
slice_get-last (y ∷ xs) x = slice_get-last xs x

pub contains-map : {A B : Type 0} (f : A → B) (xs : List A) (a : A) → Contains xs a → Contains (map f xs) (f a)
contains-map f [] a h = absurd (omega (arith, h.1))
contains-map f (x ∷ xs) a (zero, lt, e) = (0, omega arith, ap f e)
contains-map f (x ∷ xs) a (suc k, lt, e) = let rest = contains-map f xs a (k, omega (arith, lt), e) in (suc rest.0, omega (arith, rest.1), rest.2)
