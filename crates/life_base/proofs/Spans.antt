-- A cell that is counted from a north west corner is in a span of columns of a row where it is in the run of cells there.
use Rattle.std.proofs.Common.{◌≡◌, ℕ, ◌+◌, ◌≤◌, ◌<◌, Bool, true, ◌&&◌, nat_lt, nat_le, ℤ, pos, ◌+ℤ◌, ◌<ℤ◌, ◌≤ℤ◌, arith, ◌==◌}
use Rattle.std.proofs.lemmas.Int.{ints}

-- whether a column and a row are in the span
abbrev spans : (column row len n m : ℕ) → Bool
spans column row len n m = m == row && nat_le column n && nat_lt n (column + len)

span_test : (column row len n m : ℕ) → m ≡ row → column ≤ n → n < column + len → spans column row len n m ≡ true
span_test column row len n m a b c = grind arith

span_facts : (column row len n m : ℕ) → spans column row len n m ≡ true → (m ≡ row) × (column ≤ n) × (n < column + len)
span_facts column row len n m e = (grind arith, grind arith, grind arith)

module _ (h : ℕ) (x y i j : ℤ) (column row len n m : ℕ) (e : pos column ≡ x +ℤ pos h) (f : pos row ≡ y +ℤ pos h) (p : i +ℤ pos h ≡ pos n)
    (q : j +ℤ pos h ≡ pos m) where
  pub span_from_run : j ≡ y → x ≤ℤ i → i <ℤ (x +ℤ pos len) → spans column row len n m ≡ true
  span_from_run same from to =
      span_test column row len n m (omega (arith, ints, e, f, p, q, same)) (omega (arith, ints, e, p, from)) (omega (arith, ints, e, p, to))

  pub run_from_span : spans column row len n m ≡ true → (j ≡ y) × (x ≤ℤ i) × (i <ℤ (x +ℤ pos len))
  run_from_span g =
      let k = span_facts column row len n m g in
      let row_is = k.0 in
      let from = k.1 in
      let to = k.2 in
      (omega (arith, ints, f, q, row_is), omega (arith, ints, e, p, from), omega (arith, ints, e, p, to))
