-- Which line a refused file breaks at, for a grammar that says of each line whether it may stand where it stands.
use Rattle.std.proofs.Common.{◌≡◌, ℕ, ◌+◌, ◌-◌, ◌^◌, ◌<◌, ◌≤◌, min, List, [], ◌++◌, length, take, get_or, Option, Some, None, refl, ap, sym, ◌∙◌, arith, length-append, inl, inr, take-take, get_or-take, length-take-le}
use Rattle.std.proofs.lemmas.List.{take-append-le}
use Rattle.std.proofs.Math.ListN.{get_or-append}
use Rattle.life_base.specs.Refusal.{Prefix, IsPlace, IsRefusal, BreaksBy, kept_lines, continuations}
use Rattle.life_base.specs.declared.kind.Kind.{Kind}
use Rattle.life_base.specs.declared.fault.Fault.{Fault}
use Rattle.life_base.proofs.Basics.{some_same, le_or_lt}

module _ (Grammar : List (List ℕ) → Type 0) where
  no_later : (lines : List (List ℕ)) (n m : ℕ) → IsPlace Grammar lines n → IsPlace Grammar lines m → n < m → ⊥
  no_later lines n m p q h = p.here (omega (arith, q.within)) (q.before n h)

  one_place : (lines : List (List ℕ)) (n m : ℕ) → IsPlace Grammar lines n → IsPlace Grammar lines m → n ≡ m
  one_place lines n m p q = omega (arith, no_later lines n m p q, no_later lines m n q p)

one_kind : (one other : Fault) → one.place.line ≡ other.place.line → one.kind ≡ other.kind → one ≡ other
one_kind one other e f =
    ap (λ (n : ℕ). record { place = record { line = n }; kind = one.kind }) e
    ∙ ap (λ (kind : Kind). record { place = record { line = other.place.line }; kind = kind }) f

-- each line breaks one kind of rule first
abbrev pub BreaksOnce : (List (List ℕ) → List ℕ → Kind → Type 0) → Type 0
BreaksOnce Breaks = (prefix : List (List ℕ)) (line : List ℕ) (a b : Kind) → Breaks prefix line a → Breaks prefix line b → a ≡ b

module _ (Grammar : List (List ℕ) → Type 0) (Breaks : List (List ℕ) → List ℕ → Kind → Type 0) (missing : List (List ℕ) → Option Kind) where
  -- Then a refused file has one fault.
  pub one_refusal : BreaksOnce Breaks → (lines : List (List ℕ)) (one other : Fault)
      → IsRefusal Grammar Breaks missing lines one → IsRefusal Grammar Breaks missing lines other → one ≡ other
  one_refusal once lines one other h k =
      let same : h.n ≡ k.n = one_place Grammar lines h.n k.n h.place k.place in
      let lines_same : one.place.line ≡ other.place.line = h.line ∙ ap (λ (n : ℕ). min n (2 ^ 64 - 1)) same ∙ sym k.line in
      one_kind one other lines_same (elim (le_or_lt h.n (length lines)) [
        | inl within ↦
            let other_at : Breaks (take (h.n - 1) lines) (get_or lines (h.n - 1) []) other.kind = rw same (k.at_line (omega arith)) in
            once _ _ one.kind other.kind (h.at_line within) other_at
        | inr behind ↦ some_same one.kind other.kind (missing lines) (h.at_end behind) (k.at_end (omega arith))
      ])

module _ (Grammar : List (List ℕ) → Type 0) (broken : List (List ℕ) → List ℕ → Option Kind) (missing : List (List ℕ) → Option Kind) where
  -- none of the first n lines breaks a rule
  abbrev pub UnbrokenBelow : List (List ℕ) → ℕ → Type 0
  UnbrokenBelow lines n = (k : ℕ) → k < n → broken (take k lines) (get_or lines k []) ≡ None

  -- A grammar of lines: no line of a file breaks a rule, and lines that break none are a prefix of a file.
  pub record IsByLines : Type 0 where
    pub sound : (lines : List (List ℕ)) → Grammar lines → UnbrokenBelow lines (length lines)
    pub complete : (lines : List (List ℕ)) → UnbrokenBelow lines (length lines) → Prefix Grammar lines

  -- A refused file has one fault.
  pub refusal_unique : (lines : List (List ℕ)) (one other : Fault)
      → IsRefusal Grammar (BreaksBy broken) missing lines one → IsRefusal Grammar (BreaksBy broken) missing lines other → one ≡ other
  refusal_unique = one_refusal Grammar (BreaksBy broken) missing (λ prefix line a b. some_same a b (broken prefix line))

  module _ (by_lines : IsByLines) where
    -- no line of a prefix of a file breaks a rule
    pub prefix_unbroken : (lines : List (List ℕ)) → Prefix Grammar lines → UnbrokenBelow lines (length lines)
    prefix_unbroken lines (keeps, g) k h =
        let more = kept_lines keeps continuations in
        let e : take k (lines ++ more) ≡ take k lines = take-append-le k lines more (omega arith) in
        let f : get_or (lines ++ more) k [] ≡ get_or lines k [] = get_or-append lines more [] k h in
        let u : broken (take k (lines ++ more)) (get_or (lines ++ more) k []) ≡ None = by_lines.sound (lines ++ more) g k
        (omega (arith, length-append lines more)) in
        rw (← e, ← f) u

    cut : (lines : List (List ℕ)) (n : ℕ) → n ≤ length lines → UnbrokenBelow lines n → UnbrokenBelow (take n lines) (length (take n lines))
    cut lines n h u k l =
        let m : k < n = omega (arith, length-take-le n lines h) in
        let e : take k (take n lines) ≡ take k lines = take-take k n lines (omega arith) in
        let f : get_or (take n lines) k [] ≡ get_or lines k [] = get_or-take n lines k [] m in
        rw (e, f) (u k m)

    -- the place of the first line that breaks a rule
    place_at : (lines : List (List ℕ)) (n : ℕ) (kind : Kind) → n < length lines → UnbrokenBelow lines n
        → broken (take n lines) (get_or lines n []) ≡ Some kind → IsPlace Grammar lines (n + 1)
    place_at lines n kind h u b = record {
      counted = omega arith;
      within = omega arith;
      before = λ k l. by_lines.complete (take k lines) (cut lines k (omega arith) (λ j m. u j (omega arith)));
      here = λ l p.
          let m : n + 1 ≤ length lines = l in
          let v : broken (take n (take (n + 1) lines)) (get_or (take (n + 1) lines) n []) ≡ None =
          prefix_unbroken (take (n + 1) lines) p n (omega (arith, length-take-le (n + 1) lines m)) in
          let w : broken (take n lines) (get_or lines n []) ≡ None = rw (take-take n (n + 1) lines (omega arith), get_or-take (n + 1) lines n [] (omega arith))
          at v in
          cc;
    }

    -- Why a file is refused whose line n + 1 is the first that breaks a rule.
    pub refusal_at : (lines : List (List ℕ)) (n : ℕ) (kind : Kind) → n < length lines → UnbrokenBelow lines n
        → broken (take n lines) (get_or lines n []) ≡ Some kind
        → IsRefusal Grammar (BreaksBy broken) missing lines (record { place = record { line = min (n + 1) (2 ^ 64 - 1) }; kind = kind })
    refusal_at lines n kind h u b =
        let back : n + 1 - 1 ≡ n = omega arith in
        record {
          refused = λ g. let w = by_lines.sound lines g n h in cc;
          n = n + 1;
          place = place_at lines n kind h u b;
          line = refl;
          at_line = λ l. rw back b;
          at_end = λ l. absurd (omega arith);
        }

    -- Why a file is refused whose lines break no rule.
    pub refusal_at_end : (lines : List (List ℕ)) (kind : Kind) → UnbrokenBelow lines (length lines) → (Grammar lines → ⊥)
        → missing lines ≡ Some kind
        → IsRefusal Grammar (BreaksBy broken) missing lines (record { place = record { line = min (length lines + 1) (2 ^ 64 - 1) }; kind = kind })
    refusal_at_end lines kind u r lacks = record {
      refused = r;
      n = length lines + 1;
      place = record {
        counted = omega arith;
        within = omega arith;
        before = λ k l. by_lines.complete (take k lines) (cut lines k (omega arith) (λ j m. u j (omega arith)));
        here = λ l p. absurd (omega arith);
      };
      line = refl;
      at_line = λ l. absurd (omega arith);
      at_end = λ l. lacks;
    }
