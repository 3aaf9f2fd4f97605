-- A prefix that is refused stays refused, whatever bytes follow, and the fault of a longer input is that of its prefix.
use Rattle.std.proofs.Common.{◌≡◌, ℕ, suc, ◌+◌, ◌-◌, ◌^◌, ◌<◌, ◌≤◌, min, Bool, true, false, List, [], ◌∷◌, ◌++◌, length, take, drop, get_or, refl, ap, sym, ◌∙◌, subst, arith, inl, inr, Some, append_assoc, drop-cons, codes, MatchBool, bytes_eq, append-nil, take-append-drop, length-append, length-take-le}
use Rattle.std.specs.List.{slice_index_or}
use Rattle.std.proofs.lemmas.Bool.Decides.{nat_tests}
use Rattle.std.proofs.lemmas.List.{take-append-le}
use Rattle.std.proofs.Math.ListN.{get_or-append}
use Rattle.life_base.specs.Lines.{has_no_feed, whole_lines, rest_line, one_line}
use Rattle.life_base.proofs.WholeLines.{lines_are_whole, lines_continue, rest_has_no_feed, lines_step}
use Rattle.life_base.proofs.Texts.{too_long}
use Rattle.life_base.proofs.Basics.{right_of_and, left_of_and}
use Rattle.life_base.specs.Refusal.{Prefix}
use Rattle.life_base.specs.Text.{lines_of, onto_first, is_too_long, begins_with}
use Rattle.life_base.specs.declared.cell.TheConstants.{MAX_LEVEL}
use Rattle.life_base.specs.declared.fault.Fault.{Fault}
use Rattle.life_base.specs.declared.kind.Kind.TheVariants.{LineTooLong}
use Rattle.life_mc.specs.Reading.{broken_rule}
use Rattle.life_rle.specs.Grammar.{BreaksRle}
use Rattle.life_rle.proofs.FormatLaws.{broken_for_good}
use Rattle.life_rle.proofs.PrefixLaws.{lines_behind_mark_are_free, long_lines_break}
use Rattle.life_reader.specs.Feeding.{RefusesPrefix}
use Rattle.life_pattern.specs.Files.{Accepts, Breaks, Refuses, RefusesLines, is_macrocell}
use Rattle.life_reader.specs.Laws.{FaultsStay, LengthHidesNoFault}
use Rattle.life_reader.proofs.PrefixFacts.{long-place, breaks-long, long-macrocell}
use Rattle.life_reader.proofs.Unions.{line-refused, line-refused-n}

-- ---- a longer line is too long too

begins-longer : (line more : List ℕ) → 4 ≤ length line → begins_with (line ++ more) (codes "[M2]") ≡ begins_with line (codes "[M2]")
begins-longer line more h = ap (λ (t : List ℕ). bytes_eq t (codes "[M2]")) (take-append-le 4 line more h)

format-longer : (prefix : List (List ℕ)) (line more : List ℕ) → 4 ≤ length line
    → is_macrocell (prefix ++ line ∷ []) ≡ is_macrocell (prefix ++ (line ++ more) ∷ [])
format-longer [] line more h = sym (begins-longer line more h)
format-longer (f ∷ prefix) line more h = refl

length-of-long : (line : List ℕ) → is_too_long line ≡ true → 2 ^ 20 < length line
length-of-long line h = grind (arith, nat_tests, h)

breaks-longer : (prefix : List (List ℕ)) (line more : List ℕ) → Breaks MAX_LEVEL prefix line LineTooLong → Breaks MAX_LEVEL prefix (line ++ more) LineTooLong
breaks-longer prefix line more b =
    subst (λ (v : Bool). MatchBool v (broken_rule MAX_LEVEL prefix (line ++ more) ≡ Some LineTooLong) (BreaksRle MAX_LEVEL prefix (line ++ more) LineTooLong))
    (format-longer prefix line more (omega (arith, long))) (by (is_macrocell (prefix ++ line ∷ [])) b)
  where
    long : 2 ^ 20 < length line
    long = length-of-long line (breaks-long prefix line b)

    longer : is_too_long (line ++ more) ≡ true
    longer = too_long (line ++ more) (omega (arith, long, length-append line more))

    by : (m : Bool) → MatchBool m (broken_rule MAX_LEVEL prefix line ≡ Some LineTooLong) (BreaksRle MAX_LEVEL prefix line LineTooLong)
        → MatchBool m (broken_rule MAX_LEVEL prefix (line ++ more) ≡ Some LineTooLong) (BreaksRle MAX_LEVEL prefix (line ++ more) LineTooLong)
    by true h = long-macrocell prefix (line ++ more) longer
    by false h =
        ((long_lines_break MAX_LEVEL prefix (line ++ more)).1 longer (broken_for_good MAX_LEVEL prefix line LineTooLong h).0
        (λ file m. (lines_behind_mark_are_free MAX_LEVEL prefix [] file m).1 line LineTooLong
        (subst (λ (f : List (List ℕ)). BreaksRle MAX_LEVEL f line LineTooLong) (sym (append-nil prefix)) h))
        LineTooLong).1 refl

-- ---- the first line of bytes that go on

-- a first line begins with these bytes
pub record BeginsWith (prefix : List ℕ) (lines : List (List ℕ)) : Type 0 where
  pub rest : List ℕ
  pub more : List (List ℕ)
  pub is : lines ≡ (prefix ++ rest) ∷ more

begins-first : (b : ℕ) (lines : List (List ℕ)) → BeginsWith (b ∷ []) (onto_first b lines)
begins-first b [] = record { rest = []; more = []; is = refl }
begins-first b (line ∷ lines) = record { rest = line; more = lines; is = refl }

pub begins : (prefix more : List ℕ) → has_no_feed prefix ≡ true → 0 < length prefix → BeginsWith prefix (lines_of (prefix ++ more))
begins [] more h some = absurd (omega arith)
begins (b ∷ []) more h some = subst (BeginsWith (b ∷ [])) (sym (lines_step b more (left_of_and _ _ h))) (begins-first b (lines_of more))
begins (b ∷ (c ∷ prefix)) more h some =
    let r = begins (c ∷ prefix) more (right_of_and _ _ h) (omega arith) in
    record { rest = r.rest; more = r.more; is = lines_step b ((c ∷ prefix) ++ more) (left_of_and _ _ h) ∙ ap (onto_first b) r.is }

-- ---- refusals

split-at : (lines : List (List ℕ)) (k : ℕ) → k < length lines → lines ≡ take k lines ++ get_or lines k [] ∷ drop (suc k) lines
split-at lines k h = sym (take-append-drop k lines) ∙ ap (λ (d : List (List ℕ)). take k lines ++ d) (drop-cons lines k [] h)

-- a fault on a line of a common prefix is that of both
common : (lines others whole from to : List (List ℕ)) (fault : Fault) → lines ≡ whole ++ from → others ≡ whole ++ to → (r : RefusesLines MAX_LEVEL lines fault)
    → r.n ≤ length whole → (s : RefusesLines MAX_LEVEL others fault) × (s.n ≤ length whole)
common lines others whole from to fault this other r early =
    let k : ℕ = r.n - 1 in
    let back : k + 1 ≡ r.n = omega (arith, r.place.counted) in
    let small : k < length whole = omega (arith, early, back) in
    let len : length lines ≡ length whole + length from = ap length this ∙ length-append whole from in
    let fore : take k lines ≡ take k whole = ap (take k) this ∙ take-append-le k whole from (omega (arith, small)) in
    let item : slice_index_or lines k [] ≡ get_or whole k [] =
    ap (λ (ls : List (List ℕ)). slice_index_or ls k []) this ∙ get_or-append whole from [] k small in
    let split : others ≡ take k whole ++ get_or whole k [] ∷ (drop (suc k) whole ++ to) =
    other ∙ ap (λ (ls : List (List ℕ)). ls ++ to) (split-at whole k small) ∙ append_assoc (take k whole) (get_or whole k [] ∷ drop (suc k) whole) to in
    let count : length (take k whole) ≡ k = length-take-le k whole (omega (arith, small)) in
    let b : Breaks MAX_LEVEL (take k whole) (get_or whole k []) fault.kind =
    subst (λ (l : List ℕ). Breaks MAX_LEVEL (take k whole) l fault.kind) item
    (subst (λ (f : List (List ℕ)). Breaks MAX_LEVEL f (slice_index_or lines k []) fault.kind) fore (r.at_line (omega (arith, early, len)))) in
    let at : fault.place.line ≡ min (length (take k whole) + 1) (2 ^ 64 - 1) = omega (arith, r.line, count, back) in
    let prefix : Prefix (Accepts MAX_LEVEL) (take k whole) = subst (Prefix (Accepts MAX_LEVEL)) fore (r.place.before k (omega (arith, back))) in
    let n = line-refused-n MAX_LEVEL others (take k whole) (get_or whole k []) (drop (suc k) whole ++ to) fault split prefix b at in
    (line-refused MAX_LEVEL others (take k whole) (get_or whole k []) (drop (suc k) whole ++ to) fault split prefix b at, omega (arith, n, count, small))

early-stays : (bytes more : List ℕ) (fault : Fault) (r : Refuses MAX_LEVEL bytes fault) → r.n ≤ length (whole_lines bytes)
    → RefusesPrefix MAX_LEVEL (bytes ++ more) fault
early-stays bytes more fault r early =
    let s = common (lines_of bytes) (lines_of (bytes ++ more)) (whole_lines bytes) (one_line (rest_line bytes)) (lines_of (rest_line bytes ++ more)) fault
    (lines_are_whole bytes) (lines_continue bytes more).lines r early in
    record {
      refuses = s.0;
      reported = inl (omega (
        arith,
        s.1,
        ap length (lines_continue bytes more).whole,
        length-append (whole_lines bytes) (whole_lines (rest_line bytes ++ more)),
      ));
    }

-- and that of a longer input, on a line that ends in the prefix, is the prefix's
early-reported : (bytes more input : List ℕ) (fault : Fault) → input ≡ bytes ++ more → (r : Refuses MAX_LEVEL input fault) → r.n ≤ length (whole_lines bytes)
    → RefusesPrefix MAX_LEVEL bytes fault
early-reported bytes more input fault is r early =
    let s = common (lines_of input) (lines_of bytes) (whole_lines bytes) (lines_of (rest_line bytes ++ more)) (one_line (rest_line bytes)) fault
    (ap lines_of is ∙ (lines_continue bytes more).lines) (lines_are_whole bytes) r early in
    record { refuses = s.0; reported = inl s.1 }

last-stays : (bytes more : List ℕ) (fault : Fault) (r : Refuses MAX_LEVEL bytes fault) → fault.kind ≡ LineTooLong → r.n ≡ length (whole_lines bytes) + 1
    → 0 < length (rest_line bytes)
    → Breaks MAX_LEVEL (whole_lines bytes) (rest_line bytes) LineTooLong → RefusesPrefix MAX_LEVEL (bytes ++ more) fault
last-stays bytes more fault r kind n some b =
    let whole = whole_lines bytes in
    let first = begins (rest_line bytes) more (rest_has_no_feed bytes) some in
    let lines : lines_of bytes ≡ whole ++ one_line (rest_line bytes) = lines_are_whole bytes in
    let fore : take (length whole) (lines_of bytes) ≡ whole = ap (take (length whole)) lines ∙ take-append-le (length whole) whole (one_line (rest_line bytes))
    (omega arith) ∙ all whole in
    let split : lines_of (bytes ++ more) ≡ whole ++ (rest_line bytes ++ first.rest) ∷ first.more =
    (lines_continue bytes more).lines ∙ ap (λ (ls : List (List ℕ)). whole ++ ls) first.is in
    record {
      refuses = line-refused MAX_LEVEL (lines_of (bytes ++ more)) whole (rest_line bytes ++ first.rest) first.more fault split
          (subst (Prefix (Accepts MAX_LEVEL)) fore (r.place.before (length whole) (omega (arith, n))))
          (subst (Breaks MAX_LEVEL whole (rest_line bytes ++ first.rest)) (sym kind) (breaks-longer whole (rest_line bytes) first.rest b))
          (omega (arith, r.line, n));
      reported = inr kind;
    }
  where
    all : (ls : List (List ℕ)) → take (length ls) ls ≡ ls
    all [] = refl
    all (l ∷ ls) = ap (λ (t : List (List ℕ)). l ∷ t) (all ls)

pub faults_stay : FaultsStay MAX_LEVEL
faults_stay bytes more fault r = elim r.reported [
  | inl early ↦ early-stays bytes more fault r.refuses early
  | inr k ↦ elim (long-place bytes fault r.refuses k) [
    | inl early ↦ early-stays bytes more fault r.refuses early
    | inr last ↦ last-stays bytes more fault r.refuses k last.0 last.1 last.2
  ]
]

-- ---- the first bytes of an input

pub length_hides_no_fault : LengthHidesNoFault MAX_LEVEL
length_hides_no_fault most input fault =
    let whole : take most input ++ drop most input ≡ input = take-append-drop most input in
    record {
      stays = λ r.
          let s : RefusesPrefix MAX_LEVEL input fault =
          subst (λ (b : List ℕ). RefusesPrefix MAX_LEVEL b fault) whole (faults_stay (take most input) (drop most input) fault r) in
          s.refuses;
      reported = early-reported (take most input) (drop most input) input fault (sym whole);
    }
