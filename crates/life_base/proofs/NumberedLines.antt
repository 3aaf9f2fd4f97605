-- Lines that are read one after another, each with its number.
use Rattle.std.proofs.Common.{◌≡◌, ℕ, ◌+◌, ◌-◌, ◌^◌, ◌≤◌, min, suc, List, [], ◌∷◌, ◌++◌, length, take, get_or, map, Bor, refl, ap, sym, subst, ◌∙◌, arith, length-append, Option, Some, append-nil}
use Rattle.std.proofs.Math.Seq.{take-append_seam, get_or-append_seam}
use Rattle.std.proofs.Math.ListN.{get_or-append}
use Rattle.std.proofs.lemmas.List.{take-append-le, map-append}
use Rattle.life_base.specs.Lines.{AreNumbered}
use Rattle.life_base.specs.Text.{numbered_from}
use Rattle.life_base.specs.Refusal.{IsRefusal, BreaksBy}
use Rattle.life_base.specs.declared.kind.Kind.{Kind}
use Rattle.life_base.specs.declared.fault.Fault.{Fault}
use Rattle.life_base.proofs.Refusals.{UnbrokenBelow, IsByLines, refusal_at}

-- the texts of numbered lines
abbrev pub texts : List (ℕ × List ℕ) → List (List ℕ)
texts ps = map (λ (p : ℕ × List ℕ). p.1) ps

-- numbered lines have the texts of the lines
pub numbered_texts : (lines : List (List ℕ)) (n : ℕ) → texts (numbered_from n lines) ≡ lines
numbered_texts [] n = refl
numbered_texts (line ∷ lines) n = ap (λ (t : List (List ℕ)). line ∷ t) (numbered_texts lines (min (n + 1) (2 ^ 64 - 1)))

pub length_texts : (ps : List (ℕ × List ℕ)) → length (texts ps) ≡ length ps
length_texts [] = refl
length_texts (p ∷ ps) = ap suc (length_texts ps)

first_number : List (ℕ × List ℕ) → ℕ
first_number [] = 0
first_number (p ∷ ps) = p.0

behind_first : List (ℕ × List ℕ) → List (ℕ × List ℕ)
behind_first [] = []
behind_first (p ∷ ps) = ps

-- the number of the line after those of a list
pub number_at : (lines : List (List ℕ)) (before : List (ℕ × List ℕ)) (n : ℕ) (k : ℕ) (line : List ℕ) (rest : List (ℕ × List ℕ))
    → n ≤ 2 ^ 64 - 1 → before ++ (k, line) ∷ rest ≡ numbered_from n lines → k ≡ min (n + length before) (2 ^ 64 - 1)
unfolding first_number behind_first
number_at [] [] n k line rest h e = cc
number_at [] (p ∷ before) n k line rest h e = cc
number_at (x ∷ lines) [] n k line rest h e = let q : k ≡ n = ap first_number e in omega arith
number_at (x ∷ lines) (p ∷ before) n k line rest h e =
    let t : before ++ (k, line) ∷ rest ≡ numbered_from (min (n + 1) (2 ^ 64 - 1)) lines = ap behind_first e in
    number_at lines before (min (n + 1) (2 ^ 64 - 1)) k line rest (omega arith) t ∙ omega arith

-- all lines were read, once none is left
pub all_read : (lines : List (List ℕ)) (before rest : List (ℕ × List ℕ)) → before ++ rest ≡ numbered_from 1 lines → rest ≡ [] → texts before ≡ lines
all_read lines before rest e none =
    ap texts (sym (append-nil before) ∙ ap (λ (t : List (ℕ × List ℕ)). before ++ t) (sym none) ∙ e) ∙ numbered_texts lines 1

-- a line that an iterator of numbered lines has handed out
abbrev pub numbered : ℕ × Bor (List ℕ) → ℕ × List ℕ
numbered p = (p.0, p.1.now)

-- the same of a reader that has taken each line
pub whole_read : (lines read : List (List ℕ)) (yielded : List (ℕ × Bor (List ℕ))) (rest : List (ℕ × List ℕ)) → read ≡ texts (map numbered yielded)
    → map numbered yielded ++ rest ≡ numbered_from 1 lines → rest ≡ [] → read ≡ lines
whole_read lines read yielded rest consumed all none = consumed ∙ all_read lines (map numbered yielded) rest all none

-- the lines of a file are those before a line, the line and those after it
pub lines_around : (lines : List (List ℕ)) (before : List (ℕ × List ℕ)) (k : ℕ) (line : List ℕ) (rest : List (ℕ × List ℕ))
    → before ++ (k, line) ∷ rest ≡ numbered_from 1 lines → texts before ++ line ∷ texts rest ≡ lines
lines_around lines before k line rest e = sym (map-append (λ (p : ℕ × List ℕ). p.1) before ((k, line) ∷ rest)) ∙ ap texts e ∙ numbered_texts lines 1

pub lines_are_numbered : (lines : List (List ℕ)) → AreNumbered lines (numbered_from 1 lines)
lines_are_numbered lines = record {
  texts = numbered_texts lines 1;
  numbers = λ before k line rest e. let n = number_at lines before 1 k line rest (omega arith) (sym e) in omega (arith, n);
}

-- Why a file is refused that is read line by line, for a grammar that says of each line whether it may stand where it stands.
module _ (Grammar : List (List ℕ) → Type 0) (broken : List (List ℕ) → List ℕ → Option Kind) (missing : List (List ℕ) → Option Kind)
    (by_lines : IsByLines Grammar broken missing) where
  -- the line breaks a rule, and none before it does
  pub refused_line : (before : List (List ℕ)) (line : List ℕ) (rest : List (List ℕ)) (kind : Kind)
      → UnbrokenBelow Grammar broken missing before (length before) → broken before line ≡ Some kind
      → IsRefusal Grammar (BreaksBy broken) missing (before ++ line ∷ rest)
      (record { place = record { line = min (length before + 1) (2 ^ 64 - 1) }; kind = kind })
  refused_line before line rest kind u b =
      refusal_at Grammar broken missing by_lines (before ++ line ∷ rest) (length before) kind (omega (arith, length-append before (line ∷ rest)))
      (λ k h.
      let e : take k (before ++ line ∷ rest) ≡ take k before = take-append-le k before (line ∷ rest) (omega arith) in
      let f : get_or (before ++ line ∷ rest) k [] ≡ get_or before k [] = get_or-append before (line ∷ rest) [] k h in
      rw (e, f) (u k h))
      (let e : take (length before) (before ++ line ∷ rest) ≡ before = take-append_seam before (line ∷ rest) in
      let f : get_or (before ++ line ∷ rest) (length before) [] ≡ line = get_or-append_seam before line rest [] in
      rw (e, f) b)

  -- the same of lines that are read with their numbers
  pub refused_at : (lines : List (List ℕ)) (before : List (ℕ × List ℕ)) (k : ℕ) (line : List ℕ) (rest : List (ℕ × List ℕ)) (fault : Fault)
      → before ++ (k, line) ∷ rest ≡ numbered_from 1 lines → UnbrokenBelow Grammar broken missing (texts before) (length (texts before))
      → broken (texts before) line ≡ Some fault.kind → fault.place.line ≡ k → IsRefusal Grammar (BreaksBy broken) missing lines fault
  refused_at lines before k line rest fault e u b l =
      let m : min (length (texts before) + 1) (2 ^ 64 - 1) ≡ fault.place.line = omega
      (arith, number_at lines before 1 k line rest (omega arith) e, length_texts before) in
      let P : List (List ℕ) → Type 0 = λ ls. IsRefusal Grammar (BreaksBy broken) missing ls fault in
      let Q : ℕ → Type 0 = λ n. IsRefusal Grammar (BreaksBy broken) missing (texts before ++ line ∷ texts rest)
      (record { place = record { line = n }; kind = fault.kind }) in
      subst P (lines_around lines before k line rest e) (subst Q m (refused_line (texts before) line (texts rest) fault.kind u b))
