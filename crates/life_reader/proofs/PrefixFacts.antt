-- The prefix of a file: what its lines are as bytes come, and why it is refused.
use Rattle.std.proofs.Common.{◌≡◌, ℕ, suc, ◌+◌, ◌-◌, ◌^◌, ◌<◌, ◌≤◌, min, max, Bool, true, false, cond, List, [], ◌∷◌, ◌++◌, length, take, refl, ap, sym, ◌∙◌, subst, arith, ◌⊎◌, inl, inr, Some, None, append_assoc, MatchBool, IsTrue, ◌==◌, position, Result, Ok, Err, IfErr, append-nil, length-append}
use Rattle.std.specs.List.{slice_index_or}
use Rattle.std.proofs.lemmas.Bool.Decides.{nat_tests}
use Rattle.std.proofs.lemmas.List.{take-append-le}
use Rattle.std.proofs.Math.Seq.{take-append_seam, get_or-append_seam}
use Rattle.life_base.specs.Lines.{has_no_feed, whole_lines, rest_line, one_line}
use Rattle.life_base.proofs.WholeLines.{lines_are_whole, lines_continue, lines_longer, lines_ended}
use Rattle.life_base.proofs.Texts.{too_long}
use Rattle.life_base.proofs.LineEnds.{alone_of_some}
use Rattle.life_base.proofs.Basics.{le_or_lt, true_false}
use Rattle.life_base.specs.Refusal.{Prefix, fault_at, fault_of, is_placeless}
use Rattle.life_base.specs.Text.{lines_of, is_too_long}
use Rattle.life_base.specs.declared.cell.TheConstants.{MAX_LEVEL}
use Rattle.life_base.specs.declared.fault.Fault.{Fault}
use Rattle.life_base.specs.declared.kind.Kind.{Kind}
use Rattle.life_base.specs.declared.kind.Kind.TheVariants.{LineTooLong, NoHeader, Memory}
use Rattle.life_mc.specs.Cells.{root_level}
use Rattle.life_mc.specs.Reading.{broken_rule, squares_of}
use Rattle.life_mc.proofs.LineKinds.{long_lines_break as long_lines_break_macrocell, broken_kind, names_line}
use Rattle.life_quad.specs.Store.{Nodes, stored_squares}
use Rattle.life_rle.specs.Decided.{LacksHeader}
use Rattle.life_rle.specs.Grammar.{IsRle, IsSomeRle, IsMarked, IsUnmarked, BreaksRle}
use Rattle.life_rle.specs.Pattern.{Rle}
use Rattle.life_rle.proofs.DecidedLaw.{decided}
use Rattle.life_rle.proofs.PrefixLaws.{lines_behind_mark_are_free, mark_is_decided, long_lines_break, prefixes_are_files}
use Rattle.life_rle.proofs.LineKinds.{Breaks-kind, names_line as names_line_rle}
use Rattle.life_reader.specs.Feeding.{RefusesPrefix, IsOverAt}
use Rattle.life_pattern.specs.Files.{Says, as_macrocell, as_rle, Reads, Accepts, Breaks, Refuses, missing_file_part, is_macrocell}
use Rattle.life_reader.specs.Needs.{level_of_root}
use Rattle.life_pattern.specs.Store.{IsShortageOf}
use Rattle.life_quad.specs.Keeping.{IsShortageKind}
use Rattle.life_reader.specs.Taking.{IsEnd, bytes_of, consumed_lines, IsOpen, IsOver, IsLineFault, IsGoing, IsFilePrefix}
use Rattle.life_pattern.specs.Universe.{Universe, rle_universe}
use Rattle.life_reader.specs.declared.progress.Progress.{Progress}
use Rattle.life_reader.specs.declared.progress.Progress.TheVariants as progress
use Rattle.life_reader.proofs.FeedFacts.{no-feed}
use Rattle.life_pattern.proofs.Formats.{macrocell-first}
use Rattle.life_reader.proofs.Unions.{macrocell-prefix, rle-prefix, no_lines, consumed-prefix, line-refused, line-refused-n, end-refused}

-- ---- the lines that were taken

-- they can be continued to a file
pub open-prefix : (p : Progress) → IsOpen p → Prefix (Accepts MAX_LEVEL) (consumed_lines p)
open-prefix progress.Undecided o = no_lines MAX_LEVEL
open-prefix (progress.Rle reader builder runs) o = rle-prefix MAX_LEVEL reader.lines o.prefix
open-prefix (progress.Macrocell reader ids waiting) o = macrocell-prefix MAX_LEVEL reader.lines o.prefix

-- the first line alone gives the format
goes-on : (lines more : List (List ℕ)) → 0 < length lines → is_macrocell (lines ++ more) ≡ is_macrocell lines
goes-on [] more h = absurd (omega arith)
goes-on (first ∷ lines) more h = refl

by-format : (lines : List (List ℕ)) (line : List ℕ) (kind : Kind) (m : Bool) → is_macrocell (lines ++ line ∷ []) ≡ m
    → MatchBool m (broken_rule MAX_LEVEL lines line ≡ Some kind) (BreaksRle MAX_LEVEL lines line kind) → Breaks MAX_LEVEL lines line kind
by-format lines line kind m e h = subst (λ (v : Bool). MatchBool v (broken_rule MAX_LEVEL lines line ≡ Some kind) (BreaksRle MAX_LEVEL lines line kind)) (sym e)
    h

pub long-macrocell : (lines : List (List ℕ)) (line : List ℕ) → is_too_long line ≡ true → broken_rule MAX_LEVEL lines line ≡ Some LineTooLong
unfolding broken_rule
long-macrocell lines line h = rw h refl

long-rle : (lines : List (List ℕ)) (line : List ℕ) → is_too_long line ≡ true → Prefix (IsSomeRle MAX_LEVEL) lines
    → ((file : Rle) → IsMarked MAX_LEVEL lines file → ⊥)
    → BreaksRle MAX_LEVEL lines line LineTooLong
long-rle lines line h p n = ((long_lines_break MAX_LEVEL lines line).1 h p n LineTooLong).1 refl

no-mark : (file : Rle) → IsMarked MAX_LEVEL [] file → ⊥
no-mark file h = by h.prefix h.whole
  where
    by : (prefix : List (List ℕ)) → [] ≡ prefix ++ h.last ∷ h.free → ⊥
    by [] e = cc
    by (line ∷ prefix) e = cc

long-first : (line : List ℕ) (m : Bool) → is_too_long line ≡ true
    → MatchBool m (broken_rule MAX_LEVEL [] line ≡ Some LineTooLong) (BreaksRle MAX_LEVEL [] line LineTooLong)
long-first line true h = long-macrocell [] line h
long-first line false h = long-rle [] line h ((prefixes_are_files MAX_LEVEL []).1 (inr (_, refl))) no-mark

-- a line that is too long breaks a rule after them
pub long-breaks : (p : Progress) (line : List ℕ) → IsOpen p → (IsOver p → ⊥) → is_too_long line ≡ true → Breaks MAX_LEVEL (consumed_lines p) line LineTooLong
long-breaks progress.Undecided line o n h = by-format [] line LineTooLong (is_macrocell (line ∷ [])) refl (long-first line (is_macrocell (line ∷ [])) h)
long-breaks (progress.Rle reader builder runs) line o n h =
    by-format reader.lines line LineTooLong false (goes-on reader.lines (line ∷ []) o.some ∙ o.format)
    (long-rle reader.lines line h o.prefix (λ file m. n (file, m)))
long-breaks (progress.Macrocell reader ids waiting) line o n h =
    by-format reader.lines line LineTooLong true (goes-on reader.lines (line ∷ []) o.some ∙ o.format) (long-macrocell reader.lines line h)

-- ---- bytes that come

-- the lines up to the end of a line, and those after it, where all lines or the whole ones are meant
lines-behind : (all : List ℕ → List (List ℕ)) → ((prefix more : List ℕ) → all (prefix ++ more) ≡ whole_lines prefix ++ all (rest_line prefix ++ more))
    → (bytes kept end rest : List ℕ) (ended : ℕ) (lines : List (List ℕ)) → IsGoing bytes kept ended lines → has_no_feed end ≡ true
    → all (bytes ++ end ++ 10 ∷ [] ++ rest) ≡ lines ++ (kept ++ end) ∷ all rest
lines-behind all continue bytes kept end rest ended lines g h =
    let e = lines_ended bytes end h in
    continue (bytes ++ end ++ 10 ∷ []) rest
    ∙ ap (λ (r : List ℕ). whole_lines (bytes ++ end ++ 10 ∷ []) ++ all (r ++ rest)) e.rest
    ∙ ap (λ (ls : List (List ℕ)). ls ++ all rest) e.whole
    ∙ ap (λ (r : List ℕ). whole_lines bytes ++ (r ++ end) ∷ [] ++ all rest) (sym g.rest)
    ∙ ap (λ (ls : List (List ℕ)). ls ++ (kept ++ end) ∷ [] ++ all rest) (sym g.whole)
    ∙ append_assoc lines ((kept ++ end) ∷ []) (all rest)

lines-at : (bytes kept end rest : List ℕ) (ended : ℕ) (lines : List (List ℕ)) → IsGoing bytes kept ended lines → has_no_feed end ≡ true
    → lines_of (bytes ++ end ++ 10 ∷ [] ++ rest) ≡ lines ++ (kept ++ end) ∷ lines_of rest
lines-at = lines-behind lines_of (λ prefix more. (lines_continue prefix more).lines)

pub whole-at : (bytes kept end rest : List ℕ) (ended : ℕ) (lines : List (List ℕ)) → IsGoing bytes kept ended lines → has_no_feed end ≡ true
    → whole_lines (bytes ++ end ++ 10 ∷ [] ++ rest) ≡ lines ++ (kept ++ end) ∷ whole_lines rest
whole-at = lines-behind whole_lines (λ prefix more. (lines_continue prefix more).whole)

-- a line's end ends one line more
pub prefix-ended : (bytes kept end : List ℕ) (ended next : ℕ) (p q : Progress) → IsGoing bytes kept ended (consumed_lines p) → has_no_feed end ≡ true → IsOpen q
    → consumed_lines q ≡ consumed_lines p ++ (kept ++ end) ∷ [] → next ≡ min (ended + 1) (2 ^ 64 - 1) → IsFilePrefix (bytes ++ end ++ 10 ∷ []) [] next q
prefix-ended bytes kept end ended next p q g h o e n =
    let l = lines_ended bytes end h in
    let whole : consumed_lines q ≡ whole_lines (bytes ++ end ++ 10 ∷ []) =
    e ∙ ap (λ (ls : List (List ℕ)). ls ++ (kept ++ end) ∷ []) g.whole ∙ ap (λ (r : List ℕ). whole_lines bytes ++ (r ++ end) ∷ []) g.rest ∙ sym l.whole in
    let count : length (consumed_lines q) ≡ length (consumed_lines p) + 1 = ap length e ∙ length-append (consumed_lines p) ((kept ++ end) ∷ []) in
    record {
      short = omega arith;
      begun = o;
      going = λ _. record { whole = whole; rest = sym l.rest; count = omega (arith, g.count, n, count) };
      over = λ _. record { free = []; whole = sym whole ∙ sym (append-nil (consumed_lines q)); none = refl };
    }

-- bytes without a line feed are kept
pub prefix-kept : (bytes kept more : List ℕ) (ended : ℕ) (p : Progress) → IsFilePrefix bytes kept ended p → (IsOver p → ⊥) → has_no_feed more ≡ true
    → length kept + length more ≤ 2 ^ 20 → IsFilePrefix (bytes ++ more) (kept ++ more) ended p
prefix-kept bytes kept more ended p f n h l =
    let g = f.going n in
    let e = lines_longer bytes more h in
    record {
      short = omega (arith, length-append kept more);
      begun = f.begun;
      going = λ _. record { whole = g.whole ∙ sym e.whole; rest = ap (λ (r : List ℕ). r ++ more) g.rest ∙ sym e.rest; count = g.count };
      over = λ o. absurd (n o);
    }

-- after `!` all bytes are free
pub prefix-over : (bytes kept more : List ℕ) (ended : ℕ) (p : Progress) → IsFilePrefix bytes kept ended p → IsOver p → IsFilePrefix (bytes ++ more) kept ended p
prefix-over bytes kept more ended p f o =
    let r = f.over o in
    let e = lines_continue bytes more in
    record {
      short = f.short;
      begun = f.begun;
      going = λ n. absurd (n o);
      over = λ _. record {
        free = r.free ++ whole_lines (rest_line bytes ++ more);
        whole = e.whole ∙ ap (λ (ls : List (List ℕ)). ls ++ whole_lines (rest_line bytes ++ more)) r.whole
            ∙ append_assoc (consumed_lines p) r.free (whole_lines (rest_line bytes ++ more));
        none = r.none;
      };
    }

-- ---- refusals

-- a line's fault is reported in the piece in which it ends
pub line-refuses : (bytes kept end : List ℕ) (ended : ℕ) (p : Progress) (fault : Fault) → IsOpen p → IsGoing bytes kept ended (consumed_lines p)
    → has_no_feed end
    ≡ true
    → IsLineFault MAX_LEVEL (consumed_lines p) (kept ++ end) ended fault → (rest : List ℕ) → RefusesPrefix MAX_LEVEL (bytes ++ end ++ 10 ∷ [] ++ rest) fault
line-refuses bytes kept end ended p fault o g h b rest =
    let at : fault.place.line ≡ min (length (consumed_lines p) + 1) (2 ^ 64 - 1) = omega (arith, b.place, g.count) in
    let lines = lines-at bytes kept end rest ended (consumed_lines p) g h in
    let all : List (List ℕ) = lines_of (bytes ++ end ++ 10 ∷ [] ++ rest) in
    let n = line-refused-n MAX_LEVEL all (consumed_lines p) (kept ++ end) (lines_of rest) fault lines (open-prefix p o) b.breaks at in
    record {
      refuses = line-refused MAX_LEVEL all (consumed_lines p) (kept ++ end) (lines_of rest) fault lines (open-prefix p o) b.breaks at;
      reported = inl (omega (
        arith,
        n,
        ap length (whole-at bytes kept end rest ended (consumed_lines p) g h),
        length-append (consumed_lines p)
            ((kept ++ end) ∷ whole_lines rest),
      ));
    }

-- a rest is refused that is too long
pub rest-refuses : (bytes kept more : List ℕ) (ended : ℕ) (p : Progress) (fault : Fault) → IsOpen p → (IsOver p → ⊥)
    → IsGoing bytes kept ended (consumed_lines p)
    → has_no_feed more ≡ true
    → 2 ^ 20 < length kept + length more → fault ≡ fault_at (min (ended + 1) (2 ^ 64 - 1)) LineTooLong → RefusesPrefix MAX_LEVEL (bytes ++ more) fault
rest-refuses bytes kept more ended p fault o n g h l f =
    let e = lines_longer bytes more h in
    let long : 2 ^ 20 < length (kept ++ more) = omega (arith, length-append kept more) in
    let whole : lines_of (bytes ++ more) ≡ consumed_lines p ++ (kept ++ more) ∷ [] =
    lines_are_whole (bytes ++ more)
    ∙ ap (λ (ls : List (List ℕ)). ls ++ one_line (rest_line (bytes ++ more))) (e.whole ∙ sym g.whole)
    ∙ ap (λ (r : List ℕ). consumed_lines p ++ one_line r) (e.rest ∙ ap (λ (r : List ℕ). r ++ more) (sym g.rest))
    ∙ ap (λ (ls : List (List ℕ)). consumed_lines p ++ ls) (alone_of_some (kept ++ more) (omega arith)) in
    let kind : fault.kind ≡ LineTooLong = ap (λ (f : Fault). f.kind) f in
    let place : fault.place.line ≡ min (ended + 1) (2 ^ 64 - 1) = ap (λ (f : Fault). f.place.line) f in
    record {
      refuses = line-refused MAX_LEVEL (lines_of (bytes ++ more)) (consumed_lines p) (kept ++ more) [] fault whole (open-prefix p o)
          (subst (Breaks MAX_LEVEL (consumed_lines p) (kept ++ more)) (sym kind) (long-breaks p (kept ++ more) o n (too_long (kept ++ more) long)))
          (omega (arith, place, g.count));
      reported = inr kind;
    }

-- ---- no refusal is reported late

pub breaks-long : (lines : List (List ℕ)) (line : List ℕ) → Breaks MAX_LEVEL lines line LineTooLong → is_too_long line ≡ true
breaks-long lines line = by (is_macrocell (lines ++ line ∷ []))
  where
    by : (m : Bool) → MatchBool m (broken_rule MAX_LEVEL lines line ≡ Some LineTooLong) (BreaksRle MAX_LEVEL lines line LineTooLong) → is_too_long line ≡ true
    by true h = too_long line ((long_lines_break_macrocell MAX_LEVEL lines line).0 h)
    by false h = (long_lines_break MAX_LEVEL lines line).0 h

not-missing : (lines : List (List ℕ)) → missing_file_part lines ≡ Some LineTooLong → ⊥
not-missing lines = by (is_macrocell lines)
  where
    by : (m : Bool) → cond m None (Some NoHeader) ≡ Some LineTooLong → ⊥
    by true e = cc
    by false e = cc

-- where a line is refused that is too long: among those that have ended, or after them
pub long-place : (bytes : List ℕ) (fault : Fault) (r : Refuses MAX_LEVEL bytes fault) → fault.kind ≡ LineTooLong
    → (r.n ≤ length (whole_lines bytes))
    ⊎ ((r.n ≡ length (whole_lines bytes) + 1) × (0 < length (rest_line bytes)) × Breaks MAX_LEVEL (whole_lines bytes) (rest_line bytes) LineTooLong)
long-place bytes fault r k = elim (le_or_lt r.n (length (lines_of bytes))) [
  | inl within ↦ elim (le_or_lt r.n (length (whole_lines bytes))) [
    | inl early ↦ inl early
    | inr last ↦ inr (by (rest_line bytes) refl within last)
  ]
  | inr behind ↦ absurd (not-missing (lines_of bytes) (subst (λ (kind : Kind). missing_file_part (lines_of bytes) ≡ Some kind) k (r.at_end behind)))
]
  where
    by : (text : List ℕ) → rest_line bytes ≡ text → r.n ≤ length (lines_of bytes) → length (whole_lines bytes) < r.n
        → (r.n ≡ length (whole_lines bytes) + 1) × (0 < length (rest_line bytes)) × Breaks MAX_LEVEL (whole_lines bytes) (rest_line bytes) LineTooLong
    by [] e within last =
        let len : length (lines_of bytes) ≡ length (whole_lines bytes) =
        ap length (lines_are_whole bytes ∙ ap (λ (t : List ℕ). whole_lines bytes ++ one_line t) e ∙ append-nil (whole_lines bytes)) in
        absurd (omega arith)
    by (b ∷ text) e within last =
        let lines : lines_of bytes ≡ whole_lines bytes ++ rest_line bytes ∷ [] =
        lines_are_whole bytes ∙ ap (λ (t : List ℕ). whole_lines bytes ++ one_line t) e ∙ ap (λ (t : List ℕ). whole_lines bytes ++ t ∷ []) (sym e) in
        let len : length (lines_of bytes) ≡ length (whole_lines bytes) + 1 = ap length lines ∙ length-append (whole_lines bytes) (rest_line bytes ∷ []) in
        let some : length (rest_line bytes) ≡ suc (length text) = ap length e in
        let less : r.n - 1 ≡ length (whole_lines bytes) = omega arith in
        let fore : take (length (whole_lines bytes)) (lines_of bytes) ≡ whole_lines bytes =
        ap (take (length (whole_lines bytes))) lines ∙ take-append_seam (whole_lines bytes) (rest_line bytes ∷ []) in
        let item : slice_index_or (lines_of bytes) (length (whole_lines bytes)) [] ≡ rest_line bytes =
        ap (λ (ls : List (List ℕ)). slice_index_or ls (length (whole_lines bytes)) []) lines ∙ get_or-append_seam (whole_lines bytes) (rest_line bytes) [] [] in
        let b0 : Breaks MAX_LEVEL (take (r.n - 1) (lines_of bytes)) (slice_index_or (lines_of bytes) (r.n - 1) []) LineTooLong =
        subst (Breaks MAX_LEVEL (take (r.n - 1) (lines_of bytes)) (slice_index_or (lines_of bytes) (r.n - 1) [])) k (r.at_line within) in
        let b1 : Breaks MAX_LEVEL (take (length (whole_lines bytes)) (lines_of bytes)) (slice_index_or (lines_of bytes) (length (whole_lines bytes)) [])
        LineTooLong =
        subst (λ (n : ℕ). Breaks MAX_LEVEL (take n (lines_of bytes)) (slice_index_or (lines_of bytes) n []) LineTooLong) less b0 in
        let b2 : Breaks MAX_LEVEL (whole_lines bytes) (slice_index_or (lines_of bytes) (length (whole_lines bytes)) []) LineTooLong =
        subst (λ (f : List (List ℕ)). Breaks MAX_LEVEL f (slice_index_or (lines_of bytes) (length (whole_lines bytes)) []) LineTooLong) fore b1 in
        (omega arith, omega arith, subst (λ (l : List ℕ). Breaks MAX_LEVEL (whole_lines bytes) l LineTooLong) item b2)

-- Lines that can be continued, and after them a rest that isn't too long: these bytes aren't refused.
module _ (bytes : List ℕ) (prefix : Prefix (Accepts MAX_LEVEL) (whole_lines bytes))
    (rest : Breaks MAX_LEVEL (whole_lines bytes) (rest_line bytes) LineTooLong → ⊥) where
  in-whole : (n : ℕ) → n ≤ length (whole_lines bytes) → Prefix (Accepts MAX_LEVEL) (take n (lines_of bytes))
  in-whole n h =
      subst (Prefix (Accepts MAX_LEVEL)) (sym (ap (take n) (lines_are_whole bytes) ∙ take-append-le n (whole_lines bytes) (one_line (rest_line bytes)) h))
      (consumed-prefix MAX_LEVEL n (whole_lines bytes) prefix)

  not-early : (fault : Fault) (r : Refuses MAX_LEVEL bytes fault) → r.n ≤ length (whole_lines bytes) → ⊥
  not-early fault r early =
      let len : length (whole_lines bytes) ≤ length (lines_of bytes) =
      omega (arith, ap length (lines_are_whole bytes), length-append (whole_lines bytes) (one_line (rest_line bytes))) in
      r.place.here (omega arith) (in-whole r.n early)

  unrefused : (fault : Fault) → RefusesPrefix MAX_LEVEL bytes fault → ⊥
  unrefused fault r = elim r.reported [
    | inl early ↦ not-early fault r.refuses early
    | inr k ↦ elim (long-place bytes fault r.refuses k) [ inl early ↦ not-early fault r.refuses early | inr last ↦ rest last.2 ]
  ]

not-long : (line : List ℕ) → length line ≤ 2 ^ 20 → is_too_long line ≡ true → ⊥
not-long line h e = grind (arith, nat_tests, e)

-- after `!` the lines are a file of RLE, and none breaks a rule
over-marked : (p : Progress) → IsOpen p → IsOver p → (more : List (List ℕ)) → (is_macrocell (consumed_lines p ++ more) ≡ false)
    × ((file : Rle) × IsMarked MAX_LEVEL (consumed_lines p ++ more) file)
over-marked progress.Undecided o v more = absurd v
over-marked (progress.Rle reader builder runs) o v more =
    (goes-on reader.lines more o.some ∙ o.format, (v.0, (lines_behind_mark_are_free MAX_LEVEL reader.lines more v.0 v.1).0))
over-marked (progress.Macrocell reader ids waiting) o v more = absurd v

over-unbroken : (p : Progress) → IsOpen p → IsOver p → (more : List (List ℕ)) (line : List ℕ) (kind : Kind)
    → Breaks MAX_LEVEL (consumed_lines p ++ more) line kind
    → ⊥
over-unbroken progress.Undecided o v more line kind b = absurd v
over-unbroken (progress.Rle reader builder runs) o v more line kind b =
    let m : is_macrocell (reader.lines ++ more ++ line ∷ []) ≡ false = ap is_macrocell (append_assoc reader.lines more (line ∷ []))
    ∙ goes-on reader.lines (more ++ line ∷ []) o.some ∙ o.format in
    (lines_behind_mark_are_free MAX_LEVEL reader.lines more v.0 v.1).1 line kind
    (subst (λ (b : Bool). MatchBool b (broken_rule MAX_LEVEL (reader.lines ++ more) line ≡ Some kind) (BreaksRle MAX_LEVEL (reader.lines ++ more) line kind)) m
    b)
over-unbroken (progress.Macrocell reader ids waiting) o v more line kind b = absurd v

marked-prefix : (lines : List (List ℕ)) (file : Rle) → IsMarked MAX_LEVEL lines file → Prefix (Accepts MAX_LEVEL) lines
marked-prefix lines file m = rle-prefix MAX_LEVEL lines ([], (file, subst (λ (ls : List (List ℕ)). IsRle MAX_LEVEL ls file) (sym (append-nil lines)) (inr m)))

-- bytes that were taken are not refused
pub prefix-unrefused : (bytes kept : List ℕ) (ended : ℕ) (p : Progress) → IsFilePrefix bytes kept ended p → (fault : Fault)
    → RefusesPrefix MAX_LEVEL bytes fault → ⊥
prefix-unrefused bytes kept ended p f fault r =
    let n : IsOver p → ⊥ = λ o. in-over o in
    let g = f.going n in
    unrefused bytes (subst (Prefix (Accepts MAX_LEVEL)) g.whole (open-prefix p f.begun))
    (λ b. not-long (rest_line bytes) (subst (λ (t : List ℕ). length t ≤ 2 ^ 20) g.rest f.short) (breaks-long (whole_lines bytes) (rest_line bytes) b)) fault r
  where
    in-over : IsOver p → ⊥
    in-over o =
        let v = f.over o in
        let m = over-marked p f.begun o v.free in
        unrefused bytes (subst (Prefix (Accepts MAX_LEVEL)) (sym v.whole) (marked-prefix (consumed_lines p ++ v.free) m.1.0 m.1.1))
        (λ b. over-unbroken p f.begun o v.free (rest_line bytes) LineTooLong
        (subst (λ (ls : List (List ℕ)). Breaks MAX_LEVEL ls (rest_line bytes) LineTooLong) v.whole b)) fault r

-- ---- nothing is kept after `!`

not-over-at : (p : Progress) → IsOpen p → (IsOver p → ⊥) → is_macrocell (consumed_lines p) ≡ false → (file : Rle) → IsMarked MAX_LEVEL (consumed_lines p) file
    → ⊥
not-over-at progress.Undecided o n m file h = no-mark file h
not-over-at (progress.Rle reader builder runs) o n m file h = n (file, h)
not-over-at (progress.Macrocell reader ids waiting) o n m file h = true_false (is_macrocell reader.lines) o.format m

some-none : (b : ℕ) (bytes : List ℕ) → b ∷ bytes ≡ [] → ⊥
some-none b bytes e = cc

pub over-keeps-none : (bytes kept : List ℕ) (ended : ℕ) (p : Progress) → IsFilePrefix bytes kept ended p → IsOverAt MAX_LEVEL bytes → kept ≡ []
over-keeps-none bytes [] ended p f h = refl
over-keeps-none bytes (b ∷ kept) ended p f h =
    let n : IsOver p → ⊥ = λ o. some-none b kept (f.over o).none in
    let g = f.going n in
    absurd (not-over-at p f.begun n (ap is_macrocell g.whole ∙ h.0) h.1.0 (subst (λ (ls : List (List ℕ)). IsMarked MAX_LEVEL ls h.1.0) (sym g.whole) h.1.1))

-- ---- the end of the input

pub kept-going : (bytes kept : List ℕ) (ended : ℕ) (p : Progress) → IsFilePrefix bytes kept ended p → 0 < length kept → IsOver p → ⊥
kept-going bytes kept ended p f h o = let e : length kept ≡ 0 = ap length (f.over o).none in absurd (omega arith)

-- a rest is a line
pub rest-lines : (bytes kept : List ℕ) (ended : ℕ) (lines : List (List ℕ)) → IsGoing bytes kept ended lines → 0 < length kept → lines_of bytes ≡ lines
    ++ kept ∷ []
rest-lines bytes kept ended lines g h =
    lines_are_whole bytes ∙ ap (λ (ls : List (List ℕ)). ls ++ one_line (rest_line bytes)) (sym g.whole)
    ∙ ap (λ (r : List ℕ). lines ++ one_line r) (sym g.rest) ∙ ap (λ (ls : List (List ℕ)). lines ++ ls) (alone_of_some kept h)

pub kept-refuses : (bytes kept : List ℕ) (ended : ℕ) (p : Progress) (fault : Fault) → IsFilePrefix bytes kept ended p → 0 < length kept
    → IsLineFault MAX_LEVEL (consumed_lines p) kept ended fault → Refuses MAX_LEVEL bytes fault
kept-refuses bytes kept ended p fault f h b =
    let g = f.going (kept-going bytes kept ended p f h) in
    line-refused MAX_LEVEL (lines_of bytes) (consumed_lines p) kept [] fault (rest-lines bytes kept ended (consumed_lines p) g h)
    (open-prefix p f.begun) b.breaks
    (omega (arith, b.place, g.count))

pub kept-end : (bytes kept : List ℕ) (ended next : ℕ) (p q : Progress) → IsFilePrefix bytes kept ended p → 0 < length kept → IsOpen q
    → consumed_lines q ≡ consumed_lines p ++ kept ∷ [] → next ≡ min (ended + 1) (2 ^ 64 - 1) → IsEnd bytes next q
kept-end bytes kept ended next p q f h o e n =
    let g = f.going (kept-going bytes kept ended p f h) in
    let lines : lines_of bytes ≡ consumed_lines q = rest-lines bytes kept ended (consumed_lines p) g h ∙ sym e in
    let count : length (consumed_lines q) ≡ length (consumed_lines p) + 1 = ap length e ∙ length-append (consumed_lines p) (kept ∷ []) in
    record {
      begun = o;
      going = λ _. (lines, omega (arith, g.count, n, count));
      over = λ _. ([], lines ∙ sym (append-nil (consumed_lines q)));
    }

pub whole-end : (bytes kept : List ℕ) (ended : ℕ) (p : Progress) → IsFilePrefix bytes kept ended p → kept ≡ [] → IsEnd bytes ended p
whole-end bytes kept ended p f h = record {
  begun = f.begun;
  going = λ n.
      let g = f.going n in (
        lines_are_whole bytes ∙ ap (λ (ls : List (List ℕ)). ls ++ one_line (rest_line bytes)) (sym g.whole)
            ∙ ap (λ (r : List ℕ). consumed_lines p ++ one_line r) (sym g.rest ∙ h) ∙ append-nil (consumed_lines p),
        g.count,
      );
  over = λ o.
      let v = f.over o in (
        v.free ++ one_line (rest_line bytes),
        lines_are_whole bytes ∙ ap (λ (ls : List (List ℕ)). ls ++ one_line (rest_line bytes)) v.whole
            ∙ append_assoc (consumed_lines p) v.free (one_line (rest_line bytes)),
      );
}

-- the root of RLE has the level of the plane
pub top-level : (lines : List (List ℕ)) → is_macrocell lines ≡ false → level_of_root MAX_LEVEL lines ≡ MAX_LEVEL
top-level lines e = rw e refl

-- and that of a macrocell file the level of its last node line
pub macrocell-level : (lines : List (List ℕ)) → is_macrocell lines ≡ true → level_of_root MAX_LEVEL lines ≡ max 1 (root_level (squares_of lines))
macrocell-level lines e = rw e refl

-- what the lines say, the bytes say
pub end-says : (bytes : List ℕ) (ended : ℕ) (p : Progress) (u : Universe) → IsEnd bytes ended p → Says MAX_LEVEL (consumed_lines p) u → Reads MAX_LEVEL bytes u
end-says bytes ended progress.Undecided u e s = subst (λ (ls : List (List ℕ)). Says MAX_LEVEL ls u) (sym (e.going (λ v. v)).0) s
end-says bytes ended (progress.Macrocell reader ids waiting) u e s = subst (λ (ls : List (List ℕ)). Says MAX_LEVEL ls u) (sym (e.going (λ v. v)).0) s
end-says bytes ended (progress.Rle reader builder runs) u e s = by u s
  where
    going : (u : Universe) → Says MAX_LEVEL reader.lines u → (((file : Rle) × IsMarked MAX_LEVEL reader.lines file) → ⊥) → Says MAX_LEVEL (lines_of bytes) u
    going u s n = subst (λ (ls : List (List ℕ)). Says MAX_LEVEL ls u) (sym (e.going n).0) s

    unmarked : (file other : Rle) → IsUnmarked MAX_LEVEL reader.lines file → IsMarked MAX_LEVEL reader.lines other → ⊥
    unmarked file other b m = mark_is_decided MAX_LEVEL reader.lines file other b m

    by : (u : Universe) → Says MAX_LEVEL reader.lines u → Says MAX_LEVEL (lines_of bytes) u
    by _ (as_macrocell file are) = absurd (true_false (is_macrocell reader.lines) (macrocell-first MAX_LEVEL reader.lines file are) e.begun.format)
    by _ (as_rle file (inl b)) = going (rle_universe file) (as_rle file (inl b)) (λ v. unmarked file v.0 b v.1)
    by _ (as_rle file (inr m)) =
        let v = e.over (file, m) in
        subst (λ (ls : List (List ℕ)). Says MAX_LEVEL ls (rle_universe file)) (sym v.1)
        (as_rle file (inr (lines_behind_mark_are_free MAX_LEVEL reader.lines v.0 file m).0))

-- the lines of the file are those that were taken, with free ones after them: of the same format, and with the same root
pub end-lines : (bytes : List ℕ) (ended : ℕ) (p : Progress) (u : Universe) → IsEnd bytes ended p → Says MAX_LEVEL (consumed_lines p) u
    → (free : List (List ℕ)) × (lines_of bytes ≡ consumed_lines p ++ free) × (is_macrocell (consumed_lines p ++ free) ≡ is_macrocell (consumed_lines p))
    × (level_of_root MAX_LEVEL (lines_of bytes) ≡ level_of_root MAX_LEVEL (consumed_lines p))
end-lines bytes ended progress.Undecided u e s = ([], (e.going (λ v. v)).0, refl, ap (level_of_root MAX_LEVEL) (e.going (λ v. v)).0)
end-lines bytes ended (progress.Macrocell reader ids waiting) u e s =
    let same = (e.going (λ v. v)).0 in
    ([], same ∙ sym (append-nil reader.lines), ap is_macrocell (append-nil reader.lines), ap (level_of_root MAX_LEVEL) same)
end-lines bytes ended (progress.Rle reader builder runs) u e s = by u s
  where
    with_free : (free : List (List ℕ)) → lines_of bytes ≡ reader.lines ++ free
        → (free : List (List ℕ)) × (lines_of bytes ≡ reader.lines ++ free) × (is_macrocell (reader.lines ++ free) ≡ is_macrocell reader.lines)
        × (level_of_root MAX_LEVEL (lines_of bytes) ≡ level_of_root MAX_LEVEL reader.lines)
    with_free free is =
        let goes = goes-on reader.lines free e.begun.some in
        (free, is, goes, top-level (lines_of bytes) (ap is_macrocell is ∙ goes ∙ e.begun.format) ∙ sym (top-level reader.lines e.begun.format))

    by : (u : Universe) → Says MAX_LEVEL reader.lines u
        → (free : List (List ℕ)) × (lines_of bytes ≡ reader.lines ++ free) × (is_macrocell (reader.lines ++ free) ≡ is_macrocell reader.lines)
        × (level_of_root MAX_LEVEL (lines_of bytes) ≡ level_of_root MAX_LEVEL reader.lines)
    by _ (as_macrocell file are) = absurd (true_false (is_macrocell reader.lines) (macrocell-first MAX_LEVEL reader.lines file are) e.begun.format)
    by _ (as_rle file (inl b)) = with_free [] ((e.going (λ v. mark_is_decided MAX_LEVEL reader.lines file v.0 b v.1)).0 ∙ sym (append-nil reader.lines))
    by _ (as_rle file (inr m)) = let v = e.over (file, m) in with_free v.0 v.1

lacks-mark : (lines : List (List ℕ)) → LacksHeader MAX_LEVEL lines → (file : Rle) → IsMarked MAX_LEVEL lines file → ⊥
lacks-mark lines h file m = (decided MAX_LEVEL lines).1 (file, inr m) h

lacks-going : (p : Progress) → LacksHeader MAX_LEVEL (consumed_lines p) → IsOver p → ⊥
lacks-going progress.Undecided h o = o
lacks-going (progress.Rle reader builder runs) h o = lacks-mark reader.lines h o.0 o.1
lacks-going (progress.Macrocell reader ids waiting) h o = o

-- lines without a header are refused after their end
pub end-lacks : (bytes : List ℕ) (ended : ℕ) (p : Progress) → IsEnd bytes ended p → LacksHeader MAX_LEVEL (consumed_lines p)
    → is_macrocell (consumed_lines p) ≡ false
    → Refuses MAX_LEVEL bytes (fault_at (min (ended + 1) (2 ^ 64 - 1)) NoHeader)
end-lacks bytes ended p e h m =
    let g = e.going (lacks-going p h) in
    let count : length (lines_of bytes) ≡ length (consumed_lines p) = ap length g.0 in
    end-refused MAX_LEVEL (lines_of bytes) (fault_at (min (ended + 1) (2 ^ 64 - 1)) NoHeader)
    (subst (LacksHeader MAX_LEVEL) (sym g.0) h) (ap is_macrocell g.0 ∙ m) refl (omega (arith, g.1, count))

-- ---- faults of a line

breaks-placed : (lines : List (List ℕ)) (line : List ℕ) (kind : Kind) → Breaks MAX_LEVEL lines line kind → is_placeless kind ≡ false
breaks-placed lines line kind = by (is_macrocell (lines ++ line ∷ []))
  where
    by : (m : Bool) → MatchBool m (broken_rule MAX_LEVEL lines line ≡ Some kind) (BreaksRle MAX_LEVEL lines line kind) → is_placeless kind ≡ false
    by true h = names_line kind (broken_kind MAX_LEVEL lines line kind h)
    by false h = names_line_rle kind (Breaks-kind MAX_LEVEL lines line kind h)

-- the kind of a refused line, at the number of that line
pub fault-of-kind : (store : Nodes) (lines : List (List ℕ)) (line : List ℕ) (ended : ℕ) (kind : Kind)
    → IsShortageKind (stored_squares store) store.limit kind ⊎ Breaks MAX_LEVEL lines line kind
    → IsShortageOf store (fault_at (min (ended + 1) (2 ^ 64 - 1)) kind) ⊎ IsLineFault MAX_LEVEL lines line ended (fault_at (min (ended + 1) (2 ^ 64 - 1)) kind)
fault-of-kind store lines line ended kind (inl (inl m)) = inl (inl (ap (λ (k : Kind). fault_at (min (ended + 1) (2 ^ 64 - 1)) k) m))
fault-of-kind store lines line ended kind (inl (inr f)) = inl (inr (ap (λ (k : Kind). fault_at (min (ended + 1) (2 ^ 64 - 1)) k) f.0, f.1))
fault-of-kind store lines line ended kind (inr b) = inr (record {
  breaks = b;
  place = ap (λ (v : Bool). cond v 0 (min (ended + 1) (2 ^ 64 - 1))) (breaks-placed lines line kind b);
})

-- the fault of a line that can't be kept
pub keep-fault : (store : Nodes) (p : Progress) (kept more : List ℕ) (ended : ℕ) (fault : Fault) → IsOpen p → (IsOver p → ⊥)
    → (fault ≡ fault_of Memory) ⊎ ((fault ≡ fault_at (min (ended + 1) (2 ^ 64 - 1)) LineTooLong) × (2 ^ 20 < length kept + length more))
    → IsShortageOf store fault ⊎ IsLineFault MAX_LEVEL (consumed_lines p) (kept ++ more) ended fault
keep-fault store p kept more ended fault o n (inl m) = inl (inl m)
keep-fault store p kept more ended fault o n (inr (e, long)) =
    let b = long-breaks p (kept ++ more) o n (too_long (kept ++ more) (omega (arith, long, length-append kept more))) in
    inr (record {
      breaks = subst (Breaks MAX_LEVEL (consumed_lines p) (kept ++ more)) (sym (ap (λ (f : Fault). f.kind) e)) b;
      place = ap (λ (f : Fault). f.place.line) e;
    })

-- ---- the end of a piece

pub last-feed : (p : Progress) (rest : List ℕ) → (IsOver p → ⊥) → IsOver p ⊎ (has_no_feed rest ≡ true) → has_no_feed rest ≡ true
last-feed p rest n (inl o) = absurd (n o)
last-feed p rest n (inr h) = h

pub kept-or-refused : (bytes kept more : List ℕ) (ended : ℕ) (p : Progress) (fault : Fault) → IsFilePrefix bytes kept ended p → (IsOver p → ⊥)
    → has_no_feed more ≡ true
    → (fault ≡ fault_of Memory) ⊎ ((fault ≡ fault_at (min (ended + 1) (2 ^ 64 - 1)) LineTooLong) × (2 ^ 20 < length kept + length more))
    → (fault ≡ fault_of Memory) ⊎ RefusesPrefix MAX_LEVEL (bytes ++ more) fault
kept-or-refused bytes kept more ended p fault f n h (inl m) = inl m
kept-or-refused bytes kept more ended p fault f n h (inr (e, long)) = inr (rest-refuses bytes kept more ended p fault f.begun n (f.going n) h long e)

-- one piece more
pub bytes-more : (pieces : List (List ℕ)) (piece : List ℕ) → bytes_of (pieces ++ piece ∷ []) ≡ bytes_of pieces ++ piece
bytes-more [] piece = append-nil piece
bytes-more (first ∷ pieces) piece = ap (λ (b : List ℕ). first ++ b) (bytes-more pieces piece) ∙ sym (append_assoc first (bytes_of pieces) piece)

-- the fault of a line that ends
pub line-reported : (store : Nodes) (bytes kept end : List ℕ) (ended : ℕ) (p : Progress) (fault : Fault) → IsFilePrefix bytes kept ended p → (IsOver p → ⊥)
    → has_no_feed end ≡ true
    → IsShortageOf store fault ⊎ IsLineFault MAX_LEVEL (consumed_lines p) (kept ++ end) ended fault
    → IsShortageOf store fault ⊎ ((rest : List ℕ) → RefusesPrefix MAX_LEVEL (bytes ++ end ++ 10 ∷ [] ++ rest) fault)
line-reported store bytes kept end ended p fault f n h (inl w) = inl w
line-reported store bytes kept end ended p fault f n h (inr b) = inr (line-refuses bytes kept end ended p fault f.begun (f.going n) h b)

-- ---- the same value, seen otherwise

pub prefix-along : {bytes other : List ℕ} {kept rest : List ℕ} {ended count : ℕ} {p q : Progress} → bytes ≡ other → kept ≡ rest → ended ≡ count → p ≡ q
    → IsFilePrefix bytes kept ended p → IsFilePrefix other rest count q
prefix-along {bytes} {other} {kept} {rest} {ended} {count} {p} {q} b k e s f =
    subst (λ (x : List ℕ). IsFilePrefix x rest count q) b
    (subst (λ (x : List ℕ). IsFilePrefix bytes x count q) k
    (subst (λ (x : ℕ). IsFilePrefix bytes kept x q) e (subst (λ (x : Progress). IsFilePrefix bytes kept ended x) s f)))

pub not-true : (b : Bool) → b ≡ false → IsTrue b → ⊥
not-true true e t = cc
not-true false e t = cc

-- ---- a piece

pub reported-along : (store : Nodes) (prefix rest all : List ℕ) (fault : Fault) → prefix ++ rest ≡ all
    → IsShortageOf store fault ⊎ ((rest : List ℕ) → RefusesPrefix MAX_LEVEL (prefix ++ rest) fault) → IsShortageOf store fault
    ⊎ RefusesPrefix MAX_LEVEL all fault
reported-along store prefix rest all fault e (inl w) = inl w
reported-along store prefix rest all fault e (inr r) = inr (subst (λ (b : List ℕ). RefusesPrefix MAX_LEVEL b fault) e (r rest))

pub over-or-clean : (P : Type 0) (rest : List ℕ) → P ⊎ (position (λ b. b == 10) rest ≡ None) → P ⊎ (has_no_feed rest ≡ true)
over-or-clean P rest (inl o) = inl o
over-or-clean P rest (inr n) = inr (no-feed rest n)

-- ---- the end of the input

pub no-length : (bytes : List ℕ) → length bytes ≡ 0 → bytes ≡ []
no-length [] h = refl
no-length (b ∷ bytes) h = absurd (omega arith)

pub rest-fault : (r : Result (Unit {0}) Fault) (store : Nodes) (bytes kept : List ℕ) (ended : ℕ) (p : Progress) → IsFilePrefix bytes kept ended p
    → 0 < length kept
    → IfErr r (λ fault. IsShortageOf store fault ⊎ IsLineFault MAX_LEVEL (consumed_lines p) kept ended fault)
    → IfErr r (λ fault. Refuses MAX_LEVEL bytes fault ⊎ IsShortageOf store fault)
rest-fault (Ok x) store bytes kept ended p f h e = tt
rest-fault (Err fault) store bytes kept ended p f h (inl w) = inr w
rest-fault (Err fault) store bytes kept ended p f h (inr b) = inl (kept-refuses bytes kept ended p fault f h b)

pub end-fault : (store : Nodes) (bytes : List ℕ) (ended : ℕ) (p : Progress) (kind : Kind) → IsEnd bytes ended p
    → IsShortageKind (stored_squares store) store.limit kind
    ⊎ ((kind ≡ NoHeader) × LacksHeader MAX_LEVEL (consumed_lines p) × (is_macrocell (consumed_lines p) ≡ false))
    → Refuses MAX_LEVEL bytes (fault_at (min (ended + 1) (2 ^ 64 - 1)) kind) ⊎ IsShortageOf store (fault_at (min (ended + 1) (2 ^ 64 - 1)) kind)
end-fault store bytes ended p kind e (inl (inl m)) = inr (inl (ap (λ (k : Kind). fault_at (min (ended + 1) (2 ^ 64 - 1)) k) m))
end-fault store bytes ended p kind e (inl (inr f)) = inr (inr (ap (λ (k : Kind). fault_at (min (ended + 1) (2 ^ 64 - 1)) k) f.0, f.1))
end-fault store bytes ended p kind e (inr l) =
    inl (subst (λ (k : Kind). Refuses MAX_LEVEL bytes (fault_at (min (ended + 1) (2 ^ 64 - 1)) k)) (sym l.0) (end-lacks bytes ended p e l.1 l.2))
