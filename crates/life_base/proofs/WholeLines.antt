-- Lines of bytes that go on.
use Rattle.std.proofs.Common.{◌≡◌, ℕ, List, [], ◌∷◌, ◌++◌, Bool, true, false, cond, not, refl, ap, sym, subst, ◌∙◌, append_assoc, arith, ◌==◌, append-nil}
use Rattle.std.specs.List.{list_all}
use Rattle.std.proofs.lemmas.List.Folds.{list_all-append}
use Rattle.std.proofs.lemmas.Bool.{not-true, and_from, and_right}
use Rattle.std.proofs.lemmas.Bool.Decides.{nat_tests}
use Rattle.life_base.specs.Text.{lines_of, onto_first}
use Rattle.life_base.specs.Lines.{has_no_feed, onto_next, whole_lines, rest_line, one_line, IsContinued, IsLonger, IsEnded, joined_lines, AreJoined, AreOnlyJoined}
use Rattle.life_base.proofs.LineEnds.{onto_alone}
use Rattle.life_base.proofs.Basics.{right_of_and, left_of_and}

-- ---- one line

-- a byte that is no line feed stands at the beginning of the first line
whole_step : (b : ℕ) (bytes : List ℕ) → not (b == 10) ≡ true → whole_lines (b ∷ bytes) ≡ onto_next b (whole_lines bytes)
whole_step b bytes h = ap (λ v. cond v ([] ∷ whole_lines bytes) (onto_next b (whole_lines bytes))) (not-true (b == 10) h)

pub lines_step : (b : ℕ) (bytes : List ℕ) → not (b == 10) ≡ true → lines_of (b ∷ bytes) ≡ onto_first b (lines_of bytes)
lines_step b bytes h = ap (λ v. cond v ([] ∷ lines_of bytes) (onto_first b (lines_of bytes))) (not-true (b == 10) h)

-- without a line feed no line has ended, and all are the rest
pub none_whole : (bytes : List ℕ) → has_no_feed bytes ≡ true → whole_lines bytes ≡ []
none_whole [] h = refl
none_whole (b ∷ bytes) h = whole_step b bytes (left_of_and _ _ h) ∙ ap (onto_next b) (none_whole bytes (right_of_and _ _ h))

pub all_rest : (bytes : List ℕ) → has_no_feed bytes ≡ true → rest_line bytes ≡ bytes
all_rest [] h = refl
all_rest (b ∷ bytes) h = ap (λ v. cond v (b ∷ bytes) (rest_line bytes)) h

lone_line : (bytes : List ℕ) → has_no_feed bytes ≡ true → lines_of bytes ≡ one_line bytes
lone_line [] h = refl
lone_line (b ∷ bytes) h = lines_step b bytes (left_of_and _ _ h) ∙ ap (onto_first b) (lone_line bytes (right_of_and _ _ h)) ∙ onto_alone b bytes

-- up to its line feed it is the first line
first_whole : (line more : List ℕ) → has_no_feed line ≡ true → whole_lines (line ++ 10 ∷ more) ≡ line ∷ whole_lines more
first_whole [] more h = refl
first_whole (b ∷ line) more h = whole_step b (line ++ 10 ∷ more) (left_of_and _ _ h) ∙ ap (onto_next b) (first_whole line more (right_of_and _ _ h))

pub first_of_lines : (line more : List ℕ) → has_no_feed line ≡ true → lines_of (line ++ 10 ∷ more) ≡ line ∷ lines_of more
first_of_lines [] more h = refl
first_of_lines (b ∷ line) more h = lines_step b (line ++ 10 ∷ more) (left_of_and _ _ h) ∙ ap (onto_first b) (first_of_lines line more (right_of_and _ _ h))

has_feed : (bytes more : List ℕ) → has_no_feed (bytes ++ 10 ∷ more) ≡ false
has_feed [] more = refl
has_feed (b ∷ bytes) more = and_right (not (b == 10)) (has_no_feed (bytes ++ 10 ∷ more)) (has_feed bytes more)

-- the rest is after each line feed
rest_behind : (bytes more : List ℕ) → rest_line (bytes ++ 10 ∷ more) ≡ rest_line more
rest_behind [] more = refl
rest_behind (b ∷ bytes) more =
    ap (λ v. cond v (b ∷ (bytes ++ 10 ∷ more)) (rest_line (bytes ++ 10 ∷ more))) (has_feed (b ∷ bytes) more) ∙ rest_behind bytes more

-- ---- lines that are joined

over : (line : List ℕ) (lines : List (List ℕ)) (more : List ℕ) → joined_lines (line ∷ lines) ++ more ≡ line ++ 10 ∷ (joined_lines lines ++ more)
over line lines more = append_assoc line (10 ∷ joined_lines lines) more

pub whole-joined : (lines : List (List ℕ)) (more : List ℕ) → list_all has_no_feed lines ≡ true → whole_lines (joined_lines lines ++ more) ≡ lines
    ++ whole_lines more
whole-joined [] more h = refl
whole-joined (line ∷ lines) more h =
    ap whole_lines (over line lines more) ∙ first_whole line (joined_lines lines ++ more) (left_of_and _ _ h)
    ∙ ap (λ (ls : List (List ℕ)). line ∷ ls) (whole-joined lines more (right_of_and (has_no_feed line) _ h))

pub lines-joined : (lines : List (List ℕ)) (more : List ℕ) → list_all has_no_feed lines ≡ true → lines_of (joined_lines lines ++ more) ≡ lines ++ lines_of more
lines-joined [] more h = refl
lines-joined (line ∷ lines) more h =
    ap lines_of (over line lines more) ∙ first_of_lines line (joined_lines lines ++ more) (left_of_and _ _ h)
    ∙ ap (λ (ls : List (List ℕ)). line ∷ ls) (lines-joined lines more (right_of_and (has_no_feed line) _ h))

pub rest-joined : (lines : List (List ℕ)) (more : List ℕ) → rest_line (joined_lines lines ++ more) ≡ rest_line more
rest-joined [] more = refl
rest-joined (line ∷ lines) more = ap rest_line (over line lines more) ∙ rest_behind line (joined_lines lines ++ more) ∙ rest-joined lines more

-- ---- what the lines and the rest are that are joined to bytes

module _ (bytes : List ℕ) (lines : List (List ℕ)) (rest : List ℕ) (are : AreJoined bytes lines rest) where
  behind : (more : List ℕ) → bytes ++ more ≡ joined_lines lines ++ (rest ++ more)
  behind more = ap (λ (bs : List ℕ). bs ++ more) are.is ∙ append_assoc (joined_lines lines) rest more

  whole_is : whole_lines bytes ≡ lines
  whole_is =
      ap whole_lines are.is ∙ whole-joined lines rest are.whole ∙ ap (λ (ls : List (List ℕ)). lines ++ ls) (none_whole rest are.behind) ∙ append-nil lines

  rest_is : rest_line bytes ≡ rest
  rest_is = ap rest_line are.is ∙ rest-joined lines rest ∙ all_rest rest are.behind

  lines_are : lines_of bytes ≡ lines ++ one_line rest
  lines_are = ap lines_of are.is ∙ lines-joined lines rest are.whole ∙ ap (λ (ls : List (List ℕ)). lines ++ ls) (lone_line rest are.behind)

  whole_on : (more : List ℕ) → whole_lines (bytes ++ more) ≡ lines ++ whole_lines (rest ++ more)
  whole_on more = ap whole_lines (behind more) ∙ whole-joined lines (rest ++ more) are.whole

  lines_on : (more : List ℕ) → lines_of (bytes ++ more) ≡ lines ++ lines_of (rest ++ more)
  lines_on more = ap lines_of (behind more) ∙ lines-joined lines (rest ++ more) are.whole

  rest_on : (more : List ℕ) → rest_line (bytes ++ more) ≡ rest_line (rest ++ more)
  rest_on more = ap rest_line (behind more) ∙ rest-joined lines (rest ++ more)

-- ---- all bytes are lines that are joined

record Cut (bytes : List ℕ) : Type 0 where
  lines : List (List ℕ)
  rest : List ℕ
  are : AreJoined bytes lines rest

is_feed : (b : ℕ) → (b == 10) ≡ true → b ≡ 10
is_feed b h = grind (arith, nat_tests)

one_more : (b : ℕ) (bytes : List ℕ) → (b == 10) ≡ false → (lines : List (List ℕ)) (rest : List ℕ) → AreJoined bytes lines rest → Cut (b ∷ bytes)
one_more b bytes e [] rest are = record {
  lines = [];
  rest = b ∷ rest;
  are = record { is = ap (λ (bs : List ℕ). b ∷ bs) are.is; whole = refl; behind = and_from _ _ (ap not e) are.behind };
}
one_more b bytes e (line ∷ lines) rest are = record {
  lines = (b ∷ line) ∷ lines;
  rest = rest;
  are = record {
    is = ap (λ (bs : List ℕ). b ∷ bs) are.is;
    whole = and_from (has_no_feed (b ∷ line)) _ (and_from _ _ (ap not e) (left_of_and (has_no_feed line) _ are.whole))
        (right_of_and (has_no_feed line) _ are.whole);
    behind = are.behind;
  };
}

cut_step : (v : Bool) (b : ℕ) (bytes : List ℕ) → (b == 10) ≡ v → Cut bytes → Cut (b ∷ bytes)
cut_step true b bytes e cut = record {
  lines = [] ∷ cut.lines;
  rest = cut.rest;
  are = record { is = ap (λ c. c ∷ bytes) (is_feed b e) ∙ ap (λ (bs : List ℕ). 10 ∷ bs) cut.are.is; whole = cut.are.whole; behind = cut.are.behind };
}
cut_step false b bytes e cut = one_more b bytes e cut.lines cut.rest cut.are

cut_of : (bytes : List ℕ) → Cut bytes
cut_of [] = record { lines = []; rest = []; are = record { is = refl; whole = refl; behind = refl } }
cut_of (b ∷ bytes) = cut_step (b == 10) b bytes refl (cut_of bytes)

-- ---- the laws

are_joined : (bytes : List ℕ) → AreJoined bytes (whole_lines bytes) (rest_line bytes)
are_joined bytes =
    let cut = cut_of bytes in
    let w = sym (whole_is bytes cut.lines cut.rest cut.are) in
    let r = sym (rest_is bytes cut.lines cut.rest cut.are) in
    subst (λ (ls : List (List ℕ)). AreJoined bytes ls (rest_line bytes)) w (subst (AreJoined bytes cut.lines) r cut.are)

-- bytes are their whole lines and their rest, joined, and no others
pub lines_are_joined : (bytes : List ℕ) → AreOnlyJoined bytes
lines_are_joined bytes = record {
  are = are_joined bytes;
  only = λ lines rest are. (sym (whole_is bytes lines rest are), sym (rest_is bytes lines rest are));
}

-- the bytes after the last line feed have none
pub rest_has_no_feed : (bytes : List ℕ) → has_no_feed (rest_line bytes) ≡ true
rest_has_no_feed bytes = (are_joined bytes).behind

pub lines_are_whole : (bytes : List ℕ) → lines_of bytes ≡ whole_lines bytes ++ one_line (rest_line bytes)
lines_are_whole bytes = lines_are bytes (whole_lines bytes) (rest_line bytes) (are_joined bytes)

pub lines_continue : (bytes more : List ℕ) → IsContinued bytes more
lines_continue bytes more =
    let w = whole_lines bytes in
    let r = rest_line bytes in
    let are = are_joined bytes in record {
      whole = whole_on bytes w r are more;
      rest = rest_on bytes w r are more;
      lines = lines_on bytes w r are more;
    }

clean_behind : (bytes more : List ℕ) → has_no_feed more ≡ true → has_no_feed (rest_line bytes ++ more) ≡ true
clean_behind bytes more h = list_all-append _ (rest_line bytes) more ∙ and_from _ _ (rest_has_no_feed bytes) h

pub lines_longer : (bytes more : List ℕ) → has_no_feed more ≡ true → IsLonger bytes more
lines_longer bytes more h =
    let rest = rest_line bytes ++ more in
    let clean = clean_behind bytes more h in
    let on = lines_continue bytes more in record {
      whole = on.whole ∙ ap (λ (ls : List (List ℕ)). whole_lines bytes ++ ls) (none_whole rest clean) ∙ append-nil (whole_lines bytes);
      rest = on.rest ∙ all_rest rest clean;
    }

pub lines_ended : (bytes end : List ℕ) → has_no_feed end ≡ true → IsEnded bytes end
lines_ended bytes end h =
    let line = rest_line bytes ++ end in
    let longer = lines_longer bytes end h in
    let on = lines_continue (bytes ++ end) (10 ∷ []) in record {
      whole = on.whole ∙ ap (λ (ls : List (List ℕ)). ls ++ whole_lines (rest_line (bytes ++ end) ++ 10 ∷ [])) longer.whole
          ∙ ap (λ (bs : List ℕ). whole_lines bytes ++ whole_lines (bs ++ 10 ∷ [])) longer.rest
          ∙ ap (λ (ls : List (List ℕ)). whole_lines bytes ++ ls) (first_whole line [] (clean_behind bytes end h));
      rest = rest_behind (bytes ++ end) [];
    }

pub lines_grow : (bytes more : List ℕ) → has_no_feed more ≡ true → IsLonger bytes more × IsEnded bytes more
lines_grow bytes more h = (lines_longer bytes more h, lines_ended bytes more h)
