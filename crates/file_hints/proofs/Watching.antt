-- A file that is watched: what a byte, a text without a line feed, and a line feed make of what is known of it.
use Rattle.std.proofs.Common.{◌≡◌, ℕ, suc, ◌+◌, ◌<◌, Bool, true, false, cond, not, ◌&&◌, ◌||◌, List, [], ◌∷◌, ◌++◌, length, get_or, take, drop, max, ltb, Option, None, Some, IfSome, IfNone, refl, ap, sym, ◌∙◌, arith, ◌==◌, append_assoc}
use Rattle.std.proofs.lemmas.Bool.{and_right, eqb-true}
use Rattle.std.proofs.lemmas.Grind.{common_steps}
use Rattle.std.specs.List.{list_any}
use Rattle.std.specs.Char.{is_ascii_digit}
use Rattle.life_base.specs.Text.{onto_first}
use Rattle.memchr.specs.Find.{IsFirstByte}
use Rattle.file_hints.specs.Recognition.{first_text, has_byte, lines_but_first}
use Rattle.file_hints.specs.Damage.{begins_as_header, has_mark, is_comment_line, is_live_byte, is_state_byte, items_before_mark, lines_after_mark, lines_and_rest, lines_of_items, rows_from, text_before, warning_after_mark, with_digit}
use Rattle.file_hints.specs.Watching.{count_after, IsCutAt, warning_by, warning_in, warning_in_items}
use Rattle.file_hints.specs.declared.warnings.Warning.{Warning}
use Rattle.file_hints.specs.declared.warnings.Warning.TheVariants as warnings
use Rattle.file_hints.specs.declared.rle_watch.Items.{Items}
use Rattle.file_hints.specs.declared.watch.State.{State}

-- ---- tests

off : (v : Bool) → (v ≡ true → ⊥) → v ≡ false
off true h = absurd (h refl)
off false h = refl

either : (v w : Bool) → (v || w) ≡ false → (v ≡ false) × (w ≡ false)
either true w h = cc
either false w h = (refl, h)

or_none : (v : Bool) → v ≡ (v || false)
or_none true = refl
or_none false = refl

or_assoc : (u v w : Bool) → ((u || v) || w) ≡ (u || (v || w))
or_assoc true v w = refl
or_assoc false v w = refl

-- ---- a text cut at a byte

none_of : (test : ℕ → Bool) (text : List ℕ) → ((k : ℕ) → k < length text → test (get_or text k 0) ≡ true → ⊥) → list_any test text ≡ false
none_of test [] h = refl
none_of test (b ∷ text) h =
    let e : test b ≡ false = off (test b) (h 0 (omega arith)) in
    rw e (none_of test text (λ k l. h (suc k) (omega (arith, l))))

prefix_place : (text : List ℕ) (i k : ℕ) → k < length (take i text) → get_or (take i text) k 0 ≡ get_or text k 0
prefix_place text i k h = grind (arith, common_steps)

prefix_length : (text : List ℕ) (i k : ℕ) → k < length (take i text) → k < i
prefix_length text i k h = grind (arith, common_steps)

none_before : (test : ℕ → Bool) (text : List ℕ) (i : ℕ) → ((k : ℕ) → k < i → test (get_or text k 0) ≡ true → ⊥) → list_any test (take i text) ≡ false
none_before test text i h =
    none_of test (take i text) (λ k l e. h k (prefix_length text i k l) (sym (ap test (prefix_place text i k l)) ∙ e))

cut_there : (text : List ℕ) (i b : ℕ) → i < length text → get_or text i 0 ≡ b → text ≡ take i text ++ b ∷ drop (i + 1) text
cut_there text i b l h = grind (arith, common_steps)

-- a byte that is found, and one that isn't
pub place_found : (b : ℕ) (text : List ℕ) (found : Option ℕ) → IsFirstByte (λ c. c == b) text found → IfSome found (IsCutAt b text)
place_found b text None h = tt
place_found b text (Some i) h = record {
  free = none_before (λ c. c == b) text i (λ k l. h.0.before k (omega arith) l);
  cut = cut_there text i b h.0.high (eqb-true (get_or text i 0) b h.1);
}

pub place_not_found : (b : ℕ) (text : List ℕ) (found : Option ℕ) → IsFirstByte (λ c. c == b) text found → IfNone found (has_byte b text ≡ false)
place_not_found b text None h = none_of (λ c. c == b) text (λ k l. h k (omega arith) l)
place_not_found b text (Some i) h = tt

-- ---- lines

first_onto : (b : ℕ) (lines : List (List ℕ)) → first_text (onto_first b lines) ≡ b ∷ first_text lines
first_onto b [] = refl
first_onto b (line ∷ lines) = refl

rest_onto : (b : ℕ) (lines : List (List ℕ)) → lines_but_first (onto_first b lines) ≡ lines_but_first lines
rest_onto b [] = refl
rest_onto b (line ∷ lines) = refl

-- a text without a line feed makes the first line longer
first_longer : (text rest : List ℕ) → has_byte 10 text ≡ false → first_text (lines_and_rest (text ++ rest)) ≡ text ++ first_text (lines_and_rest rest)
first_longer [] rest h = refl
first_longer (b ∷ text) rest h =
    let p = either (b == 10) (has_byte 10 text) h in
    let lines = lines_and_rest (text ++ rest) in
    ap (λ v. first_text (cond v ([] ∷ lines) (onto_first b lines))) p.0 ∙ first_onto b lines ∙ ap (λ t. b ∷ t) (first_longer text rest p.1)

rest_stays : (text rest : List ℕ) → has_byte 10 text ≡ false → lines_but_first (lines_and_rest (text ++ rest)) ≡ lines_but_first (lines_and_rest rest)
rest_stays [] rest h = refl
rest_stays (b ∷ text) rest h =
    let p = either (b == 10) (has_byte 10 text) h in
    let lines = lines_and_rest (text ++ rest) in
    ap (λ v. lines_but_first (cond v ([] ∷ lines) (onto_first b lines))) p.0 ∙ rest_onto b lines ∙ rest_stays text rest p.1

-- what is known after a text without a line feed
pub by_text : (new old : State) (text rest : List ℕ) → has_byte 10 text ≡ false
    → ((rest : List ℕ) (lines : List (List ℕ)) → warning_in new rest lines ≡ warning_in old (text ++ rest) lines)
    → warning_by new rest ≡ warning_by old (text ++ rest)
by_text new old text rest h same =
    let rests = lines_but_first (lines_and_rest rest) in
    let first = first_text (lines_and_rest (text ++ rest)) in
    same (first_text (lines_and_rest rest)) rests ∙ ap (λ t. warning_in old t rests) (sym (first_longer text rest h))
    ∙ ap (λ l. warning_in old first l) (sym (rest_stays text rest h))

rejoined : (v : Bool) (b : ℕ) (lines : List (List ℕ))
    → first_text (cond v ([] ∷ lines) (onto_first b lines)) ∷ lines_but_first (cond v ([] ∷ lines) (onto_first b lines))
    ≡ cond v ([] ∷ lines) (onto_first b lines)
rejoined true b lines = refl
rejoined false b [] = refl
rejoined false b (line ∷ lines) = refl

-- there is a first line, or a rest
all_lines : (bytes : List ℕ) → first_text (lines_and_rest bytes) ∷ lines_but_first (lines_and_rest bytes) ≡ lines_and_rest bytes
all_lines [] = refl
all_lines (b ∷ bytes) = rejoined (b == 10) b (lines_and_rest bytes)

-- what is known after a line feed
by_feed : (new old : State) (rest : List ℕ)
    → ((text : List ℕ) (lines : List (List ℕ)) → warning_in new text lines ≡ warning_in old [] (text ∷ lines))
    → warning_by new rest ≡ warning_by old (10 ∷ rest)
by_feed new old rest line =
    line (first_text (lines_and_rest rest)) (lines_but_first (lines_and_rest rest)) ∙ ap (λ l. warning_in old [] l) (all_lines rest)

-- what is known after a line
pub by_line : (new middle old : State) (text others rest : List ℕ) → has_byte 10 text ≡ false
    → ((rest : List ℕ) (lines : List (List ℕ)) → warning_in middle rest lines ≡ warning_in old (text ++ rest) lines)
    → ((text : List ℕ) (lines : List (List ℕ)) → warning_in new text lines ≡ warning_in middle [] (text ∷ lines))
    → warning_by new (others ++ rest) ≡ warning_by old ((text ++ 10 ∷ others) ++ rest)
by_line new middle old text others rest h same line =
    by_feed new middle (others ++ rest) line ∙ by_text middle old text (10 ∷ others ++ rest) h same
    ∙ ap (warning_by old) (sym (append_assoc text (10 ∷ others) rest))

-- ---- items

abbrev pub at : Bool → Bool → ℕ → ℕ → Bool → List (List ℕ) → Option Warning
at sized cell missing count begun lines =
    warning_in_items (record { is_sized = sized; has_cell = cell; missing = missing; count = count; is_begun = begun }) lines

-- the same by what it depends on
abbrev verdict : Bool → Bool → Bool → List (List ℕ) → ℕ → ℕ → Option Warning
verdict sized cell mark after rows missing =
    cond (sized && not cell) (Some warnings.NoCells) (cond mark (warning_after_mark after) (cond (ltb rows missing) (Some warnings.Cut) None))

items_case : (v : Bool) (b : ℕ) (xs ys : List ℕ) → cond v (b ∷ xs) (b ∷ ys) ≡ b ∷ cond v xs ys
items_case true b xs ys = refl
items_case false b xs ys = refl

items_step : (b : ℕ) (rest : List ℕ) (lines : List (List ℕ)) → (b == 33) ≡ false
    → items_before_mark ((b ∷ rest) ∷ lines) ≡ b ∷ items_before_mark (rest ∷ lines)
items_step b rest lines h = rw h (items_case (has_byte 33 rest) b (text_before 33 rest) (rest ++ 10 ∷ items_before_mark lines))

mark_step : (b : ℕ) (rest : List ℕ) (lines : List (List ℕ)) → (b == 33) ≡ false → has_mark ((b ∷ rest) ∷ lines) ≡ has_mark (rest ∷ lines)
mark_step b rest lines h = rw h refl

after_step : (b : ℕ) (rest : List ℕ) (lines : List (List ℕ)) → (b == 33) ≡ false
    → lines_after_mark ((b ∷ rest) ∷ lines) ≡ lines_after_mark (rest ∷ lines)
after_step b rest lines h = rw h refl

digit_is_no_state : (b : ℕ) → is_ascii_digit b ≡ true → is_state_byte b ≡ false
digit_is_no_state b h = and_right (ltb 32 b) (not (is_ascii_digit b)) (ap not h)

rows_case : (v : Bool) (b count : ℕ) (begun : Bool) (items : List ℕ) → is_ascii_digit b ≡ v
    → cond v (rows_from (with_digit count b) begun items) (rows_from 0 (begun || is_state_byte b) items)
    ≡ rows_from (cond v (with_digit count b) 0) (begun || is_state_byte b) items
rows_case true b count begun items h =
    ap (λ w. rows_from (with_digit count b) w items) (or_none begun ∙ ap (λ w. begun || w) (sym (digit_is_no_state b h)))
rows_case false b count begun items h = refl

rows_step : (b count : ℕ) (begun : Bool) (items : List ℕ) → (b == 36) ≡ false
    → rows_from count begun (b ∷ items) ≡ rows_from (cond (is_ascii_digit b) (with_digit count b) 0) (begun || is_state_byte b) items
rows_step b count begun items h =
    ap (λ v. cond v (max 1 count + rows_from 0 false items)
    (cond (is_ascii_digit b) (rows_from (with_digit count b) begun items) (rows_from 0 (begun || is_state_byte b) items))) h
    ∙ rows_case (is_ascii_digit b) b count begun items refl

-- a byte that is neither `$` nor `!`
byte_step : (sized cell : Bool) (missing count : ℕ) (begun : Bool) (b : ℕ) (rest : List ℕ) (lines : List (List ℕ)) → (b == 33) ≡ false → (b == 36) ≡ false
    → at sized cell missing count begun ((b ∷ rest) ∷ lines)
    ≡ at sized (cell || is_live_byte b) missing (cond (is_ascii_digit b) (with_digit count b) 0) (begun || is_state_byte b) (rest ∷ lines)
byte_step sized cell missing count begun b rest lines h k =
    let items = items_before_mark (rest ∷ lines) in
    let after = lines_after_mark (rest ∷ lines) in
    let all = b ∷ items in
    ap (λ xs. verdict sized (cell || list_any is_live_byte xs) (has_mark ((b ∷ rest) ∷ lines)) (lines_after_mark ((b ∷ rest) ∷ lines))
    (rows_from count begun xs) missing) (items_step b rest lines h)
    ∙ ap (λ m. verdict sized (cell || list_any is_live_byte all) m (lines_after_mark ((b ∷ rest) ∷ lines)) (rows_from count begun all) missing)
    (mark_step b rest lines h)
    ∙ ap (λ ls. verdict sized (cell || list_any is_live_byte all) (has_mark (rest ∷ lines)) ls (rows_from count begun all) missing) (after_step b rest lines h)
    ∙ ap (λ v. verdict sized v (has_mark (rest ∷ lines)) after (rows_from count begun all) missing)
    (sym (or_assoc cell (is_live_byte b) (list_any is_live_byte items)))
    ∙ ap (λ n. verdict sized ((cell || is_live_byte b) || list_any is_live_byte items) (has_mark (rest ∷ lines)) after n missing)
    (rows_step b count begun items k)

-- a text without both
pub states_step : (sized cell : Bool) (missing count : ℕ) (begun : Bool) (text rest : List ℕ) (lines : List (List ℕ)) → has_byte 33 text ≡ false
    → has_byte 36 text ≡ false
    → at sized (cell || list_any is_live_byte text) missing (count_after count text) (begun || list_any is_state_byte text) (rest ∷ lines)
    ≡ at sized cell missing count begun ((text ++ rest) ∷ lines)
states_step sized cell missing count begun [] rest lines h k =
    ap (λ v. at sized v missing count (begun || false) (rest ∷ lines)) (sym (or_none cell))
    ∙ ap (λ v. at sized cell missing count v (rest ∷ lines)) (sym (or_none begun))
states_step sized cell missing count begun (b ∷ text) rest lines h k =
    let p = either (b == 33) (has_byte 33 text) h in
    let q = either (b == 36) (has_byte 36 text) k in
    let next = cond (is_ascii_digit b) (with_digit count b) 0 in
    let live = list_any is_live_byte text in
    let state = list_any is_state_byte text in
    ap (λ v. at sized v missing (count_after next text) (begun || (is_state_byte b || state)) (rest ∷ lines)) (sym (or_assoc cell (is_live_byte b) live))
    ∙ ap (λ v. at sized ((cell || is_live_byte b) || live) missing (count_after next text) v (rest ∷ lines)) (sym (or_assoc begun (is_state_byte b) state))
    ∙ states_step sized (cell || is_live_byte b) missing next (begun || is_state_byte b) text rest lines p.1 q.1
    ∙ sym (byte_step sized cell missing count begun b (text ++ rest) lines p.0 q.0)

-- ---- after the `!`

comment_is_no_header : (line : List ℕ) → is_comment_line line ≡ true → begins_as_header line ≡ false
comment_is_no_header [] h = cc
comment_is_no_header (b ∷ line) h = of_hash b (eqb-true b 35 h) where
  of_hash : (b : ℕ) → b ≡ 35 → begins_as_header (b ∷ line) ≡ false
  of_hash b e = rw e refl

header_case : (v : Bool) (line : List ℕ) (lines : List (List ℕ)) → is_comment_line line ≡ v
    → list_any begins_as_header (lines_of_items lines) ≡ list_any begins_as_header lines
    → list_any begins_as_header (cond (not v) (line ∷ lines_of_items lines) (lines_of_items lines)) ≡ list_any begins_as_header (line ∷ lines)
header_case true line lines h same = rw (comment_is_no_header line h) same
header_case false line lines h same = ap (λ v. begins_as_header line || v) same

-- a comment is no header
headers_stay : (lines : List (List ℕ)) → list_any begins_as_header (lines_of_items lines) ≡ list_any begins_as_header lines
headers_stay [] = refl
headers_stay (line ∷ lines) = header_case (is_comment_line line) line lines refl (headers_stay lines)

-- the `!` ends the items
pub mark_ends : (sized cell : Bool) (missing count : ℕ) (begun : Bool) (rest : List ℕ) (lines : List (List ℕ))
    → at sized cell missing count begun ((33 ∷ rest) ∷ lines_of_items lines)
    ≡ cond (sized && not cell) (Some warnings.NoCells) (warning_after_mark (rest ∷ lines))
mark_ends sized cell missing count begun rest lines =
    ap (λ v. cond (sized && not v) (Some warnings.NoCells) (warning_after_mark (rest ∷ lines_of_items lines))) (sym (or_none cell))
    ∙ ap (λ v. cond (sized && not cell) (Some warnings.NoCells) (cond (begins_as_header rest || v) (Some warnings.Joined) None)) (headers_stay lines)

-- the warning after items, the `!` and what follows it
pub mark_passed : (it now : Items) (text before after rest : List ℕ) (lines : List (List ℕ)) → text ≡ before ++ 33 ∷ after
    → ((rest : List ℕ) (lines : List (List ℕ)) → warning_in_items now (rest ∷ lines) ≡ warning_in_items it ((before ++ rest) ∷ lines))
    → (now.is_sized && not now.has_cell) ≡ false
    → warning_after_mark ((after ++ rest) ∷ lines) ≡ warning_in_items it ((text ++ rest) ∷ lines_of_items lines)
mark_passed it now text before after rest lines cut items lacks =
    let end = after ++ rest in
    sym (mark_ends now.is_sized now.has_cell now.missing now.count now.is_begun end lines
    ∙ ap (λ v. cond v (Some warnings.NoCells) (warning_after_mark (end ∷ lines))) lacks)
    ∙ items (33 ∷ end) (lines_of_items lines)
    ∙ ap (λ t. warning_in_items it (t ∷ lines_of_items lines)) (sym (append_assoc before (33 ∷ after) rest) ∙ ap (λ t. t ++ rest) (sym cut))
