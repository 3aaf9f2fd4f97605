-- Short items: the tables that decide them, held against each of the 256 bytes by computing; what they spell; and one more of them is read.
use Rattle.std.proofs.Common.{◌≡◌, ◌∙◌, ◌+◌, ◌-◌, ◌*◌, ◌≤◌, ◌<◌, ◌∷◌, ◌++◌, ◌^◌, ℕ, List, [], length, drop, get_or, true, false, cond, refl, ap, sym, arith, pos, neg_ℤ, ℤ, ◌+ℤ◌, ◌≤ℤ◌, None, Some, subst, ◌&&◌, map, append-nil, nat_le, nat_lt, int_lt, if◌then◌else◌}
use Rattle.std.proofs.lemmas.Bool.Decides.{nat_tests}
use Rattle.std.proofs.lemmas.Int.{ints}
use Rattle.std.proofs.lemmas.List.FromFn.{get_or-map-range_with_len}
use Rattle.std.specs.List.{range_with_len}
use Rattle.life_base.specs.declared.cell.TheConstants.{MAX_LEVEL}
use Rattle.life_base.specs.declared.cell.Run.{Run}
use Rattle.life_base.specs.declared.rule.Rule.{Rule}
use Rattle.life_base.specs.declared.rule.Rule.TheVariants.{Life, Named}
use Rattle.life_rle.specs.declared.cursor.Cursor.{Cursor}
use Rattle.life_rle.specs.declared.item.Item.{Item}
use Rattle.life_rle.specs.declared.item.Item.TheVariants.{Cells}
use Rattle.life_rle.specs.declared.short_items.TheConstants.{SHORT}
use Rattle.life_rle.specs.Items.{Spelled, next_of}
use Rattle.life_rle.specs.Pattern.{item_fault}
use Rattle.life_rle.specs.Plane.{rle_plane_end}
use Rattle.life_rle.specs.Runs.{with_run}
use Rattle.life_rle.specs.States.{is_state_of, leading_state, prefixed_state, single_state}
use Rattle.life_rle.specs.Cursor.{IsNear, cursor_after_item, row_limit}
use Rattle.life_rle.specs.Reader.{ReadsItems}
use Rattle.life_rle.specs.ShortItems.{short_count, short_digits, IsShortItem, IsStateAt, AreShortCells, RowHasSpace, ReadsOn}
use Rattle.life_rle.proofs.PlainItems.{IsRead, IsRead-text, state_at-text}
use Rattle.life_rle.proofs.StatesRead.{one-byte, two-bytes}
use Rattle.life_rle.proofs.Texts.{next_of-tag}
use Rattle.life_rle.proofs.DigitInPrefix.{text_at, digit_in_prefix, two_digits_in_prefix}
use Rattle.life_rle.proofs.ReadItems.{reads-as, reads_more}
use Rattle.life_rle.proofs.RowLimits.{fault-by, further}
use Rattle.life_base.proofs.Basics.{int_le_trans, le-int_le}

-- what the table has at an index
abbrev entry : ℕ → ℕ
entry i = if nat_lt i 256 then short_count i else short_digits (i - 256)

table : SHORT ≡ map entry (range_with_len 0 512)
table = refl

entry_of : (i : ℕ) → i < 512 → get_or SHORT i 0 ≡ entry i
entry_of i h = ap (λ (r : List ℕ). get_or r i 0) table ∙ get_or-map-range_with_len entry 0 512 i i 0 h (omega arith)

pub count_of : (b : ℕ) → b < 256 → get_or SHORT b 0 ≡ short_count b
count_of b h =
    let first : nat_lt b 256 ≡ true = grind (arith, nat_tests) in
    let at : entry b ≡ short_count b = rw first refl in
    entry_of b (omega (arith, h)) ∙ at

pub digits_of : (b : ℕ) → b < 256 → get_or SHORT (b + 256) 0 ≡ short_digits b
digits_of b h =
    let second : nat_lt (b + 256) 256 ≡ false = grind (arith, nat_tests) in
    let same : b + 256 - 256 ≡ b = omega arith in
    let at : entry (b + 256) ≡ short_digits b = rw (second, same) refl in
    entry_of (b + 256) (omega (arith, h)) ∙ at

-- a state after a count
state-item : (count state : ℕ) (bytes rest : List ℕ) → leading_state bytes ≡ Some (state, rest) → IsRead count bytes (Cells count state) rest
state-item count state bytes rest e =
    let found = state_at-text bytes rest state e in
    subst (λ (t : List ℕ). IsRead count t (Cells count state) rest) (sym found.2) (IsRead-text count state found.0 rest found.1)

-- a state of one byte at a place
pub state-byte : (line : List ℕ) (place b state : ℕ) → place < length line → get_or line place 0 ≡ b → single_state b ≡ Some state
    → leading_state (drop place line) ≡ Some (state, drop (place + 1) line)
state-byte line place b state h e k =
    ap leading_state (text_at line place h ∙ ap (λ c. c ∷ drop (place + 1) line) e) ∙ one-byte b state (drop (place + 1) line) k

-- an item without a digit
no-digit : (line : List ℕ) (at : ℕ) → at + 1 < length line → IsShortItem MAX_LEVEL line at 1 at
no-digit line at h = record {
  inside = (omega arith, omega arith);
  few = omega arith;
  spelled = λ state rest e. let read = state-item 1 state (drop at line) rest e in next_of-tag MAX_LEVEL (drop at line) read.0 ∙ read.1;
}

-- an item with a digit
one-digit : (line : List ℕ) (at : ℕ) → at + 1 < length line → 49 ≤ get_or line at 0 → get_or line at 0 ≤ 57
    → IsShortItem MAX_LEVEL line at (get_or line at 0 - 48) (at + 1)
one-digit line at h low high =
    let first = get_or line at 0 in
    let second = get_or line (at + 1) 0 in
    let behind = drop (at + 1 + 1) line in
    let parts : drop (at + 1) line ≡ second ∷ behind = text_at line (at + 1) h in
    record {
      inside = (omega arith, omega arith);
      few = omega (arith, high);
      spelled = λ state rest e.
          let read : IsRead (first - 48) (second ∷ behind) (Cells (first - 48) state) rest =
          state-item (first - 48) state (second ∷ behind) rest (ap leading_state (sym parts) ∙ e) in
          ap (next_of MAX_LEVEL) (text_at line at (omega arith) ∙ ap (λ t. first ∷ t) parts)
          ∙ digit_in_prefix first second behind low high read.0.1
          ∙ read.1;
    }

-- dead cells whose count has two digits
many-dead : (line : List ℕ) (at : ℕ) → at + 2 < length line → 49 ≤ get_or line at 0 → get_or line at 0 ≤ 57 → 48 ≤ get_or line (at + 1) 0
    → get_or line (at + 1) 0 ≤ 57 → get_or line (at + 2) 0 ≡ 98
    → next_of MAX_LEVEL (drop at line) ≡ Spelled (Cells (10 * (get_or line at 0 - 48) + (get_or line (at + 1) 0 - 48)) 0) (drop (at + 3) line)
many-dead line at h low high from to dead =
    let first = get_or line at 0 in
    let second = get_or line (at + 1) 0 in
    let rest = drop (at + 3) line in
    let count = 10 * (first - 48) + (second - 48) in
    let one : at + 1 + 1 ≡ at + 2 = omega arith in
    let two : at + 2 + 1 ≡ at + 3 = omega arith in
    let third : drop (at + 2) line ≡ 98 ∷ rest =
    text_at line (at + 2) h ∙ ap (λ b. b ∷ drop (at + 2 + 1) line) dead ∙ ap (λ n. 98 ∷ drop n line) two in
    let parts : drop at line ≡ first ∷ second ∷ 98 ∷ rest =
    text_at line at (omega (arith, h))
    ∙ ap (λ t. first ∷ t) (text_at line (at + 1) (omega (arith, h)) ∙ ap (λ n. second ∷ drop n line) one ∙ ap (λ t. second ∷ t) third) in
    let read : IsRead count (98 ∷ rest) (Cells count 0) rest = state-item count 0 (98 ∷ rest) rest (one-byte 98 0 rest refl) in
    ap (next_of MAX_LEVEL) parts ∙ two_digits_in_prefix first second 98 rest low high from to refl ∙ read.1

-- what the table says of the item at a place
pub is-short : (line : List ℕ) (at : ℕ) → at + 1 < length line
    → IsShortItem MAX_LEVEL line at (short_count (get_or line at 0)) (at + short_digits (get_or line at 0))
is-short line at h =
    let first = get_or line at 0 in
    elim (nat_le 49 first && nat_le first 57)
    as (λ t. (nat_le 49 first && nat_le first 57) ≡ t → IsShortItem MAX_LEVEL line at (cond t (first - 48) 1) (at + cond t 1 0)) [
      | true ↦ λ e. one-digit line at h (grind (arith, nat_tests)) (grind (arith, nat_tests))
      | false ↦ λ e. rw (plus-zero at) (no-digit line at h)
    ] refl
  where
    plus-zero : (n : ℕ) → n + 0 ≡ n
    plus-zero n = omega arith

-- states 0 and 1 are of every rule
pub low-state : (rule : Rule) (state : ℕ) → state ≤ 1 → is_state_of rule state ≡ true
low-state (Life sets) state h = grind (arith, nat_tests)
low-state (Named name) state h = grind (arith, nat_tests)

-- a rule that has state 255 has all states
pub any-state : (rule : Rule) (state : ℕ) → is_state_of rule 255 ≡ true → state ≤ 255 → is_state_of rule state ≡ true
any-state (Life sets) state e h = cc
any-state (Named name) state e h = grind (arith, nat_tests)

low-limit : (y : ℤ) → row_limit MAX_LEVEL y ≤ℤ rle_plane_end MAX_LEVEL
low-limit y =
    elim (int_lt y (rle_plane_end MAX_LEVEL)) as (λ t. cond t (rle_plane_end MAX_LEVEL) (neg_ℤ (pos (2 ^ 63))) ≤ℤ rle_plane_end MAX_LEVEL)
    [ true ↦ omega (arith, ints) | false ↦ omega (arith, ints) ]

-- cells within the limit
within : (x limit : ℤ) (n left : ℕ) → n ≤ 9 → 0 < left → (x +ℤ pos (9 * left)) ≤ℤ limit → (x +ℤ pos n) ≤ℤ limit
within x limit n left few some space = omega (arith, ints)

later : (x limit : ℤ) (n before after : ℕ) → n ≤ 9 → after + 1 ≤ before → (x +ℤ pos (9 * before)) ≤ℤ limit → ((x +ℤ pos n) +ℤ pos (9 * after)) ≤ℤ limit
later x limit n before after few less space = omega (arith, ints)

-- after a short item there is space again
pub still-space : (line : List ℕ) (at count state behind : ℕ) (here : Cursor) → RowHasSpace MAX_LEVEL line at here → count ≤ 9 → at < behind
    → behind ≤ length line
    → RowHasSpace MAX_LEVEL line behind (cursor_after_item here (Cells count state))
still-space line at count state behind here h few on inside =
    let limit = row_limit MAX_LEVEL here.y in
    let cells = within here.x limit count (length line - at) few (omega (arith, on, inside)) h.space in
    record {
      near = record {
        left = h.near.left;
        x = (further (neg_ℤ (rle_plane_end MAX_LEVEL)) here.x count h.near.x.0, int_le_trans _ _ _ cells (low-limit here.y));
        y = h.near.y;
      };
      space = later here.x limit count (length line - at) (length line - behind) few (omega (arith, on, inside)) h.space;
    }

-- one more short item is read
pub reads-short : (line : List ℕ) (at count state behind : ℕ) (here : Cursor) (found more : List Run) → RowHasSpace MAX_LEVEL line at here → count ≤ 9
    → at < behind → behind ≤ length line → next_of MAX_LEVEL (drop at line) ≡ Spelled (Cells count state) (drop behind line)
    → more ≡ found ++ with_run here.y here.x (Cells count state) []
    → (rule : Rule) → is_state_of rule state ≡ true → ReadsOn MAX_LEVEL rule line at here found behind (cursor_after_item here (Cells count state)) more
reads-short line at count state behind here found more h few on inside spelled adds rule known from before read =
    let item : Item = Cells count state in
    let limit = row_limit MAX_LEVEL here.y in
    let cells = within here.x limit count (length line - at) few (omega (arith, on, inside)) h.space in
    let sound : item_fault MAX_LEVEL rule here.y here.x item ≡ None =
    fault-by (is_state_of rule state) here.y here.x limit count h.near.x.0 refl known true (le-int_le _ _ cells) in
    reads_more MAX_LEVEL rule from here line (drop behind line) before found more item (cursor_after_item here item)
    (reads-as MAX_LEVEL rule from line _ _ here before found read spelled) sound refl (still-space line at count state behind here h few on inside).near adds

-- one stretch after another
pub reads-on : (rule : Rule) (line : List ℕ) (at middle behind : ℕ) (here halfway there : Cursor) (found some more : List Run)
    → ReadsOn MAX_LEVEL rule line at here found middle halfway some → ReadsOn MAX_LEVEL rule line middle halfway some behind there more
    → ReadsOn MAX_LEVEL rule line at here found behind there more
reads-on rule line at middle behind here halfway there found some more first second from before read = second from before (first from before read)

-- one more item of a line is read
pub reads-one : (rule : Rule) (line : List ℕ) (at behind : ℕ) (here there : Cursor) (found more : List Run) (item : Item)
    → next_of MAX_LEVEL (drop at line) ≡ Spelled item (drop behind line) → item_fault MAX_LEVEL rule here.y here.x item ≡ None
    → there ≡ cursor_after_item here item → IsNear MAX_LEVEL there → more ≡ found ++ with_run here.y here.x item []
    → ReadsOn MAX_LEVEL rule line at here found behind there more
reads-one rule line at behind here there found more item spelled sound moves near adds from before read =
    reads_more MAX_LEVEL rule from here line (drop behind line) before found more item there
    (reads-as MAX_LEVEL rule from line _ _ here before found read spelled) sound moves near adds

-- before the first item nothing was read
pub reads-none : (rule : Rule) (from : Cursor) (line : List ℕ) (runs : List Run) → IsNear MAX_LEVEL from
    → ReadsItems MAX_LEVEL rule from line (next_of MAX_LEVEL line) from runs runs
reads-none rule from line runs near = record {
  items = [];
  found = [];
  read = record { spelled = refl; sound = refl; cursor = refl; near = near; runs = refl };
  added = sym (append-nil runs);
}

two-digit-cells : (x limit : ℤ) (n : ℕ) → n ≤ 99 → (x +ℤ pos 9437283) ≤ℤ limit → (x +ℤ pos n) ≤ℤ limit
two-digit-cells x limit n few space = omega (arith, ints)

space-of-line : (x limit : ℤ) (n len behind : ℕ) → n ≤ 99 → len ≤ 1048576 → (x +ℤ pos 9437283) ≤ℤ limit
    → ((x +ℤ pos n) +ℤ pos (9 * (len - behind))) ≤ℤ limit
space-of-line x limit n len behind few short space = omega (arith, ints)

-- there is space after dead cells of two digits that are not near the edge of the plane
pub many-space : (line : List ℕ) (at count behind : ℕ) (here : Cursor) → RowHasSpace MAX_LEVEL line at here → count ≤ 99 → length line ≤ 1048576
    → (here.x +ℤ pos 9437283) ≤ℤ row_limit MAX_LEVEL here.y → RowHasSpace MAX_LEVEL line behind (cursor_after_item here (Cells count 0))
many-space line at count behind here h few short far =
    let limit = row_limit MAX_LEVEL here.y in
    let cells = two-digit-cells here.x limit count few far in
    record {
      near = record {
        left = h.near.left;
        x = (further (neg_ℤ (rle_plane_end MAX_LEVEL)) here.x count h.near.x.0, int_le_trans _ _ _ cells (low-limit here.y));
        y = h.near.y;
      };
      space = space-of-line here.x limit count (length line) behind few short far;
    }

-- such dead cells are read
pub reads-many-dead : (line : List ℕ) (at count : ℕ) (here : Cursor) → at + 2 < length line → RowHasSpace MAX_LEVEL line at here
    → length line ≤ 1048576 → (here.x +ℤ pos 9437283) ≤ℤ row_limit MAX_LEVEL here.y
    → 49 ≤ get_or line at 0 → get_or line at 0 ≤ 57 → 48 ≤ get_or line (at + 1) 0 → get_or line (at + 1) 0 ≤ 57 → get_or line (at + 2) 0 ≡ 98
    → count ≡ 10 * (get_or line at 0 - 48) + (get_or line (at + 1) 0 - 48)
    → (rule : Rule) (found : List Run) → ReadsOn MAX_LEVEL rule line at here found (at + 3) (cursor_after_item here (Cells count 0)) found
reads-many-dead line at count here inside h short far low high from to dead e rule found =
    let few : count ≤ 99 = omega (arith, e, high, to) in
    let limit = row_limit MAX_LEVEL here.y in
    let item : Item = Cells count 0 in
    let sound : item_fault MAX_LEVEL rule here.y here.x item ≡ None =
    fault-by (is_state_of rule 0) here.y here.x limit count h.near.x.0 refl (low-state rule 0 (omega arith)) true
    (le-int_le _ _ (two-digit-cells here.x limit count few far)) in
    let spelled = subst (λ n. next_of MAX_LEVEL (drop at line) ≡ Spelled (Cells n 0) (drop (at + 3) line)) (sym e)
    (many-dead line at inside low high from to dead) in
    reads-one rule line at (at + 3) here (cursor_after_item here item) found found item spelled sound refl
    (many-space line at count (at + 3) here h few short far).near (sym (append-nil found))
