-- Lines are an RLE file exactly if they are one in the words of whole texts.
use Rattle.std.proofs.Common.{◌≡◌, ℕ, zero, suc, Bool, true, false, not, cond, ◌&&◌, ◌||◌, List, [], ◌∷◌, ◌++◌, take, drop, refl, sym, ap, ◌∙◌, subst, inl, inr, ◌⊎◌, Some, None, Ok, Err, Option, Result, ℤ, pos, ◌+ℤ◌, arith, codes, int_lt, int_le}
use Rattle.std.specs.List.{slice_get}
use Rattle.std.proofs.lemmas.Bool.Decides.{nat_tests}
use Rattle.std.proofs.lemmas.Bool.{and_parts}
use Rattle.std.proofs.lemmas.Option.{same_Some}
use Rattle.life_base.specs.declared.kind.Kind.{Kind}
use Rattle.life_base.specs.declared.kind.Kind.TheVariants.{LineTooLong, LateHeader, SecondHeader, StateRange, OutOfPlane}
use Rattle.life_base.specs.declared.rule.Rule.{Rule}
use Rattle.life_base.specs.Rules.{default_rule}
use Rattle.life_base.specs.Text.{is_too_long, is_blank, begins_with}
use Rattle.life_rle.specs.declared.item.Item.{Item}
use Rattle.life_rle.specs.declared.item.Item.TheVariants.{Cells, RowEnds}
use Rattle.life_rle.specs.declared.position.Position.{Position}
use Rattle.life_rle.specs.declared.line.Opening.{Opening}
use Rattle.life_rle.specs.declared.line.Opening.TheVariants.{Comment, PositionLine, Header}
use Rattle.life_rle.specs.declared.line.Later.{Later}
use Rattle.life_rle.specs.declared.line.Later.TheVariants.{Passed, Data}
use Rattle.life_rle.specs.Plane.{rle_plane_end}
use Rattle.life_rle.specs.States.{is_state_of}
use Rattle.life_rle.specs.Items.{End, Mark}
use Rattle.life_rle.specs.Position.{default_position, is_position_line, position_of, and_then}
use Rattle.life_rle.specs.Header.{header_form, rule_in, header_of}
use Rattle.std.specs.Option.{option_or}
use Rattle.life_rle.specs.Pattern.{Rle, PlacedItem, placed_items, item_fault, placed_fault, first_fault}
use Rattle.life_rle.specs.Grammar.{opening_of, later_of, IsPreamble, LineSpells, BodySpells, IsUnmarked, IsMarked, IsRle}
use Rattle.life_rle.specs.PlainPosition.{IsPositionText}
use Rattle.life_rle.specs.PlainFile.{IsShortLine, IsRleComment, ArePreamble, IsRleRuleLine, IsData, IsBodyLine, IsLastLine, AreBody, MayStand, IsOpenFile, IsEndedFile, FilesArePlain}
use Rattle.life_rle.proofs.Openings.{opened, opening-is}
use Rattle.life_rle.proofs.Progress.{option_or-both, IsOpenBy-map, IsEndedBy-map}
use Rattle.life_rle.proofs.PlainItems.{items_are_plain}
use Rattle.life_rle.proofs.PlainHeader.{headers_are_plain}
use Rattle.life_rle.proofs.PlainPosition.{positions_are_plain}
use Rattle.life_rle.proofs.RowLimits.{is-on}
use Rattle.life_base.proofs.Basics.{int_le-true, int_lt-true, le-int_le, lt-int_lt}

-- ---- lengths

short-of : (line : List ℕ) → is_too_long line ≡ false → IsShortLine line
short-of line h = grind (arith, nat_tests)

not-long : (line : List ℕ) → IsShortLine line → is_too_long line ≡ false
not-long line h = grind (arith, nat_tests)

-- ---- how a position line begins

hash-first : (b : ℕ) (rest : List ℕ) → begins_with (b ∷ rest) (codes "#CXRLE") ≡ true → b ≡ 35
hash-first b rest h = grind (arith, nat_tests)

position-first : (line : List ℕ) → is_position_line line ≡ true → (rest : List ℕ) × (line ≡ 35 ∷ rest)
position-first [] h = cc
position-first (b ∷ rest) h =
    let prefix = (and_parts (begins_with (b ∷ rest) (codes "#CXRLE")) (is_blank (take 1 (drop 6 (b ∷ rest)))) h).0 in
    (rest, ap (λ c. c ∷ rest) (hash-first b rest prefix))

no-position : (line : List ℕ) → begins_with line (codes "#") ≡ false → is_position_line line ≡ false
no-position line h = by (is_position_line line) refl
  where
    by : (b : Bool) → is_position_line line ≡ b → b ≡ false
    by true e = let first = position-first line e in let hash : begins_with line (codes "#") ≡ true = ap (λ l. begins_with l (codes "#")) first.1 in cc
    by false e = refl

visible-position : (line : List ℕ) → is_position_line line ≡ true → is_blank line ≡ false
visible-position line h = let first = position-first line h in ap is_blank first.1

-- ---- a line before the header

comment-is : (a b c d e : Bool) (p : Result Position Kind) (h : Result Rule Kind) → a ≡ false → (b ≡ true) ⊎ ((d ≡ true) × (c ≡ false))
    → opened a b c d e p h ≡ Ok Comment
comment-is a b c d e p h short (inl q) = rw (short, q) refl
comment-is a true c d e p h short (inr q) = rw short refl
comment-is a false c d e p h short (inr q) = rw (short, q.1, q.0) refl

position-is : (a b c d e : Bool) (p : Result Position Kind) (h : Result Rule Kind) (here : Position) → a ≡ false → b ≡ false → c ≡ true → p ≡ Ok here
    → opened a b c d e p h ≡ Ok (PositionLine here)
position-is a b c d e p h here short visible is read = rw (short, visible, is, read) refl

opening-comment : (level : ℕ) (line : List ℕ) → opening_of level line ≡ Ok Comment → IsShortLine line × IsRleComment line
opening-comment level line q = let c = opening-is level line (Ok Comment) q in (short-of line c.0, c.1)

comment-opening : (level : ℕ) (line : List ℕ) → IsShortLine line → IsRleComment line → opening_of level line ≡ Ok Comment
comment-opening level line short c =
    comment-is (is_too_long line) (is_blank line) (is_position_line line) (begins_with line (codes "#")) (begins_with line (codes "x")) (position_of level line)
    (header_of line) (not-long line short) c

opening-position : (level : ℕ) (line : List ℕ) (here : Position) → opening_of level line ≡ Ok (PositionLine here) → IsShortLine line
    × IsPositionText level line here
opening-position level line here q =
    let p = opening-is level line (Ok (PositionLine here)) q in (short-of line p.0, ((positions_are_plain level line).0 here).0 (p.1, p.2))

position-opening : (level : ℕ) (line : List ℕ) (here : Position) → IsShortLine line → IsPositionText level line here
    → opening_of level line ≡ Ok (PositionLine here)
position-opening level line here short t =
    let p = ((positions_are_plain level line).0 here).1 t in
    position-is (is_too_long line) (is_blank line) (is_position_line line) (begins_with line (codes "#")) (begins_with line (codes "x"))
    (position_of level line) (header_of line) here
    (not-long line short) (visible-position line p.0) p.0 p.1

-- ---- the header

rule-line : (line : List ℕ) (rule : Rule) (o : Option (Option (List ℕ))) → header_form line ≡ o → rule_in o ≡ Ok rule → IsRleRuleLine line rule
rule-line line rule None e h = cc
rule-line line rule (Some None) e h = let same : rule ≡ default_rule = cc in inl ((headers_are_plain line None).0 e, same)
rule-line line rule (Some (Some text)) e h = inr (text, (headers_are_plain line (Some text)).0 e, h)

line-rule : (line : List ℕ) (rule : Rule) → IsRleRuleLine line rule → header_of line ≡ Ok rule
line-rule line rule (inl h) = ap rule_in ((headers_are_plain line None).1 h.0) ∙ ap Ok (sym h.1)
line-rule line rule (inr h) = ap rule_in ((headers_are_plain line (Some h.0)).1 h.1) ∙ h.2

-- a header begins with `x`
header-first : (line : List ℕ) (rule : Rule) → IsRleRuleLine line rule → (rest : List ℕ) × (line ≡ 120 ∷ rest)
header-first line rule (inl h) = let t = h.0.4 in (t.0 ++ t.1, t.3)
header-first line rule (inr h) = let t = h.1.4 in (t.0 ++ t.1, t.3)

abbrev header-after : Bool → Result Rule Kind → Result Opening Kind
header-after long r = cond long (Err LineTooLong) (and_then r (λ rule. Ok (Header rule)))

x-opening : (level : ℕ) (rest : List ℕ) (rule : Rule) → is_too_long (120 ∷ rest) ≡ false → header_of (120 ∷ rest) ≡ Ok rule
    → opening_of level (120 ∷ rest) ≡ Ok (Header rule)
x-opening level rest rule short read =
    let after : header-after (is_too_long (120 ∷ rest)) (header_of (120 ∷ rest)) ≡ Ok (Header rule) =
    ap (λ b. header-after b (header_of (120 ∷ rest))) short ∙ ap (header-after false) read in
    after

header-opening : (level : ℕ) (line : List ℕ) (rule : Rule) → IsShortLine line → IsRleRuleLine line rule → opening_of level line ≡ Ok (Header rule)
header-opening level line rule short r =
    let first = header-first line rule r in
    let P : List ℕ → Type 0 = λ l. is_too_long l ≡ false → header_of l ≡ Ok rule → opening_of level l ≡ Ok (Header rule) in
    subst P (sym first.1) (x-opening level first.0 rule) (not-long line short) (line-rule line rule r)

opening-header : (level : ℕ) (line : List ℕ) (rule : Rule) → opening_of level line ≡ Ok (Header rule) → IsShortLine line × IsRleRuleLine line rule
opening-header level line rule q =
    let h = opening-is level line (Ok (Header rule)) q in (short-of line h.0, rule-line line rule (header_form line) refl h.1)

-- ---- lines before it

preamble-plain : (level : ℕ) (given position : Position) (lines : List (List ℕ)) → IsPreamble level given lines position
    → ArePreamble level given lines position
preamble-plain level given position [] h = h
preamble-plain level given position (line ∷ lines) (inl h) = let c = opening-comment level line h.0 in
    (c.0, inl (c.1, preamble-plain level given position lines h.1))
preamble-plain level given position (line ∷ lines) (inr h) =
    let p = opening-position level line h.0 h.1 in (p.0, inr (h.0, p.1, preamble-plain level h.0 position lines h.2))

plain-preamble : (level : ℕ) (given position : Position) (lines : List (List ℕ)) → ArePreamble level given lines position
    → IsPreamble level given lines position
plain-preamble level given position [] h = h
plain-preamble level given position (line ∷ lines) (short, inl h) = inl (comment-opening level line short h.0, plain-preamble level given position lines h.1)
plain-preamble level given position (line ∷ lines) (short, inr h) = inr
    (h.0, position-opening level line h.0 short h.1, plain-preamble level h.0 position lines h.2)

-- ---- a line after the header

abbrev later-by : (long blank position comment header : Bool) → Result Later Kind
later-by long blank position comment header = cond long (Err LineTooLong)
    (cond blank (Ok Passed) (cond position (Err LateHeader) (cond comment (Ok Passed) (cond header (Err SecondHeader) (Ok Data)))))

is-passed : (a b c d e : Bool) → later-by a b c d e ≡ Ok Passed → (a ≡ false) × ((b ≡ true) ⊎ ((d ≡ true) × (c ≡ false)))
is-passed true b c d e q = cc
is-passed false true c d e q = (refl, inl refl)
is-passed false false true d e q = cc
is-passed false false false true e q = (refl, inr (refl, refl))
is-passed false false false false true q = cc
is-passed false false false false false q = cc

passed-is : (a b c d e : Bool) → a ≡ false → (b ≡ true) ⊎ ((d ≡ true) × (c ≡ false)) → later-by a b c d e ≡ Ok Passed
passed-is a b c d e short (inl q) = rw (short, q) refl
passed-is a true c d e short (inr q) = rw short refl
passed-is a false c d e short (inr q) = rw (short, q.1, q.0) refl

is-data : (a b c d e f : Bool) → later-by a b c d (e || f) ≡ Ok Data → (a ≡ false) × (b ≡ false) × (d ≡ false) × (e ≡ false) × (f ≡ false)
is-data true b c d e f q = cc
is-data false true c d e f q = cc
is-data false false true d e f q = cc
is-data false false false true e f q = cc
is-data false false false false true f q = cc
is-data false false false false false true q = cc
is-data false false false false false false q = (refl, refl, refl, refl, refl)

data-is : (a b c d e f : Bool) → a ≡ false → b ≡ false → c ≡ false → d ≡ false → e ≡ false → f ≡ false → later-by a b c d (e || f) ≡ Ok Data
data-is a b c d e f p q r s t u = rw (p, q, r, s, t, u) refl

later-passed : (line : List ℕ) → later_of line ≡ Ok Passed → IsShortLine line × IsRleComment line
later-passed line q =
    let c = is-passed (is_too_long line) (is_blank line) (is_position_line line) (begins_with line (codes "#"))
    (begins_with line (codes "x ") || begins_with line (codes "x=")) q in
    (short-of line c.0, c.1)

passed-later : (line : List ℕ) → IsShortLine line → IsRleComment line → later_of line ≡ Ok Passed
passed-later line short c =
    passed-is (is_too_long line) (is_blank line) (is_position_line line) (begins_with line (codes "#"))
    (begins_with line (codes "x ") || begins_with line (codes "x=")) (not-long line short) c

later-data : (line : List ℕ) → later_of line ≡ Ok Data → IsShortLine line × IsData line
later-data line q =
    let d = is-data (is_too_long line) (is_blank line) (is_position_line line) (begins_with line (codes "#")) (begins_with line (codes "x "))
    (begins_with line (codes "x=")) q in
    (short-of line d.0, record { visible = d.1; no_comment = d.2; no_header = d.3; no_other_header = d.4 })

data-later : (line : List ℕ) → IsShortLine line → IsData line → later_of line ≡ Ok Data
data-later line short d =
    data-is (is_too_long line) (is_blank line) (is_position_line line) (begins_with line (codes "#")) (begins_with line (codes "x "))
    (begins_with line (codes "x="))
    (not-long line short) d.visible (no-position line d.no_comment) d.no_comment d.no_header d.no_other_header

line-plain : (level : ℕ) (line : List ℕ) (items : List Item) → LineSpells level line items End → IsBodyLine level line items
line-plain level line items (inl h) = let c = later-passed line h.0 in (c.0, inl (c.1, h.1))
line-plain level line items (inr h) = let d = later-data line h.0 in (d.0, inr (d.1, (items_are_plain level line items).0.0 h.1))

plain-line : (level : ℕ) (line : List ℕ) (items : List Item) → IsBodyLine level line items → LineSpells level line items End
plain-line level line items (short, inl h) = inl (passed-later line short h.0, h.1, refl)
plain-line level line items (short, inr h) = inr (data-later line short h.0, (items_are_plain level line items).0.1 h.1)

last-plain : (level : ℕ) (line : List ℕ) (items : List Item) → LineSpells level line items Mark → IsLastLine level line items
last-plain level line items (inl h) = cc
last-plain level line items (inr h) = let d = later-data line h.0 in (d.0, d.1, (items_are_plain level line items).1.0 h.1)

plain-last : (level : ℕ) (line : List ℕ) (items : List Item) → IsLastLine level line items → LineSpells level line items Mark
plain-last level line items h = inr (data-later line h.0 h.1, (items_are_plain level line items).1.1 h.2)

body-plain : (level : ℕ) (lines : List (List ℕ)) (items : List Item) → BodySpells level lines items → AreBody level lines items
body-plain level [] items h = h
body-plain level (line ∷ lines) items h = (h.0, h.1, h.2, line-plain level line h.0 h.3, body-plain level lines h.1 h.4)

plain-body : (level : ℕ) (lines : List (List ℕ)) (items : List Item) → AreBody level lines items → BodySpells level lines items
plain-body level [] items h = h
plain-body level (line ∷ lines) items h = (h.0, h.1, h.2, plain-line level line h.0 h.3, plain-body level lines h.1 h.4)

-- ---- where items stand

abbrev cells-by : (state row column : Bool) → Option Kind
cells-by state row column = cond (not state) (Some StateRange) (cond (row && column) None (Some OutOfPlane))

is-inside : (state row column : Bool) → cells-by state row column ≡ None → (state ≡ true) × (row ≡ true) × (column ≡ true)
is-inside true true true e = (refl, refl, refl)
is-inside true true false e = cc
is-inside true false column e = cc
is-inside false row column e = cc

inside-is : (state row column : Bool) → state ≡ true → row ≡ true → column ≡ true → cells-by state row column ≡ None
inside-is state row column s r c = ap (λ b. cells-by b row column) s ∙ ap (λ b. cells-by true b column) r ∙ ap (cells-by true true) c

item-place : (level : ℕ) (rule : Rule) (row column : ℤ) (item : Item) → item_fault level rule row column item ≡ None → MayStand level rule row column item
item-place level rule row column (Cells n s) e =
    let i = is-inside (is_state_of rule s) (int_lt row (rle_plane_end level)) (int_le (column +ℤ pos n) (rle_plane_end level)) e in
    (i.0, int_lt-true row (rle_plane_end level) i.1, int_le-true (column +ℤ pos n) (rle_plane_end level) i.2)
item-place level rule row column (RowEnds n) e = int_le-true (row +ℤ pos n) (rle_plane_end level) (is-on (int_le (row +ℤ pos n) (rle_plane_end level)) e)

place-item : (level : ℕ) (rule : Rule) (row column : ℤ) (item : Item) → MayStand level rule row column item → item_fault level rule row column item ≡ None
place-item level rule row column (Cells n s) h =
    inside-is (is_state_of rule s) (int_lt row (rle_plane_end level)) (int_le (column +ℤ pos n) (rle_plane_end level)) h.0
    (lt-int_lt row (rle_plane_end level) h.1)
    (le-int_le (column +ℤ pos n) (rle_plane_end level) h.2)
place-item level rule row column (RowEnds n) h = ap (λ b. cond b None (Some OutOfPlane)) (le-int_le (row +ℤ pos n) (rle_plane_end level) h)

fault-places : (level : ℕ) (rule : Rule) (ps : List PlacedItem) → first_fault level rule ps ≡ None → (i : ℕ) (p : PlacedItem) → slice_get ps i ≡ Some p
    → MayStand level rule p.row p.column p.item
fault-places level rule [] e i p at = cc
fault-places level rule (q ∷ ps) e zero p at =
    let none = option_or-both (placed_fault level rule q) (first_fault level rule ps) e in
    let P : PlacedItem → Type 0 = λ r. MayStand level rule r.row r.column r.item in
    subst P (same_Some q p at) (item-place level rule q.row q.column q.item none.0)
fault-places level rule (q ∷ ps) e (suc i) p at = fault-places level rule ps (option_or-both (placed_fault level rule q) (first_fault level rule ps) e).1 i p
    at

places-fault : (level : ℕ) (rule : Rule) (ps : List PlacedItem)
    → ((i : ℕ) (p : PlacedItem) → slice_get ps i ≡ Some p → MayStand level rule p.row p.column p.item)
    → first_fault level rule ps ≡ None
places-fault level rule [] h = refl
places-fault level rule (q ∷ ps) h =
    ap (λ k. option_or k (first_fault level rule ps)) (place-item level rule q.row q.column q.item (h zero q refl))
    ∙ places-fault level rule ps (λ i p at. h (suc i) p at)

-- ---- files

open-plain : (level : ℕ) (lines : List (List ℕ)) (file : Rle) → IsUnmarked level lines file → IsOpenFile level lines file
open-plain level =
    IsOpenBy-map (λ before position. preamble-plain level default_position position before) (opening-header level) (body-plain level)
    (λ file. fault-places level file.rule (placed_items file))

plain-open : (level : ℕ) (lines : List (List ℕ)) (file : Rle) → IsOpenFile level lines file → IsUnmarked level lines file
plain-open level =
    IsOpenBy-map (λ before position. plain-preamble level default_position position before) (λ header rule h. header-opening level header rule h.0 h.1)
    (plain-body level) (λ file. places-fault level file.rule (placed_items file))

ended-plain : (level : ℕ) (lines : List (List ℕ)) (file : Rle) → IsMarked level lines file → IsEndedFile level lines file
ended-plain level = IsEndedBy-map (open-plain level) (last-plain level) (λ file. fault-places level file.rule (placed_items file))

plain-ended : (level : ℕ) (lines : List (List ℕ)) (file : Rle) → IsEndedFile level lines file → IsMarked level lines file
plain-ended level = IsEndedBy-map (plain-open level) (plain-last level) (λ file. places-fault level file.rule (placed_items file))

file-plain : (level : ℕ) (lines : List (List ℕ)) (file : Rle) → IsRle level lines file → IsOpenFile level lines file ⊎ IsEndedFile level lines file
file-plain level lines file (inl u) = inl (open-plain level lines file u)
file-plain level lines file (inr m) = inr (ended-plain level lines file m)

plain-file : (level : ℕ) (lines : List (List ℕ)) (file : Rle) → IsOpenFile level lines file ⊎ IsEndedFile level lines file → IsRle level lines file
plain-file level lines file (inl u) = inl (plain-open level lines file u)
plain-file level lines file (inr m) = inr (plain-ended level lines file m)

pub files_are_plain : FilesArePlain
files_are_plain level lines file = (file-plain level lines file, plain-file level lines file)
