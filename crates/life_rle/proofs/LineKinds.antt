-- Each rule that a line breaks is of a kind of the format, and what a line is before the header stands in the plane.
use Rattle.std.proofs.Common.{◌≡◌, ℕ, Bool, true, false, not, cond, ◌&&◌, ◌||◌, List, [], ◌∷◌, ◌++◌, refl, sym, ◌∙◌, subst, inl, inr, Some, None, Ok, Err, Option, Result, ℤ, pos, ◌+ℤ◌, codes, int_lt, int_le}
use Rattle.life_base.specs.declared.kind.Kind.{Kind}
use Rattle.life_base.specs.declared.kind.Kind.TheVariants.{LineTooLong, NoHeader, LateHeader, SecondHeader, StateRange, OutOfPlane}
use Rattle.life_base.specs.declared.rule.Rule.{Rule}
use Rattle.life_base.proofs.RuleKinds.{errs_by, rule_errs_by}
use Rattle.life_base.specs.Refusal.{is_placeless, Answers}
use Rattle.life_base.specs.Text.{is_too_long, is_blank, begins_with}
use Rattle.life_base.proofs.LineKinds.{names_line as kinds_name_lines}
use Rattle.life_rle.specs.declared.item.Item.{Item}
use Rattle.life_rle.specs.declared.item.Item.TheVariants.{Cells, RowEnds}
use Rattle.life_rle.specs.Items.{Broken, Spells}
use Rattle.life_rle.specs.declared.position.Position.{Position}
use Rattle.life_rle.specs.Position.{and_then, is_position_line, position_of}
use Rattle.life_rle.specs.Plane.{rle_plane_end}
use Rattle.life_rle.specs.Header.{header_form, rule_in, header_of}
use Rattle.life_rle.specs.Pattern.{item_fault, rows_in, columns_in}
use Rattle.life_rle.specs.States.{is_state_of}
use Rattle.life_rle.specs.declared.line.Opening.{Opening}
use Rattle.life_rle.specs.declared.line.Opening.TheVariants.{Comment, PositionLine, Header}
use Rattle.life_rle.specs.Grammar.{opening_of, later_of, BreaksRle, before_header, by_form, by_text, by_item, is_rle_kind}
use Rattle.life_rle.specs.declared.line.Later.{Later}
use Rattle.life_rle.specs.declared.line.Later.TheVariants.{Passed, Data}
use Rattle.life_rle.proofs.ShortKinds.{is_short_kind, IsLineKind, short-line, line-rle, only-long}
use Rattle.life_rle.proofs.ReadItems.{Broken-kind}
use Rattle.life_rle.proofs.Advance.{IsInPlane, IsPlanePosition, position_of-plane}

header-kind : (o : Option (Option (List ℕ))) → errs_by is_short_kind (rule_in o) ≡ true
header-kind None = refl
header-kind (Some None) = refl
header-kind (Some (Some text)) = rule_errs_by is_short_kind refl refl refl refl text

-- what a line is before the header, by whether it is too long
abbrev pub IsTameOpening : ℕ → Bool → Result Opening Kind → Type 0
IsTameOpening level long (Ok Comment) = Unit {0}
IsTameOpening level long (Ok (PositionLine o)) = IsInPlane level o
IsTameOpening level long (Ok (Header rule)) = Unit {0}
IsTameOpening level long (Err kind) = IsLineKind long kind

opening-choice : (level : ℕ) (long blank position comment header : Bool) (p h : Result Opening Kind) → IsTameOpening level long p → IsTameOpening level long h
    → IsTameOpening level long (cond long (Err LineTooLong)
    (cond blank (Ok Comment) (cond position p (cond comment (Ok Comment) (cond header h (Err NoHeader))))))
opening-choice level true b c d e p h tp th = refl
opening-choice level false true c d e p h tp th = tt
opening-choice level false false true d e p h tp th = tp
opening-choice level false false false true e p h tp th = tt
opening-choice level false false false false true p h tp th = th
opening-choice level false false false false false p h tp th = refl

position-tame : (level : ℕ) (long : Bool) (r : Result Position Kind) → IsPlanePosition level r
    → IsTameOpening level long (and_then r (λ position. Ok (PositionLine position)))
position-tame level long (Ok o) h = h
position-tame level long (Err kind) h = short-line long kind h

header-tame : (level : ℕ) (long : Bool) (r : Result Rule Kind) → errs_by is_short_kind r ≡ true
    → IsTameOpening level long (and_then r (λ rule. Ok (Header rule)))
header-tame level long (Ok rule) h = tt
header-tame level long (Err kind) h = short-line long kind h

pub opening-tame : (level : ℕ) (line : List ℕ) → IsTameOpening level (is_too_long line) (opening_of level line)
opening-tame level line =
    opening-choice level (is_too_long line) (is_blank line) (is_position_line line) (begins_with line (codes "#")) (begins_with line (codes "x"))
    (and_then (position_of level line) (λ position. Ok (PositionLine position))) (and_then (header_of line) (λ rule. Ok (Header rule)))
    (position-tame level (is_too_long line) (position_of level line) (position_of-plane level line))
    (header-tame level (is_too_long line) (header_of line) (header-kind (header_form line)))

-- what a line is after the header, by whether it is too long
abbrev IsTameLater : Bool → Result Later Kind → Type 0
IsTameLater long (Ok later) = Unit {0}
IsTameLater long (Err kind) = IsLineKind long kind

later-choice : (long blank position comment header : Bool)
    → IsTameLater long (cond long (Err LineTooLong)
    (cond blank (Ok Passed) (cond position (Err LateHeader) (cond comment (Ok Passed) (cond header (Err SecondHeader) (Ok Data))))))
later-choice true b c d e = refl
later-choice false true c d e = tt
later-choice false false true d e = refl
later-choice false false false true e = tt
later-choice false false false false true = refl
later-choice false false false false false = tt

later-tame : (line : List ℕ) → IsTameLater (is_too_long line) (later_of line)
later-tame line = later-choice (is_too_long line) (is_blank line) (is_position_line line) (begins_with line (codes "#"))
    (begins_with line (codes "x ") || begins_with line (codes "x="))

text-kind : (level : ℕ) (items : List Item) (bytes : List ℕ) (kind : Kind) → Spells level bytes items (Broken kind) → is_short_kind kind ≡ true
text-kind level [] bytes kind h = Broken-kind level bytes kind h
text-kind level (item ∷ items) bytes kind h = text-kind level items h.0 kind h.2

abbrev IsLive : Option Kind → Type 0
IsLive None = Unit {0}
IsLive (Some kind) = is_short_kind kind ≡ true

cells-choice : (state inside : Bool) → IsLive (cond state (Some StateRange) (cond inside None (Some OutOfPlane)))
cells-choice true inside = refl
cells-choice false true = tt
cells-choice false false = refl

item-kind : (level : ℕ) (rule : Rule) (row column : ℤ) (item : Item) → IsLive (item_fault level rule row column item)
item-kind level rule row column (Cells n s) = cells-choice (not (is_state_of rule s))
    (int_lt row (rle_plane_end level) && int_le (column +ℤ pos n) (rle_plane_end level))
item-kind level rule row column (RowEnds n) = elim (int_le (row +ℤ pos n) (rle_plane_end level)) as (λ t. IsLive (cond t None (Some OutOfPlane)))
    [ true ↦ tt | false ↦ refl ]

Breaks-line_kind : (level : ℕ) (prefix : List (List ℕ)) (line : List ℕ) (kind : Kind) → BreaksRle level prefix line kind → IsLineKind (is_too_long line) kind
Breaks-line_kind level prefix line kind (before_header o h e) = subst (IsTameOpening level (is_too_long line)) e (opening-tame level line)
Breaks-line_kind level prefix line kind (by_form file h e) = subst (IsTameLater (is_too_long line)) e (later-tame line)
Breaks-line_kind level prefix line kind (by_text file items h form s sound) = short-line (is_too_long line) kind (text-kind level items line kind s)
Breaks-line_kind level prefix line kind (by_item file items item rest h form s sound fault) =
    short-line (is_too_long line) kind
    (subst IsLive fault (item-kind level file.rule (file.position.y +ℤ pos (rows_in (file.items ++ items)))
    (file.position.x +ℤ pos (columns_in (file.items ++ items))) item))

pub Breaks-kind : (level : ℕ) (prefix : List (List ℕ)) (line : List ℕ) (kind : Kind) → BreaksRle level prefix line kind → is_rle_kind kind ≡ true
Breaks-kind level prefix line kind b = line-rle (is_too_long line) kind (Breaks-line_kind level prefix line kind b)

-- only a line that is too long breaks the rule of lengths
pub Breaks-long : (level : ℕ) (prefix : List (List ℕ)) (line : List ℕ) → BreaksRle level prefix line LineTooLong → is_too_long line ≡ true
Breaks-long level prefix line b = only-long (is_too_long line) (Breaks-line_kind level prefix line LineTooLong b)

-- each of these kinds names a line
pub names_line : (kind : Kind) → is_rle_kind kind ≡ true → is_placeless kind ≡ false
names_line = kinds_name_lines is_rle_kind refl

pub Breaks-placed : (level : ℕ) (prefix : List (List ℕ)) (line : List ℕ) (kind : Kind) → BreaksRle level prefix line kind → is_placeless kind ≡ false
Breaks-placed level prefix line kind b = names_line kind (Breaks-kind level prefix line kind b)

-- an answer that isn't want of memory is the definition's
pub answered : {X : Type 0} (r expected : Result X Kind) (x : X) → r ≡ Ok x → Answers r expected → expected ≡ Ok x
answered r expected x e (inl m) = cc
answered r expected x e (inr h) = sym h ∙ e
