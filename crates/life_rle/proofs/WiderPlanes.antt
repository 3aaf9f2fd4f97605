-- The law of wider planes: what is found of a line, and where items may stand, stays as the plane grows.
use Rattle.std.proofs.Common.{◌≡◌, ◌-◌, ◌^◌, ◌≤◌, Bool, true, false, cond, not, ◌&&◌, refl, ap, ◌∙◌, arith, inl, inr, drop, codes, ℕ, ℤ, pos, neg_ℤ, ◌+ℤ◌, int_lt, int_le, nat_lt, ◌==◌, List, [], ◌∷◌, Option, Some, None, Result, Ok, Err}
use Rattle.std.proofs.lemmas.Bool.Decides.{nat_tests}
use Rattle.std.proofs.lemmas.Int.{ints}
use Rattle.std.proofs.Math.Pow.{pow_mono}
use Rattle.life_base.specs.Text.{is_blank, value_of, begins_with, is_too_long, trim_start, words_of}
use Rattle.life_base.specs.declared.kind.Kind.{Kind}
use Rattle.life_base.specs.declared.kind.Kind.TheVariants.{OutOfPlane, StateRange, TooLarge, ZeroCount}
use Rattle.life_base.specs.declared.rule.Rule.{Rule}
use Rattle.life_rle.specs.declared.item.Item.{Item}
use Rattle.life_rle.specs.declared.item.Item.TheVariants.{Cells, RowEnds}
use Rattle.life_rle.specs.declared.line.Opening.{Opening}
use Rattle.life_rle.specs.declared.line.Opening.TheVariants.{Comment, PositionLine, Header}
use Rattle.life_rle.specs.declared.position.Position.{Position}
use Rattle.life_rle.specs.Grammar.{IsUnmarked, IsMarked, HasNoFault, IsPreamble, LineSpells, BodySpells, opening_of}
use Rattle.life_rle.specs.Header.{header_of}
use Rattle.life_rle.specs.Items.{Next, End, Mark, Spelled, Broken, Spells, next_of, item_in, item_with_digits, item_after, leading_digits, after_digits_of}
use Rattle.life_rle.specs.Laws.{WiderPlanesKeepRles}
use Rattle.std.specs.Option.{option_or}
use Rattle.life_rle.specs.Pattern.{Rle, PlacedItem, placed_items, item_fault, placed_fault, first_fault}
use Rattle.life_rle.specs.Plane.{rle_plane_end, is_coordinate, most_count}
use Rattle.life_rle.specs.Position.{default_position, Field, Corner, and_then, corner_of, corner_in, field_of, position_with_field, position_with, position_of, is_position_line}
use Rattle.life_rle.specs.States.{is_state_of}
use Rattle.life_rle.proofs.Openings.{opened}
use Rattle.life_rle.proofs.Progress.{option_or-both, IsOpenBy-map, IsEndedBy-map}

-- ---- the numbers of the plane

sides : (level wider : ℕ) → level ≤ wider → 2 ^ (level - 1) ≤ 2 ^ (wider - 1)
sides level wider wide = pow_mono (omega arith)

-- a number between two sides
within : (small great : ℕ) (z : ℤ) → small ≤ great
    → (int_le (neg_ℤ (pos small)) z && int_lt z (pos small)) ≡ true → (int_le (neg_ℤ (pos great)) z && int_lt z (pos great)) ≡ true
within small great z wide h = grind (arith, ints)

coordinate-wider : (level wider : ℕ) (z : ℤ) → level ≤ wider → is_coordinate level z ≡ true → is_coordinate wider z ≡ true
coordinate-wider level wider z wide h = within (2 ^ (level - 1)) (2 ^ (wider - 1)) z (sides level wider wide) h

-- ---- position lines

both-true : (a b c d : Bool) → (a ≡ true → c ≡ true) → (b ≡ true → d ≡ true) → (a && b) ≡ true → (c && d) ≡ true
both-true true true c d f g h = let one = f refl in let other = g refl in rw (one, other) refl
both-true true false c d f g h = cc
both-true false b c d f g h = cc

passed-by : {A : Type 0} (a b : Bool) (x found : A) (kind : Kind) → (a ≡ true → b ≡ true)
    → cond a (Ok x) (Err kind) ≡ Ok found → cond b (Ok x) (Err kind) ≡ Ok found
passed-by true b x found kind f h = ap (λ t. cond t (Ok x) (Err kind)) (f refl) ∙ h
passed-by false b x found kind f h = cc

corner-wider : (level wider : ℕ) (x y : Option ℤ) (found : Field) → level ≤ wider → corner_of level x y ≡ Ok found → corner_of wider x y ≡ Ok found
corner-wider level wider None y found wide h = cc
corner-wider level wider (Some x) None found wide h = cc
corner-wider level wider (Some x) (Some y) found wide h =
    passed-by (is_coordinate level x && is_coordinate level y) (is_coordinate wider x && is_coordinate wider y) (Corner x y) found OutOfPlane
    (both-true (is_coordinate level x) (is_coordinate level y) (is_coordinate wider x) (is_coordinate wider y)
    (coordinate-wider level wider x wide) (coordinate-wider level wider y wide)) h

-- the branch of a test that holds
true-branch : {A : Type 0} (a : Bool) (x y other found : A) → (x ≡ found → y ≡ found) → cond a x other ≡ found → cond a y other ≡ found
true-branch true x y other found f h = f h
true-branch false x y other found f h = h

field-wider : (level wider : ℕ) (text : List ℕ) (found : Field) → level ≤ wider → field_of level text ≡ Ok found → field_of wider text ≡ Ok found
field-wider level wider text found wide h =
    true-branch (begins_with text (codes "Pos=")) (corner_in level (drop 4 text)) (corner_in wider (drop 4 text)) _ (Ok found)
    (corner-wider level wider _ _ found wide) h

fields-wider : (level wider : ℕ) (position : Position) (fields : List (List ℕ)) (found : Position) → level ≤ wider
    → position_with level position fields ≡ Ok found → position_with wider position fields ≡ Ok found
fields-wider level wider position [] found wide h = h
fields-wider level wider position (field ∷ fields) found wide h = by (field_of level field) refl h (λ p. fields-wider level wider p fields found wide)
  where
    by : (r : Result Field Kind) → field_of level field ≡ r
        → and_then r (λ f. position_with level (position_with_field position f) fields) ≡ Ok found
        → ((p : Position) → position_with level p fields ≡ Ok found → position_with wider p fields ≡ Ok found)
        → and_then (field_of wider field) (λ f. position_with wider (position_with_field position f) fields) ≡ Ok found
    by (Ok f) e h more =
        ap (λ r. and_then r (λ f. position_with wider (position_with_field position f) fields)) (field-wider level wider field f wide e)
        ∙ more (position_with_field position f) h
    by (Err k) e h more = cc

-- ---- lines before the header

opened-by : (a b c d e : Bool) (p q : Result Position Kind) (h : Result Rule Kind) (found : Opening)
    → ((position : Position) → p ≡ Ok position → q ≡ Ok position)
    → opened a b c d e p h ≡ Ok found → opened a b c d e q h ≡ Ok found
opened-by true b c d e p q h found f s = s
opened-by false true c d e p q h found f s = s
opened-by false false true d e (Ok x) q h found f s = ap (λ r. and_then r (λ x. Ok (PositionLine x))) (f x refl) ∙ s
opened-by false false true d e (Err k) q h found f s = cc
opened-by false false false d e p q h found f s = s

opening-wider : (level wider : ℕ) (line : List ℕ) (found : Opening) → level ≤ wider → opening_of level line ≡ Ok found → opening_of wider line ≡ Ok found
opening-wider level wider line found wide h =
    opened-by (is_too_long line) (is_blank line) (is_position_line line) (begins_with line (codes "#")) (begins_with line (codes "x"))
    (position_of level line) (position_of wider line) (header_of line) found
    (λ position. fields-wider level wider default_position (words_of (drop 6 line)) position wide) h

preamble-wider : (level wider : ℕ) (given : Position) (lines : List (List ℕ)) (position : Position) → level ≤ wider
    → IsPreamble level given lines position → IsPreamble wider given lines position
preamble-wider level wider given [] position wide h = h
preamble-wider level wider given (line ∷ lines) position wide (inl h) =
    inl (opening-wider level wider line Comment wide h.0, preamble-wider level wider given lines position wide h.1)
preamble-wider level wider given (line ∷ lines) position wide (inr h) =
    inr (h.0, opening-wider level wider line (PositionLine h.0) wide h.1, preamble-wider level wider h.0 lines position wide h.2)

-- ---- items

counted-by : (a b c : Bool) (item next : Next) → (b ≡ false → c ≡ false) → (next ≡ Broken TooLarge → ⊥)
    → cond a (Broken ZeroCount) (cond b (Broken TooLarge) item) ≡ next
    → cond a (Broken ZeroCount) (cond c (Broken TooLarge) item) ≡ next
counted-by true b c item next f n h = h
counted-by false true c item next f n h = absurd (n cc)
counted-by false false c item next f n h = ap (λ t. cond t (Broken TooLarge) item) (f refl) ∙ h

not-more : (small great value : ℕ) → small ≤ great → nat_lt small value ≡ false → nat_lt great value ≡ false
not-more small great value wide h = grind (arith, nat_tests)

counted-wider : (level wider : ℕ) (digits bytes : List ℕ) (next : Next) → level ≤ wider → (next ≡ Broken TooLarge → ⊥)
    → item_with_digits level digits bytes ≡ next → item_with_digits wider digits bytes ≡ next
counted-wider level wider [] bytes next wide n h = h
counted-wider level wider (d ∷ digits) bytes next wide n h =
    counted-by (value_of (d ∷ digits) == 0)
    (nat_lt (most_count level) (value_of (d ∷ digits))) (nat_lt (most_count wider) (value_of (d ∷ digits)))
    (item_after (value_of (d ∷ digits)) bytes) next
    (not-more (2 ^ level) (2 ^ wider) (value_of (d ∷ digits)) (pow_mono wide)) n h

-- the branch of a test that fails
false-branch : {A : Type 0} (a : Bool) (other x y found : A) → (x ≡ found → y ≡ found) → cond a other x ≡ found → cond a other y ≡ found
false-branch true other x y found f h = h
false-branch false other x y found f h = f h

in-wider : (level wider : ℕ) (bytes : List ℕ) (next : Next) → level ≤ wider → (next ≡ Broken TooLarge → ⊥)
    → item_in level bytes ≡ next → item_in wider bytes ≡ next
in-wider level wider [] next wide n h = h
in-wider level wider (b ∷ bytes) next wide n h =
    false-branch (b == 33) Mark
    (item_with_digits level (leading_digits (b ∷ bytes)) (after_digits_of (b ∷ bytes)))
    (item_with_digits wider (leading_digits (b ∷ bytes)) (after_digits_of (b ∷ bytes))) next
    (counted-wider level wider (leading_digits (b ∷ bytes)) (after_digits_of (b ∷ bytes)) next wide n) h

-- what stands in an item's place stands there in each wider plane too, unless it is a count too large
next-wider : (level wider : ℕ) (bytes : List ℕ) (next : Next) → level ≤ wider → (next ≡ Broken TooLarge → ⊥)
    → next_of level bytes ≡ next → next_of wider bytes ≡ next
next-wider level wider bytes next wide n h = in-wider level wider (trim_start bytes) next wide n h

spells-wider : (level wider : ℕ) (bytes : List ℕ) (items : List Item) (last : Next) → level ≤ wider → (last ≡ Broken TooLarge → ⊥)
    → Spells level bytes items last → Spells wider bytes items last
spells-wider level wider bytes [] last wide n h = next-wider level wider bytes last wide n h
spells-wider level wider bytes (item ∷ items) last wide n h =
    (h.0, next-wider level wider bytes (Spelled item h.0) wide (λ e. cc) h.1, spells-wider level wider h.0 items last wide n h.2)

line-wider : (level wider : ℕ) (line : List ℕ) (items : List Item) (last : Next) → level ≤ wider → (last ≡ Broken TooLarge → ⊥)
    → LineSpells level line items last → LineSpells wider line items last
line-wider level wider line items last wide n (inl h) = inl h
line-wider level wider line items last wide n (inr h) = inr (h.0, spells-wider level wider line items last wide n h.1)

body-wider : (level wider : ℕ) (lines : List (List ℕ)) (items : List Item) → level ≤ wider → BodySpells level lines items → BodySpells wider lines items
body-wider level wider [] items wide h = h
body-wider level wider (line ∷ lines) items wide h =
    (h.0, h.1, h.2, line-wider level wider line h.0 End wide (λ e. cc) h.3, body-wider level wider lines h.1 wide h.4)

-- ---- places

row-within : (small great : ℕ) (row far : ℤ) → small ≤ great
    → (int_lt row (pos small) && int_le far (pos small)) ≡ true → (int_lt row (pos great) && int_le far (pos great)) ≡ true
row-within small great row far wide h = grind (arith, ints)

end-within : (small great : ℕ) (far : ℤ) → small ≤ great → int_le far (pos small) ≡ true → int_le far (pos great) ≡ true
end-within small great far wide h = grind (arith, ints)

sound-by : (b c : Bool) → (b ≡ true → c ≡ true) → cond b None (Some OutOfPlane) ≡ None → cond c None (Some OutOfPlane) ≡ None
sound-by true c f h = ap (λ t. cond t None (Some OutOfPlane)) (f refl)
sound-by false c f h = cc

item-wider : (level wider : ℕ) (rule : Rule) (row column : ℤ) (item : Item) → level ≤ wider
    → item_fault level rule row column item ≡ None → item_fault wider rule row column item ≡ None
item-wider level wider rule row column (Cells count state) wide h =
    false-branch (not (is_state_of rule state)) (Some StateRange) _ _ None
    (sound-by
    (int_lt row (rle_plane_end level) && int_le (column +ℤ pos count) (rle_plane_end level))
    (int_lt row (rle_plane_end wider) && int_le (column +ℤ pos count) (rle_plane_end wider))
    (row-within (2 ^ (level - 1)) (2 ^ (wider - 1)) row (column +ℤ pos count) (sides level wider wide))) h
item-wider level wider rule row column (RowEnds count) wide h =
    sound-by (int_le (row +ℤ pos count) (rle_plane_end level)) (int_le (row +ℤ pos count) (rle_plane_end wider))
    (end-within (2 ^ (level - 1)) (2 ^ (wider - 1)) (row +ℤ pos count) (sides level wider wide)) h

-- items that break no rule in a plane break none in a wider one
sound-wider : (level wider : ℕ) (rule : Rule) (items : List PlacedItem) → level ≤ wider
    → first_fault level rule items ≡ None → first_fault wider rule items ≡ None
sound-wider level wider rule [] wide h = refl
sound-wider level wider rule (p ∷ ps) wide h =
    let parts = option_or-both (placed_fault level rule p) (first_fault level rule ps) h in
    ap (λ kind. option_or kind (first_fault wider rule ps)) (item-wider level wider rule p.row p.column p.item wide parts.0)
    ∙ sound-wider level wider rule ps wide parts.1

-- ---- files

sound-file : (level wider : ℕ) (file : Rle) → level ≤ wider → HasNoFault level file → HasNoFault wider file
sound-file level wider file wide h = sound-wider level wider file.rule (placed_items file) wide h

unmarked-wider : (level wider : ℕ) (lines : List (List ℕ)) (file : Rle) → level ≤ wider → IsUnmarked level lines file → IsUnmarked wider lines file
unmarked-wider level wider lines file wide =
    IsOpenBy-map (λ before position. preamble-wider level wider default_position before position wide)
    (λ header rule. opening-wider level wider header (Header rule) wide) (λ body items. body-wider level wider body items wide)
    (λ whole. sound-file level wider whole wide) lines file

marked-wider : (level wider : ℕ) (lines : List (List ℕ)) (file : Rle) → level ≤ wider → IsMarked level lines file → IsMarked wider lines file
marked-wider level wider lines file wide =
    IsEndedBy-map (λ prefix begun. unmarked-wider level wider prefix begun wide)
    (λ line items. line-wider level wider line items Mark wide (λ e. cc))
    (λ whole. sound-file level wider whole wide) lines file

-- every file of a plane is one of each wider plane
pub wider_planes_keep_files : WiderPlanesKeepRles
wider_planes_keep_files level wider lines file wide (inl u) = inl (unmarked-wider level wider lines file wide u)
wider_planes_keep_files level wider lines file wide (inr m) = inr (marked-wider level wider lines file wide m)
