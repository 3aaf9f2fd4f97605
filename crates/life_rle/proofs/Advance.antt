-- One more line of a reader.
use Rattle.std.proofs.Common.{◌≡◌, ℕ, ◌^◌, Bool, true, false, cond, ◌&&◌, List, [], ◌∷◌, ◌++◌, drop, refl, sym, ap, ◌∙◌, subst, inl, inr, Some, None, Ok, Err, Option, Result, ℤ, pos, neg_ℤ, ◌+ℤ◌, ◌≤ℤ◌, ◌<ℤ◌, arith, codes, eqb, leb, not, ◌-◌, append-nil}
use Rattle.std.proofs.lemmas.Int.{ints}
use Rattle.std.proofs.lemmas.Bool.{and_parts}
use Rattle.std.specs.List.{before_first, after_first}
use Rattle.life_rle.specs.declared.lines.Phase.TheVariants as phases
use Rattle.life_base.specs.declared.kind.Kind.{Kind}
use Rattle.life_base.specs.declared.kind.Kind.TheVariants.{OutOfPlane, TooLarge, BadNumber}
use Rattle.life_base.specs.declared.rule.Rule.{Rule}
use Rattle.life_base.specs.Text.{begins_with, words_of, is_digit_text, value_of}
use Rattle.life_rle.specs.Position.{signed_number, Field, Corner, Generation, Other, default_position, corner_of, corner_in, field_of, position_with_field, and_then, position_with, position_of}
use Rattle.life_base.specs.Numbers.{u64_of}
use Rattle.life_base.specs.declared.cell.Run.{Run}
use Rattle.life_rle.specs.declared.cursor.Cursor.{Cursor}
use Rattle.life_rle.specs.declared.item.Item.{Item}
use Rattle.life_rle.specs.declared.item.Item.TheVariants.{Cells, RowEnds}
use Rattle.life_rle.specs.Items.{End, Mark}
use Rattle.life_rle.specs.declared.position.Position.{Position}
use Rattle.life_rle.specs.Plane.{rle_plane_end, is_coordinate}
use Rattle.life_rle.specs.Pattern.{Rle, PlacedItem, placed_items, placed_item, placed_after, first_fault, item_fault, rows_in, columns_in}
use Rattle.life_rle.specs.Runs.{runs_of}
use Rattle.life_rle.specs.declared.line.Opening.TheVariants.{Comment, PositionLine, Header}
use Rattle.life_rle.specs.Grammar.{opening_of, later_of, IsPreamble, IsUnmarked, IsMarked, IsRle, BreaksRle, before_header, by_form, by_text, by_item}
use Rattle.life_rle.specs.declared.line.Later.TheVariants.{Passed, Data}
use Rattle.life_rle.specs.File.{HasRuns}
use Rattle.life_rle.specs.Cursor.{IsAfterItems, start_of, cursor_after_item, cursor_after_items, placed_at}
use Rattle.life_rle.specs.Standing.{StandsAt, Advances}
use Rattle.life_rle.specs.Reader.{AreItemsRead, ItemsBreak, no_item, bad_item}
use Rattle.life_rle.proofs.Progress.{with_items, with_items-nil, placed_behind-append, IsPreamble-push, IsUnmarked-push, IsMarked-begun, IsMarked-push, header-IsUnmarked, passed-IsUnmarked}
use Rattle.life_rle.proofs.Unique.{IsRle-unique, with_items-twice}
use Rattle.life_rle.proofs.Refusal.{IsPreamble-refused}
use Rattle.life_rle.proofs.Places.{rows_in-Cells, rows_in-RowEnds, columns_in-Cells, columns_in-RowEnds, regroup}
use Rattle.life_rle.proofs.ReadItems.{runs_of-append}
use Rattle.life_rle.proofs.ShortKinds.{is_short_kind}
use Rattle.life_rle.proofs.PlaneLemmas.{zero-coordinate}
use Rattle.life_base.proofs.Basics.{plus_zero}

-- the cursor follows an item
IsBehind-cursor : (c : Cursor) (file : Rle) (item : Item) → IsAfterItems c file → IsAfterItems (cursor_after_item c item) (with_items file (item ∷ []))
IsBehind-cursor c file (Cells n s) b = record {
  left = b.left;
  x = ap (λ z. z +ℤ pos n) b.x ∙ sym (regroup file.position.x (columns_in file.items) n)
      ∙ ap (λ k. file.position.x +ℤ pos k) (sym (columns_in-Cells file.items n s));
  y = b.y ∙ ap (λ k. file.position.y +ℤ pos k) (sym (rows_in-Cells file.items n s));
}
IsBehind-cursor c file (RowEnds n) b = record {
  left = b.left;
  x = b.left ∙ sym (plus_zero file.position.x) ∙ ap (λ k. file.position.x +ℤ pos k) (sym (columns_in-RowEnds file.items n));
  y = ap (λ z. z +ℤ pos n) b.y ∙ sym (regroup file.position.y (rows_in file.items) n) ∙ ap (λ k. file.position.y +ℤ pos k) (sym (rows_in-RowEnds file.items n));
}

abbrev placed_of : ℤ → ℤ → Item → PlacedItem
placed_of r k item = record { row = r; column = k; item = item }

-- and items: they stand where the sums say
pub behind-items : (c : Cursor) (file : Rle) (items : List Item) → IsAfterItems c file → (placed_at c items ≡ placed_after file.position file.items items)
    × IsAfterItems (cursor_after_items c items) (with_items file items)
behind-items c file [] b = (refl, subst (IsAfterItems c) (sym (with_items-nil file)) b)
behind-items c file (item ∷ items) b =
    let more = behind-items (cursor_after_item c item) (with_items file (item ∷ [])) items (IsBehind-cursor c file item b) in (
      ap (λ z. placed_of z c.x item ∷ placed_at (cursor_after_item c item) items) b.y
          ∙ ap (λ z. placed_of (file.position.y +ℤ pos (rows_in file.items)) z item ∷ placed_at (cursor_after_item c item) items) b.x
          ∙ ap (λ ps. placed_item file.position file.items item ∷ ps) more.0,
      subst (IsAfterItems (cursor_after_items (cursor_after_item c item) items)) (with_items-twice file (item ∷ []) items) more.1,
    )

-- the runs so far are those of the lines
known-none : (level : ℕ) (lines : List (List ℕ)) (o : Position) (before : List Run) → IsPreamble level default_position lines o → HasRuns level lines before
    → before ≡ []
known-none level lines o before p (inl h) = h.2
known-none level lines o before p (inr h) = absurd (IsPreamble-refused level lines o p (h.0, h.1))

pub known-runs : (level : ℕ) (lines : List (List ℕ)) (file : Rle) (before : List Run) → IsRle level lines file → HasRuns level lines before
    → before ≡ runs_of (placed_items file)
known-runs level lines file before r (inl h) = absurd (IsPreamble-refused level lines h.0 h.1 (file, r))
known-runs level lines file before r (inr h) = h.2 ∙ ap (λ f. runs_of (placed_items f)) (IsRle-unique level lines h.0 file h.1 r)

no_more : (before : List Run) (xs : List Run) → before ≡ xs → before ++ [] ≡ xs
no_more before xs e = append-nil before ∙ e

pub adv-comment : (level : ℕ) (g : Position) (c : Cursor) (line : List ℕ) → opening_of level line ≡ Ok Comment
    → Advances level (phases.Before g) c line (phases.Before g) c []
adv-comment level g c line e = record {
  stands = λ lines s. (s.0, IsPreamble-push level default_position g g lines line s.1 (inl (e, refl)), s.2);
  found = λ lines before s h. inl
      (g, IsPreamble-push level default_position g g lines line s.1 (inl (e, refl)), no_more before [] (known-none level lines g before s.1 h));
}

-- the position of a position line is in the plane
abbrev pub IsInPlane : ℕ → Position → Type 0
IsInPlane level o = (is_coordinate level o.x ≡ true) × (is_coordinate level o.y ≡ true)

abbrev IsPlaneField : ℕ → Result Field Kind → Type 0
IsPlaneField level (Ok (Corner x y)) = (is_coordinate level x ≡ true) × (is_coordinate level y ≡ true)
IsPlaneField level (Ok (Generation n)) = Unit {0}
IsPlaneField level (Ok Other) = Unit {0}
IsPlaneField level (Err kind) = is_short_kind kind ≡ true

corner_of-plane : (level : ℕ) (a b : Option ℤ) → IsPlaneField level (corner_of level a b)
corner_of-plane level None b = refl
corner_of-plane level (Some x) None = refl
corner_of-plane level (Some x) (Some y) =
    elim (is_coordinate level x && is_coordinate level y)
    as (λ t. (is_coordinate level x && is_coordinate level y) ≡ t → IsPlaneField level (cond t (Ok (Corner x y)) (Err OutOfPlane)))
    [ true ↦ λ e. and_parts (is_coordinate level x) (is_coordinate level y) e | false ↦ λ _. refl ] refl

generation-plane : (level n : ℕ) (digits fits : Bool)
    → IsPlaneField level (and_then (cond (not digits) (Err BadNumber) (cond fits (Ok n) (Err TooLarge))) (λ n. Ok (Generation n)))
generation-plane level n false fits = refl
generation-plane level n true true = tt
generation-plane level n true false = refl

field_of-plane : (level : ℕ) (text : List ℕ) → IsPlaneField level (field_of level text)
field_of-plane level text =
    let gen = drop 4 text in
    elim (begins_with text (codes "Pos="))
    as (λ t. IsPlaneField level (cond t (corner_in level gen)
    (cond (begins_with text (codes "Gen=")) (and_then (u64_of gen) (λ n. Ok (Generation n))) (Ok Other)))) [
      | true ↦ corner_of-plane level (signed_number (before_first (λ b. eqb b 44) gen)) (signed_number (after_first (λ b. eqb b 44) gen))
      | false ↦ elim (begins_with text (codes "Gen=")) as (λ t. IsPlaneField level (cond t (and_then (u64_of gen) (λ n. Ok (Generation n))) (Ok Other)))
          [ true ↦ generation-plane level (value_of gen) (is_digit_text gen) (leb (value_of gen) (2 ^ 64 - 1)) | false ↦ tt ]
    ]

abbrev pub IsPlanePosition : ℕ → Result Position Kind → Type 0
IsPlanePosition level (Ok o) = IsInPlane level o
IsPlanePosition level (Err kind) = is_short_kind kind ≡ true

with_field-plane : (level : ℕ) (o : Position) (r : Result Field Kind) (next : Field → Result Position Kind) → IsInPlane level o → IsPlaneField level r
    → ((found : Field) → IsInPlane level (position_with_field o found) → IsPlanePosition level (next found)) → IsPlanePosition level (and_then r next)
with_field-plane level o (Ok (Corner x y)) next h k f = f (Corner x y) k
with_field-plane level o (Ok (Generation n)) next h k f = f (Generation n) h
with_field-plane level o (Ok Other) next h k f = f Other h
with_field-plane level o (Err kind) next h k f = k

position_with-plane : (level : ℕ) (o : Position) (fields : List (List ℕ)) → IsInPlane level o → IsPlanePosition level (position_with level o fields)
position_with-plane level o [] h = h
position_with-plane level o (field ∷ fields) h = with_field-plane level o (field_of level field)
    (λ found. position_with level (position_with_field o found) fields) h
    (field_of-plane level field) (λ found k. position_with-plane level (position_with_field o found) fields k)

pub position_of-plane : (level : ℕ) (line : List ℕ) → IsPlanePosition level (position_of level line)
position_of-plane level line = position_with-plane level default_position (words_of (drop 6 line)) (zero-coordinate level, zero-coordinate level)

near-of : (level : ℕ) (z : ℤ) → is_coordinate level z ≡ true → (neg_ℤ (rle_plane_end level) ≤ℤ z) × (z <ℤ rle_plane_end level)
near-of level z e = (grind (arith, ints), grind (arith, ints))

at-edge : (level : ℕ) (z : ℤ) → is_coordinate level z ≡ true → (neg_ℤ (rle_plane_end level) ≤ℤ z) × (z ≤ℤ rle_plane_end level)
at-edge level z e = (grind (arith, ints), grind (arith, ints))

pub adv-position : (level : ℕ) (g : Position) (c : Cursor) (line : List ℕ) (o : Position) → opening_of level line ≡ Ok (PositionLine o) → IsInPlane level o
    → Advances level (phases.Before g) c line (phases.Before o) (start_of o) []
adv-position level g c line o e p = record {
  stands = λ lines s. (
    record { left = near-of level o.x p.0; x = at-edge level o.x p.0; y = at-edge level o.y p.1 },
    IsPreamble-push level default_position g o lines line s.1 (inr e),
    refl,
  );
  found = λ lines before s h. inl
      (o, IsPreamble-push level default_position g o lines line s.1 (inr e), no_more before [] (known-none level lines g before s.1 h));
}

pub adv-header : (level : ℕ) (g : Position) (c : Cursor) (line : List ℕ) (rule : Rule) → opening_of level line ≡ Ok (Header rule)
    → Advances level (phases.Before g) c line (phases.Items rule g) c []
adv-header level g c line rule e = record {
  stands = λ lines s. (
    record { rule = rule; position = g; items = [] },
    header-IsUnmarked level lines g line rule s.1 e,
    s.0,
    record {
      left = ap (λ (p : Cursor). p.left) s.2;
      x = ap (λ (p : Cursor). p.x) s.2 ∙ sym (plus_zero g.x);
      y = ap (λ (p : Cursor). p.y) s.2
          ∙ sym (plus_zero g.y);
    },
    refl,
    refl,
  );
  found = λ lines before s h. inr (
    record { rule = rule; position = g; items = [] },
    inl (header-IsUnmarked level lines g line rule s.1 e),
    no_more before [] (known-none level lines g before s.1 h),
  );
}

pub adv-passed : (level : ℕ) (rule : Rule) (g : Position) (c : Cursor) (line : List ℕ) → later_of line ≡ Ok Passed
    → Advances level (phases.Items rule g) c line (phases.Items rule g) c []
adv-passed level rule g c line e = record {
  stands = λ lines s. (s.0, passed-IsUnmarked level lines s.0 line e s.1, s.2, s.3, s.4, s.5);
  found = λ lines before s h. inr
      (s.0, inl (passed-IsUnmarked level lines s.0 line e s.1), no_more before (runs_of (placed_items s.0)) (known-runs level lines s.0 before (inl s.1) h));
}

pub adv-over : (level : ℕ) (rule : Rule) (g : Position) (c : Cursor) (line : List ℕ) → Advances level (phases.Over rule g) c line (phases.Over rule g) c []
adv-over level rule g c line = record {
  stands = λ lines s. (s.0, IsMarked-push level lines s.0 line s.1, s.2, s.3);
  found = λ lines before s h. inr
      (s.0, inr (IsMarked-push level lines s.0 line s.1), no_more before (runs_of (placed_items s.0)) (known-runs level lines s.0 before (inr s.1) h));
}

-- the items are sound after the file
sound-behind : (level : ℕ) (rule : Rule) (c : Cursor) (file : Rle) (items : List Item) → IsAfterItems c file → rule ≡ file.rule
    → first_fault level rule (placed_at c items) ≡ None → first_fault level file.rule (placed_after file.position file.items items) ≡ None
sound-behind level rule c file items b r h = ap (λ ps. first_fault level file.rule ps) (sym (behind-items c file items b).0)
    ∙ ap (λ x. first_fault level x (placed_at c items)) (sym r) ∙ h

-- a line of items after the file
module _ (level : ℕ) (rule : Rule) (g : Position) (c now : Cursor) (line : List ℕ) (items : List Item) (runs : List Run) (form : later_of line ≡ Ok Data) where
  unmarked : (lines : List (List ℕ)) → AreItemsRead level rule c line items End now runs → (s : StandsAt level (phases.Items rule g) c lines)
      → IsUnmarked level (lines ++ line ∷ []) (with_items s.0 items)
  unmarked lines read s = IsUnmarked-push level lines s.0 line items s.1 (inr (form, read.spelled)) (sound-behind level rule c s.0 items s.3 s.4 read.sound)

  marked : (lines : List (List ℕ)) → AreItemsRead level rule c line items Mark now runs → (s : StandsAt level (phases.Items rule g) c lines)
      → IsMarked level (lines ++ line ∷ []) (with_items s.0 items)
  marked lines read s = IsMarked-begun level lines s.0 line items s.1 (inr (form, read.spelled)) (sound-behind level rule c s.0 items s.3 s.4 read.sound)

  runs-behind : (lines : List (List ℕ)) (before : List Run) (s : StandsAt level (phases.Items rule g) c lines)
      → IsRle level (lines ++ line ∷ []) (with_items s.0 items) → HasRuns level lines before → runs ≡ runs_of (placed_at c items)
      → HasRuns level (lines ++ line ∷ []) (before ++ runs)
  runs-behind lines before s r h e =
      let file : Rle = s.0 in
      let more : List PlacedItem = placed_after file.position file.items items in
      inr (
        with_items file items,
        r,
        ap (λ rs. rs ++ runs) (known-runs level lines file before (inl s.1) h)
            ∙ ap (λ rs. runs_of (placed_items file) ++ rs) (e ∙ ap runs_of (behind-items c file items s.3).0)
            ∙ sym (ap runs_of (placed_behind-append file.position [] file.items items) ∙ runs_of-append (placed_items file) more),
      )

  pub adv-items : AreItemsRead level rule c line items End now runs → Advances level (phases.Items rule g) c line (phases.Items rule g) now runs
  adv-items read = record {
    stands = λ lines s. (
      with_items s.0 items,
      unmarked lines read s,
      read.near,
      subst (λ (p : Cursor). IsAfterItems p (with_items s.0 items)) (sym read.cursor) (behind-items c s.0 items s.3).1,
      s.4,
      s.5,
    );
    found = λ lines before s h. runs-behind lines before s (inl (unmarked lines read s)) h read.runs;
  }

  pub adv-mark : AreItemsRead level rule c line items Mark now runs → Advances level (phases.Items rule g) c line (phases.Over rule g) now runs
  adv-mark read = record {
    stands = λ lines s. (with_items s.0 items, marked lines read s, s.4, s.5);
    found = λ lines before s h. runs-behind lines before s (inr (marked lines read s)) h read.runs;
  }

-- a fault of a line
pub breaks-before : (level : ℕ) (g : Position) (c : Cursor) (line : List ℕ) (kind : Kind) → opening_of level line ≡ Err kind → (lines : List (List ℕ))
    → StandsAt level (phases.Before g) c lines → BreaksRle level lines line kind
breaks-before level g c line kind e lines s = before_header g s.1 e

pub breaks-form : (level : ℕ) (rule : Rule) (g : Position) (c : Cursor) (line : List ℕ) (kind : Kind) → later_of line ≡ Err kind → (lines : List (List ℕ))
    → StandsAt level (phases.Items rule g) c lines → BreaksRle level lines line kind
breaks-form level rule g c line kind e lines s = by_form s.0 s.1 e

pub breaks-items : (level : ℕ) (rule : Rule) (g : Position) (c : Cursor) (line : List ℕ) (kind : Kind) → later_of line ≡ Ok Data
    → ItemsBreak level rule c line kind → (lines : List (List ℕ)) → StandsAt level (phases.Items rule g) c lines → BreaksRle level lines line kind
breaks-items level rule g c line kind form (no_item items spelled sound) lines s = by_text s.0 items s.1 form spelled
    (sound-behind level rule c s.0 items s.3 s.4 sound)
breaks-items level rule g c line kind form (bad_item items item rest spelled sound fault) lines s =
    let b = (behind-items c s.0 items s.3).1 in
    by_item s.0 items item rest s.1 form spelled (sound-behind level rule c s.0 items s.3 s.4 sound)
    (ap (λ x. item_fault level s.0.rule x (s.0.position.x +ℤ pos (columns_in (s.0.items ++ items))) item) (sym b.y)
    ∙ ap (λ x. item_fault level s.0.rule (cursor_after_items c items).y x item) (sym b.x)
    ∙ ap (λ r. item_fault level r (cursor_after_items c items).y (cursor_after_items c items).x item) (sym s.4) ∙ fault)
