-- Reading line by line, and that it follows the grammar: so what the lines are is determined, also by their prefix.
use Rattle.std.proofs.Common.{◌≡◌, ℕ, List, [], ◌∷◌, ◌++◌, length, refl, sym, ap, ◌∙◌, subst, inl, inr, Some, None, Ok, Err, Option, Result, append_assoc, ◌⊎◌, append-nil}
use Rattle.life_base.specs.declared.kind.Kind.{Kind}
use Rattle.life_base.specs.declared.kind.Kind.TheVariants.{BadItem}
use Rattle.life_base.specs.declared.rule.Rule.{Rule}
use Rattle.life_rle.specs.declared.item.Item.{Item}
use Rattle.life_rle.specs.Items.{Next, End, Mark, Spelled, Broken, next_of, Spells}
use Rattle.life_rle.specs.declared.position.Position.{Position}
use Rattle.life_rle.specs.Position.{default_position}
use Rattle.std.specs.Option.{option_or}
use Rattle.life_rle.specs.Pattern.{Rle, PlacedItem, placed_items, placed_item, placed_after, first_fault, placed_fault}
use Rattle.life_rle.specs.declared.line.Opening.{Opening}
use Rattle.life_rle.specs.declared.line.Opening.TheVariants.{Comment, PositionLine, Header}
use Rattle.life_rle.specs.Grammar.{opening_of, later_of, IsPreamble, LineSpells, BodySpells, IsUnmarked, IsOpenBy, IsEndedBy, IsMarked}
use Rattle.life_rle.specs.declared.line.Later.{Later}
use Rattle.life_rle.specs.declared.line.Later.TheVariants.{Passed, Data}
use Rattle.life_rle.proofs.ReadSteps.{items_read, last_read, line-Spells}

abbrev pub fault_of_next : Next → Option Kind
fault_of_next End = None
fault_of_next Mark = None
fault_of_next (Spelled item rest) = None
fault_of_next (Broken kind) = Some kind

-- which rule further items break first after a file, or what comes after them
abbrev pub items_fault : ℕ → Rle → List Item → Next → Option Kind
items_fault level file items last = option_or (first_fault level file.rule (placed_after file.position file.items items)) (fault_of_next last)

-- how far the lines so far have come
pub data Progress : Type 0 where
  Before : (position : Position) → Progress
  Begun : (file : Rle) → Progress
  Ended : (file : Rle) → Progress
  Refused : (kind : Kind) → Progress

abbrev pub line_items : ℕ → List ℕ → List Item
line_items level line = items_read level (length line) (next_of level line)

abbrev pub line_last : ℕ → List ℕ → Next
line_last level line = last_read level (length line) (next_of level line)

-- a file with more items
abbrev pub with_items : Rle → List Item → Rle
with_items file items = record file { items = file.items ++ items }

abbrev pub after_items : Rle → List Item → Next → Option Kind → Progress
after_items file items End None = Begun (with_items file items)
after_items file items Mark None = Ended (with_items file items)
after_items file items (Spelled item rest) None = Refused BadItem
after_items file items (Broken kind) None = Refused kind
after_items file items next (Some kind) = Refused kind

abbrev pub open_step : Position → Result Opening Kind → Progress
open_step position (Ok Comment) = Before position
open_step position (Ok (PositionLine here)) = Before here
open_step position (Ok (Header rule)) = Begun (record { rule = rule; position = position; items = [] })
open_step position (Err kind) = Refused kind

abbrev pub later_step : ℕ → Rle → List ℕ → Result Later Kind → Progress
later_step level file line (Err kind) = Refused kind
later_step level file line (Ok Passed) = Begun file
later_step level file line (Ok Data) = after_items file (line_items level line) (line_last level line)
    (items_fault level file (line_items level line) (line_last level line))

abbrev pub step : ℕ → Progress → List ℕ → Progress
step level (Before position) line = open_step position (opening_of level line)
step level (Begun file) line = later_step level file line (later_of line)
step level (Ended file) line = Ended file
step level (Refused kind) line = Refused kind

abbrev pub progress : ℕ → Progress → List (List ℕ) → Progress
progress level p [] = p
progress level p (line ∷ lines) = progress level (step level p line) lines

abbrev pub start : Progress
start = Before default_position

-- what the lines so far are
abbrev pub Stands : ℕ → List (List ℕ) → Progress → Type 0
Stands level lines (Before position) = IsPreamble level default_position lines position
Stands level lines (Begun file) = IsUnmarked level lines file
Stands level lines (Ended file) = IsMarked level lines file
Stands level lines (Refused kind) = Unit {0}

pub progress-append : (level : ℕ) (p : Progress) (xs ys : List (List ℕ)) → progress level p (xs ++ ys) ≡ progress level (progress level p xs) ys
progress-append level p [] ys = refl
progress-append level p (x ∷ xs) ys = progress-append level (step level p x) xs ys

pub progress-Refused : (level : ℕ) (kind : Kind) (lines : List (List ℕ)) → progress level (Refused kind) lines ≡ Refused kind
progress-Refused level kind [] = refl
progress-Refused level kind (line ∷ lines) = progress-Refused level kind lines

pub progress-Ended : (level : ℕ) (file : Rle) (lines : List (List ℕ)) → progress level (Ended file) lines ≡ Ended file
progress-Ended level file [] = refl
progress-Ended level file (line ∷ lines) = progress-Ended level file lines

-- items after items
pub placed_behind-append : (o : Position) (before xs ys : List Item) → placed_after o before (xs ++ ys) ≡ placed_after o before xs
    ++ placed_after o (before ++ xs) ys
placed_behind-append o before [] ys = ap (λ b. placed_after o b ys) (sym (append-nil before))
placed_behind-append o before (x ∷ xs) ys =
    ap (λ ps. placed_item o before x ∷ ps) (placed_behind-append o (before ++ x ∷ []) xs ys
    ∙ ap (λ b. placed_after o (before ++ x ∷ []) xs ++ placed_after o b ys) (append_assoc before (x ∷ []) xs))

option_or-assoc : (a b c : Option Kind) → option_or a (option_or b c) ≡ option_or (option_or a b) c
option_or-assoc None b c = refl
option_or-assoc (Some k) b c = refl

pub first_fault-append : (level : ℕ) (rule : Rule) (ps qs : List PlacedItem) → first_fault level rule (ps ++ qs) ≡ option_or (first_fault level rule ps)
    (first_fault level rule qs)
first_fault-append level rule [] qs = refl
first_fault-append level rule (p ∷ ps) qs =
    ap (option_or (placed_fault level rule p)) (first_fault-append level rule ps qs)
    ∙ option_or-assoc (placed_fault level rule p) (first_fault level rule ps) (first_fault level rule qs)

pub first_fault-with_items : (level : ℕ) (file : Rle) (items : List Item) → first_fault level file.rule (placed_items (with_items file items))
    ≡ option_or (first_fault level file.rule (placed_items file)) (first_fault level file.rule (placed_after file.position file.items items))
first_fault-with_items level file items =
    ap (first_fault level file.rule) (placed_behind-append file.position [] file.items items)
    ∙ first_fault-append level file.rule (placed_items file) (placed_after file.position file.items items)

pub option_or-both : (a b : Option Kind) → option_or a b ≡ None → (a ≡ None) × (b ≡ None)
option_or-both None b e = (refl, e)
option_or-both (Some k) b e = cc

-- one more line
pub IsPreamble-push : (level : ℕ) (given o here : Position) (lines : List (List ℕ)) (line : List ℕ) → IsPreamble level given lines o
    → ((opening_of level line ≡ Ok Comment) × (here ≡ o)) ⊎ (opening_of level line ≡ Ok (PositionLine here)) → IsPreamble level given (lines ++ line ∷ []) here
IsPreamble-push level given o here [] line h (inl e) = inl (e.0, e.1 ∙ h)
IsPreamble-push level given o here [] line h (inr e) = inr (here, e, refl)
IsPreamble-push level given o here (l ∷ ls) line (inl h) e = inl (h.0, IsPreamble-push level given o here ls line h.1 e)
IsPreamble-push level given o here (l ∷ ls) line (inr h) e = inr (h.0, h.1, IsPreamble-push level h.0 o here ls line h.2 e)

BodySpells-push : (level : ℕ) (lines : List (List ℕ)) (items : List Item) (line : List ℕ) (more : List Item) → BodySpells level lines items
    → LineSpells level line more End → BodySpells level (lines ++ line ∷ []) (items ++ more)
BodySpells-push level [] items line more h s = (more, [], ap (λ xs. xs ++ more) h ∙ sym (append-nil more), s, refl)
BodySpells-push level (l ∷ ls) items line more h s =
    (h.0, h.1 ++ more, ap (λ xs. xs ++ more) h.2 ∙ append_assoc h.0 h.1 more, h.3, BodySpells-push level ls h.1 line more h.4 s)

pub IsUnmarked-push : (level : ℕ) (lines : List (List ℕ)) (file : Rle) (line : List ℕ) (more : List Item) → IsUnmarked level lines file
    → LineSpells level line more End → first_fault level file.rule (placed_after file.position file.items more) ≡ None
    → IsUnmarked level (lines ++ line ∷ []) (with_items file more)
IsUnmarked-push level lines file line more b s sound = record {
  before = b.before;
  header = b.header;
  body = b.body ++ line ∷ [];
  whole = ap (λ ls. ls ++ line ∷ []) b.whole ∙ append_assoc b.before (b.header ∷ b.body) (line ∷ []);
  preamble = b.preamble;
  rule = b.rule;
  items = BodySpells-push level b.body file.items line more b.items s;
  sound = first_fault-with_items level file more ∙ ap (λ k. option_or k (first_fault level file.rule (placed_after file.position file.items more))) b.sound
      ∙ sound;
}

pub IsMarked-begun : (level : ℕ) (lines : List (List ℕ)) (file : Rle) (line : List ℕ) (more : List Item) → IsUnmarked level lines file
    → LineSpells level line more Mark → first_fault level file.rule (placed_after file.position file.items more) ≡ None
    → IsMarked level (lines ++ line ∷ []) (with_items file more)
IsMarked-begun level lines file line more b s sound = record {
  prefix = lines;
  last = line;
  free = [];
  whole = refl;
  earlier = file.items;
  final = more;
  items = refl;
  begun = b;
  marked = s;
  sound = first_fault-with_items level file more ∙ ap (λ k. option_or k (first_fault level file.rule (placed_after file.position file.items more))) b.sound
      ∙ sound;
}

pub IsMarked-append : (level : ℕ) (lines more : List (List ℕ)) (file : Rle) → IsMarked level lines file → IsMarked level (lines ++ more) file
IsMarked-append level lines more file b = record {
  prefix = b.prefix;
  last = b.last;
  free = b.free ++ more;
  whole = ap (λ (ls : List (List ℕ)). ls ++ more) b.whole ∙ append_assoc b.prefix (b.last ∷ b.free) more;
  earlier = b.earlier;
  final = b.final;
  items = b.items;
  begun = b.begun;
  marked = b.marked;
  sound = b.sound;
}

pub IsMarked-push : (level : ℕ) (lines : List (List ℕ)) (file : Rle) (line : List ℕ) → IsMarked level lines file → IsMarked level (lines ++ line ∷ []) file
IsMarked-push level lines file line b = IsMarked-append level lines (line ∷ []) file b

-- a file in other words for its parts
pub IsOpenBy-map : {Are Are' : List (List ℕ) → Position → Type 0} {IsHeader IsHeader' : List ℕ → Rule → Type 0}
    → {Items Items' : List (List ℕ) → List Item → Type 0} {IsSound IsSound' : Rle → Type 0}
    → ((before : List (List ℕ)) (position : Position) → Are before position → Are' before position)
    → ((header : List ℕ) (rule : Rule) → IsHeader header rule → IsHeader' header rule)
    → ((body : List (List ℕ)) (items : List Item) → Items body items → Items' body items) → ((file : Rle) → IsSound file → IsSound' file)
    → (lines : List (List ℕ)) (file : Rle) → IsOpenBy Are IsHeader Items IsSound lines file → IsOpenBy Are' IsHeader' Items' IsSound' lines file
IsOpenBy-map preamble rule items sound lines file b = record {
  before = b.before;
  header = b.header;
  body = b.body;
  whole = b.whole;
  preamble = preamble b.before file.position b.preamble;
  rule = rule b.header file.rule b.rule;
  items = items b.body file.items b.items;
  sound = sound file b.sound;
}

pub IsEndedBy-map : {IsOpen IsOpen' : List (List ℕ) → Rle → Type 0} {IsLast IsLast' : List ℕ → List Item → Type 0} {IsSound IsSound' : Rle → Type 0}
    → ((prefix : List (List ℕ)) (file : Rle) → IsOpen prefix file → IsOpen' prefix file)
    → ((last : List ℕ) (items : List Item) → IsLast last items → IsLast' last items) → ((file : Rle) → IsSound file → IsSound' file)
    → (lines : List (List ℕ)) (file : Rle) → IsEndedBy IsOpen IsLast IsSound lines file → IsEndedBy IsOpen' IsLast' IsSound' lines file
IsEndedBy-map begun marked sound lines file b = record {
  prefix = b.prefix;
  earlier = b.earlier;
  begun = begun b.prefix (record file { items = b.earlier }) b.begun;
  last = b.last;
  final = b.final;
  marked = marked b.last b.final b.marked;
  free = b.free;
  whole = b.whole;
  items = b.items;
  sound = sound file b.sound;
}

pub header-IsUnmarked : (level : ℕ) (lines : List (List ℕ)) (o : Position) (line : List ℕ) (rule : Rule) → IsPreamble level default_position lines o
    → opening_of level line ≡ Ok (Header rule) → IsUnmarked level (lines ++ line ∷ []) (record { rule = rule; position = o; items = [] })
header-IsUnmarked level lines o line rule h e = record {
  before = lines;
  header = line;
  body = [];
  whole = refl;
  preamble = h;
  rule = e;
  items = refl;
  sound = refl;
}

-- the steps keep what the lines are
open_step-Stands : (level : ℕ) (lines : List (List ℕ)) (o : Position) (line : List ℕ) (r : Result Opening Kind) → IsPreamble level default_position lines o
    → opening_of level line ≡ r → Stands level (lines ++ line ∷ []) (open_step o r)
open_step-Stands level lines o line (Ok Comment) h e = IsPreamble-push level default_position o o lines line h (inl (e, refl))
open_step-Stands level lines o line (Ok (PositionLine here)) h e = IsPreamble-push level default_position o here lines line h (inr e)
open_step-Stands level lines o line (Ok (Header rule)) h e = header-IsUnmarked level lines o line rule h e
open_step-Stands level lines o line (Err kind) h e = tt

after_items-Stands : (level : ℕ) (lines : List (List ℕ)) (file : Rle) (line : List ℕ) (items : List Item) (next : Next) (k : Option Kind)
    → IsUnmarked level lines file → later_of line ≡ Ok Data → Spells level line items next → items_fault level file items next ≡ k
    → Stands level (lines ++ line ∷ []) (after_items file items next k)
after_items-Stands level lines file line items End None b f s e = IsUnmarked-push level lines file line items b (inr (f, s))
    (option_or-both (first_fault level file.rule (placed_after file.position file.items items)) None e).0
after_items-Stands level lines file line items Mark None b f s e = IsMarked-begun level lines file line items b (inr (f, s))
    (option_or-both (first_fault level file.rule (placed_after file.position file.items items)) None e).0
after_items-Stands level lines file line items (Spelled i r) None b f s e = tt
after_items-Stands level lines file line items (Broken kind) None b f s e = tt
after_items-Stands level lines file line items End (Some kind) b f s e = tt
after_items-Stands level lines file line items Mark (Some kind) b f s e = tt
after_items-Stands level lines file line items (Spelled i r) (Some kind) b f s e = tt
after_items-Stands level lines file line items (Broken k) (Some kind) b f s e = tt

-- nothing more
pub with_items-nil : (file : Rle) → with_items file [] ≡ file
with_items-nil file = ap (λ items. record file { items = items }) (append-nil file.items)

-- a line without items
pub passed-IsUnmarked : (level : ℕ) (lines : List (List ℕ)) (file : Rle) (line : List ℕ) → later_of line ≡ Ok Passed → IsUnmarked level lines file
    → IsUnmarked level (lines ++ line ∷ []) file
passed-IsUnmarked level lines file line e b = subst (IsUnmarked level (lines ++ line ∷ [])) (with_items-nil file)
    (IsUnmarked-push level lines file line [] b (inl (e, refl, refl)) refl)

later_step-Stands : (level : ℕ) (lines : List (List ℕ)) (file : Rle) (line : List ℕ) (r : Result Later Kind) → IsUnmarked level lines file → later_of line ≡ r
    → Stands level (lines ++ line ∷ []) (later_step level file line r)
later_step-Stands level lines file line (Err kind) b e = tt
later_step-Stands level lines file line (Ok Passed) b e = passed-IsUnmarked level lines file line e b
later_step-Stands level lines file line (Ok Data) b e = after_items-Stands level lines file line (line_items level line) (line_last level line)
    (items_fault level file (line_items level line) (line_last level line)) b e (line-Spells level (length line) line) refl

pub step-Stands : (level : ℕ) (lines : List (List ℕ)) (p : Progress) (line : List ℕ) → Stands level lines p
    → Stands level (lines ++ line ∷ []) (step level p line)
step-Stands level lines (Before o) line h = open_step-Stands level lines o line (opening_of level line) h refl
step-Stands level lines (Begun file) line h = later_step-Stands level lines file line (later_of line) h refl
step-Stands level lines (Ended file) line h = IsMarked-push level lines file line h
step-Stands level lines (Refused kind) line h = tt

progress-Stands : (level : ℕ) (prefix : List (List ℕ)) (p : Progress) (lines : List (List ℕ)) → Stands level prefix p
    → Stands level (prefix ++ lines) (progress level p lines)
progress-Stands level prefix p [] h = subst (λ ls. Stands level ls p) (sym (append-nil prefix)) h
progress-Stands level prefix p (line ∷ lines) h =
    subst (λ ls. Stands level ls (progress level (step level p line) lines)) (append_assoc prefix (line ∷ []) lines)
    (progress-Stands level (prefix ++ line ∷ []) (step level p line) lines (step-Stands level prefix p line h))

-- what the lines are by reading them
pub lines-Stands : (level : ℕ) (lines : List (List ℕ)) → Stands level lines (progress level start lines)
lines-Stands level lines = progress-Stands level [] start lines refl
