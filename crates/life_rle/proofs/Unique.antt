-- What lines are is what reading them line by line gives: so it is unique, and a line that breaks a rule has no continuation.
use Rattle.std.proofs.Common.{◌≡◌, ℕ, List, [], ◌∷◌, ◌++◌, refl, sym, ap, ◌∙◌, inl, inr, Some, None, Ok, Option, append_assoc}
use Rattle.life_base.specs.declared.kind.Kind.{Kind}
use Rattle.life_base.specs.Refusal.{Prefix, kept_lines, continuations}
use Rattle.life_rle.specs.declared.item.Item.{Item}
use Rattle.life_rle.specs.Items.{Next, End, Mark, Spelled, Broken, Spells}
use Rattle.life_rle.specs.declared.position.Position.{Position}
use Rattle.life_rle.specs.Position.{default_position}
use Rattle.std.specs.Option.{option_or}
use Rattle.life_rle.specs.Pattern.{Rle, placed_after, first_fault}
use Rattle.life_rle.specs.Grammar.{later_of, IsPreamble, LineSpells, BodySpells, IsUnmarked, IsMarked, IsRle, IsSomeRle, fault_after, BreaksRle, before_header, by_form, by_text, by_item}
use Rattle.life_rle.specs.declared.line.Later.TheVariants.{Data}
use Rattle.life_rle.proofs.Shrinks.{IsStop, read-line, items_read-before}
use Rattle.life_rle.proofs.Progress.{Before, Begun, Ended, Refused, fault_of_next, items_fault, line_items, line_last, with_items, after_items, open_step, later_step, step, progress, start, progress-append, progress-Refused, progress-Ended, placed_behind-append, first_fault-append, option_or-both, with_items-nil}

pub IsPreamble-progress : (level : ℕ) (given o : Position) (lines : List (List ℕ)) → IsPreamble level given lines o → progress level (Before given) lines
    ≡ Before o
IsPreamble-progress level given o [] h = ap Before (sym h)
IsPreamble-progress level given o (line ∷ lines) (inl h) = ap (λ r. progress level (open_step given r) lines) h.0 ∙ IsPreamble-progress level given o lines h.1
IsPreamble-progress level given o (line ∷ lines) (inr h) = ap (λ r. progress level (open_step given r) lines) h.1 ∙ IsPreamble-progress level h.0 o lines h.2

-- the items of a line that break no rule
later_step-items : (level : ℕ) (file : Rle) (line : List ℕ) (items : List Item) (last : Next) (k : Option Kind) → later_of line ≡ Ok Data
    → Spells level line items last → IsStop last → items_fault level file items last ≡ k → step level (Begun file) line ≡ after_items file items last k
later_step-items level file line items last k form h s fault =
    let read = read-line level line items last h s in
    ap (later_step level file line) form
    ∙ ap (λ xs. after_items file xs (line_last level line) (items_fault level file xs (line_last level line))) read.0
    ∙ ap (λ n. after_items file items n (items_fault level file items n)) read.1
    ∙ ap (after_items file items last) fault

step-LineSpells : (level : ℕ) (file : Rle) (line : List ℕ) (items : List Item) → LineSpells level line items End
    → first_fault level file.rule (placed_after file.position file.items items) ≡ None → step level (Begun file) line ≡ Begun (with_items file items)
step-LineSpells level file line items (inl h) sound = ap (later_step level file line) h.0 ∙ ap Begun (sym (with_items-nil file))
    ∙ ap (λ xs. Begun (with_items file xs)) (sym h.1)
step-LineSpells level file line items (inr h) sound = later_step-items level file line items End None h.0 h.1 tt (ap (λ k. option_or k None) sound)

step-marked : (level : ℕ) (file : Rle) (line : List ℕ) (items : List Item) → LineSpells level line items Mark
    → first_fault level file.rule (placed_after file.position file.items items) ≡ None → step level (Begun file) line ≡ Ended (with_items file items)
step-marked level file line items (inl h) sound = cc
step-marked level file line items (inr h) sound = later_step-items level file line items Mark None h.0 h.1 tt (ap (λ k. option_or k None) sound)

-- the fault of items in two parts
pub fault-parts : (level : ℕ) (file : Rle) (xs ys : List Item) → first_fault level file.rule (placed_after file.position file.items (xs ++ ys)) ≡ None
    → (first_fault level file.rule (placed_after file.position file.items xs) ≡ None)
    × (first_fault level file.rule (placed_after file.position (file.items ++ xs) ys) ≡ None)
fault-parts level file xs ys h =
    option_or-both (first_fault level file.rule (placed_after file.position file.items xs))
    (first_fault level file.rule (placed_after file.position (file.items ++ xs) ys))
    (sym (ap (first_fault level file.rule) (placed_behind-append file.position file.items xs ys)
    ∙ first_fault-append level file.rule (placed_after file.position file.items xs) (placed_after file.position (file.items ++ xs) ys)) ∙ h)

pub with_items-twice : (file : Rle) (xs ys : List Item) → with_items (with_items file xs) ys ≡ with_items file (xs ++ ys)
with_items-twice file xs ys = ap (λ items. record { rule = file.rule; position = file.position; items = items }) (append_assoc file.items xs ys)

BodySpells-progress : (level : ℕ) (file : Rle) (lines : List (List ℕ)) (items : List Item) → BodySpells level lines items
    → first_fault level file.rule (placed_after file.position file.items items) ≡ None → progress level (Begun file) lines ≡ Begun (with_items file items)
BodySpells-progress level file [] items h sound = ap Begun (sym (with_items-nil file)) ∙ ap (λ xs. Begun (with_items file xs)) (sym h)
BodySpells-progress level file (line ∷ lines) items h sound =
    let parts = fault-parts level file h.0 h.1 (ap (λ xs. first_fault level file.rule (placed_after file.position file.items xs)) (sym h.2) ∙ sound) in
    ap (λ p. progress level p lines) (step-LineSpells level file line h.0 h.3 parts.0)
    ∙ BodySpells-progress level (with_items file h.0) lines h.1 h.4 parts.1
    ∙ ap Begun (with_items-twice file h.0 h.1)
    ∙ ap (λ xs. Begun (with_items file xs)) (sym h.2)

pub IsUnmarked-progress : (level : ℕ) (lines : List (List ℕ)) (file : Rle) → IsUnmarked level lines file → progress level start lines ≡ Begun file
IsUnmarked-progress level lines file b =
    ap (progress level start) b.whole
    ∙ progress-append level start b.before (b.header ∷ b.body)
    ∙ ap (λ p. progress level p (b.header ∷ b.body)) (IsPreamble-progress level default_position file.position b.before b.preamble)
    ∙ ap (λ r. progress level (open_step file.position r) b.body) b.rule
    ∙ BodySpells-progress level (record { rule = file.rule; position = file.position; items = [] }) b.body file.items b.items b.sound

pub IsMarked-progress : (level : ℕ) (lines : List (List ℕ)) (file : Rle) → IsMarked level lines file → progress level start lines ≡ Ended file
IsMarked-progress level lines file b =
    let begun : Rle = record file { items = b.earlier } in
    let sound : first_fault level file.rule (placed_after file.position [] (b.earlier ++ b.final))
    ≡ None = ap (λ xs. first_fault level file.rule (placed_after file.position [] xs)) (sym b.items) ∙ b.sound in
    let parts = fault-parts level (record { rule = file.rule; position = file.position; items = [] }) b.earlier b.final sound in
    ap (progress level start) b.whole
    ∙ progress-append level start b.prefix (b.last ∷ b.free)
    ∙ ap (λ p. progress level p (b.last ∷ b.free)) (IsUnmarked-progress level b.prefix begun b.begun)
    ∙ ap (λ p. progress level p b.free) (step-marked level begun b.last b.final b.marked parts.1)
    ∙ progress-Ended level (with_items begun b.final) b.free
    ∙ ap (λ xs. Ended (record { rule = file.rule; position = file.position; items = xs })) (sym b.items)

-- one file at most
pub IsRle-unique : (level : ℕ) (lines : List (List ℕ)) (f g : Rle) → IsRle level lines f → IsRle level lines g → f ≡ g
IsRle-unique level lines f g (inl a) (inl b) = let x = IsUnmarked-progress level lines f a in let y = IsUnmarked-progress level lines g b in cc
IsRle-unique level lines f g (inl a) (inr b) = let x = IsUnmarked-progress level lines f a in let y = IsMarked-progress level lines g b in cc
IsRle-unique level lines f g (inr a) (inl b) = let x = IsMarked-progress level lines f a in let y = IsUnmarked-progress level lines g b in cc
IsRle-unique level lines f g (inr a) (inr b) = let x = IsMarked-progress level lines f a in let y = IsMarked-progress level lines g b in cc

-- a line that breaks a rule refuses the lines
by_item-fault : (level : ℕ) (file : Rle) (items : List Item) (item : Item) (more : List Item) (next : Next) (kind : Kind)
    → first_fault level file.rule (placed_after file.position file.items items) ≡ None → fault_after level file items item ≡ Some kind
    → items_fault level file ((items ++ item ∷ []) ++ more) next ≡ Some kind
by_item-fault level file items item more next kind sound fault =
    let b = placed_after file.position file.items items in
    let e1 = placed_behind-append file.position file.items (items ++ item ∷ []) more in
    let e2 = placed_behind-append file.position file.items items (item ∷ []) in
    let rest = placed_after file.position (file.items ++ (items ++ item ∷ [])) more in
    let one = placed_after file.position (file.items ++ items) (item ∷ []) in
    let total : first_fault level file.rule (placed_after file.position file.items ((items ++ item ∷ []) ++ more)) ≡ Some kind =
    ap (first_fault level file.rule) e1 ∙ first_fault-append level file.rule (placed_after file.position file.items (items ++ item ∷ [])) rest
    ∙ ap (λ k. option_or k (first_fault level file.rule rest))
    (ap (first_fault level file.rule) e2 ∙ first_fault-append level file.rule b one ∙ ap (λ k. option_or k (first_fault level file.rule one)) sound
    ∙ ap (λ k. option_or k None) fault) in
    ap (λ k. option_or k (fault_of_next next)) total

after_items-Some : (file : Rle) (items : List Item) (next : Next) (kind : Kind) → after_items file items next (Some kind) ≡ Refused kind
after_items-Some file items End kind = refl
after_items-Some file items Mark kind = refl
after_items-Some file items (Spelled i r) kind = refl
after_items-Some file items (Broken k) kind = refl

step-by_item : (level : ℕ) (file : Rle) (line : List ℕ) (items : List Item) (item : Item) (rest : List ℕ) (kind : Kind) → later_of line ≡ Ok Data
    → Spells level line items (Spelled item rest) → first_fault level file.rule (placed_after file.position file.items items) ≡ None
    → fault_after level file items item ≡ Some kind → step level (Begun file) line ≡ Refused kind
step-by_item level file line items item rest kind form h sound fault =
    let found = items_read-before level line items item rest h in
    ap (later_step level file line) form
    ∙ ap (after_items file (line_items level line) (line_last level line))
    (ap (λ xs. items_fault level file xs (line_last level line)) found.1 ∙ by_item-fault level file items item found.0 (line_last level line) kind sound
    fault)
    ∙ after_items-Some file (line_items level line) (line_last level line) kind

pub Breaks-progress : (level : ℕ) (prefix : List (List ℕ)) (line : List ℕ) (kind : Kind) → BreaksRle level prefix line kind
    → progress level start (prefix ++ line ∷ []) ≡ Refused kind
Breaks-progress level prefix line kind (before_header o h e) = progress-append level start prefix (line ∷ [])
    ∙ ap (λ p. step level p line) (IsPreamble-progress level default_position o prefix h) ∙ ap (open_step o) e
Breaks-progress level prefix line kind (by_form file h e) = progress-append level start prefix (line ∷ [])
    ∙ ap (λ p. step level p line) (IsUnmarked-progress level prefix file h) ∙ ap (later_step level file line) e
Breaks-progress level prefix line kind (by_text file items h form s sound) =
    progress-append level start prefix (line ∷ []) ∙ ap (λ p. step level p line) (IsUnmarked-progress level prefix file h)
    ∙ later_step-items level file line items (Broken kind) (Some kind) form s tt (ap (λ k. option_or k (Some kind)) sound)
Breaks-progress level prefix line kind (by_item file items item rest h form s sound fault) =
    progress-append level start prefix (line ∷ []) ∙ ap (λ p. step level p line) (IsUnmarked-progress level prefix file h)
    ∙ step-by_item level file line items item rest kind form s sound fault

-- one kind at most
pub Breaks-unique : (level : ℕ) (prefix : List (List ℕ)) (line : List ℕ) (k l : Kind) → BreaksRle level prefix line k → BreaksRle level prefix line l → k ≡ l
Breaks-unique level prefix line k l a b = let x = Breaks-progress level prefix line k a in let y = Breaks-progress level prefix line l b in cc

refused-IsRle : (level : ℕ) (lines : List (List ℕ)) (file : Rle) (kind : Kind) → progress level start lines ≡ Refused kind → IsRle level lines file → ⊥
refused-IsRle level lines file kind e (inl b) = let x = IsUnmarked-progress level lines file b in cc
refused-IsRle level lines file kind e (inr b) = let x = IsMarked-progress level lines file b in cc

-- whatever follows, after such a line the lines are no file
pub Breaks-no_more : (level : ℕ) (prefix : List (List ℕ)) (line : List ℕ) (kind : Kind) (more : List (List ℕ)) (file : Rle) → BreaksRle level prefix line kind
    → IsRle level ((prefix ++ line ∷ []) ++ more) file → ⊥
Breaks-no_more level prefix line kind more file b h =
    refused-IsRle level ((prefix ++ line ∷ []) ++ more) file kind
    (progress-append level start (prefix ++ line ∷ []) more ∙ ap (λ p. progress level p more) (Breaks-progress level prefix line kind b)
    ∙ progress-Refused level kind more) h

pub Breaks-no_prefix : (level : ℕ) (prefix : List (List ℕ)) (line : List ℕ) (kind : Kind) → BreaksRle level prefix line kind
    → Prefix (IsSomeRle level) (prefix ++ line ∷ []) → ⊥
Breaks-no_prefix level prefix line kind b p = Breaks-no_more level prefix line kind (kept_lines p.0 continuations) p.1.0 b p.1.1
