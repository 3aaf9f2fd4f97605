-- Lines are a file, or lack a header, or one of them breaks a rule.
use Rattle.std.proofs.Common.{◌≡◌, ℕ, zero, suc, ◌≤◌, List, [], ◌∷◌, ◌++◌, length, refl, sym, ap, ◌∙◌, subst, inl, inr, Some, None, Ok, Err, Option, Result, append_assoc, ◌⊎◌, arith, append-nil}
use Rattle.life_base.specs.declared.kind.Kind.{Kind}
use Rattle.life_base.specs.declared.rule.Rule.{Rule}
use Rattle.life_rle.specs.declared.item.Item.{Item}
use Rattle.life_rle.specs.declared.position.Position.{Position}
use Rattle.life_rle.specs.declared.line.Opening.{Opening}
use Rattle.life_rle.specs.declared.line.Opening.TheVariants.{Comment, PositionLine, Header}
use Rattle.life_rle.specs.declared.line.Later.{Later}
use Rattle.life_rle.specs.declared.line.Later.TheVariants.{Passed, Data}
use Rattle.life_rle.specs.Items.{Next, End, Mark, Spelled, Broken, next_of, Spells}
use Rattle.life_rle.specs.Position.{default_position}
use Rattle.std.specs.Option.{option_or}
use Rattle.life_rle.specs.Pattern.{Rle, placed_item, placed_after, placed_fault, first_fault}
use Rattle.life_rle.specs.Grammar.{opening_of, later_of, IsPreamble, IsUnmarked, IsRle, IsSomeRle, BreaksRle, before_header, by_form, by_text, by_item}
use Rattle.life_rle.specs.Decided.{LacksHeader, HasBroken}
use Rattle.life_rle.proofs.ReadSteps.{last_read, line-Spells}
use Rattle.life_rle.proofs.Shrinks.{IsStop, next_of-shorter}
use Rattle.life_rle.proofs.Progress.{Progress, Before, Begun, Ended, Refused, fault_of_next, items_fault, line_items, line_last, after_items, open_step, later_step, step, progress, start, Stands, step-Stands, lines-Stands, progress-append, progress-Refused, option_or-both}
use Rattle.life_rle.proofs.Unique.{IsPreamble-progress, Breaks-progress, Breaks-no_more}
use Rattle.life_rle.proofs.Refusal.{Goes, IsPreamble-refused}

-- ---- a line is read to its end

empty : (level : ℕ) (bytes : List ℕ) → length bytes ≤ 0 → next_of level bytes ≡ End
empty level [] h = refl
empty level (b ∷ bytes) h = absurd (omega arith)

read-IsStop : (level n : ℕ) (bytes : List ℕ) (next : Next) → next_of level bytes ≡ next → length bytes ≤ n → IsStop (last_read level n next)
read-IsStop level zero bytes next e h = subst IsStop (sym (empty level bytes h) ∙ e) tt
read-IsStop level (suc n) bytes End e h = tt
read-IsStop level (suc n) bytes Mark e h = tt
read-IsStop level (suc n) bytes (Broken kind) e h = tt
read-IsStop level (suc n) bytes (Spelled item rest) e h =
    let less = next_of-shorter level bytes item rest e in read-IsStop level n rest (next_of level rest) refl (omega arith)

line-IsStop : (level : ℕ) (line : List ℕ) → IsStop (line_last level line)
line-IsStop level line = read-IsStop level (length line) line (next_of level line) refl (omega arith)

-- ---- the first item that breaks a rule

record FirstBad (level : ℕ) (rule : Rule) (position : Position) (before items : List Item) (kind : Kind) : Type 0 where
  pre : List Item
  item : Item
  post : List Item
  whole : items ≡ pre ++ item ∷ post
  sound : first_fault level rule (placed_after position before pre) ≡ None
  bad : placed_fault level rule (placed_item position (before ++ pre) item) ≡ Some kind

bad-here : (level : ℕ) (rule : Rule) (position : Position) (before items : List Item) (item : Item) (kind : Kind) (o : Option Kind)
    → placed_fault level rule (placed_item position before item) ≡ o
    → option_or o (first_fault level rule (placed_after position (before ++ item ∷ []) items)) ≡ Some kind
    → (first_fault level rule (placed_after position (before ++ item ∷ []) items) ≡ Some kind → FirstBad level rule position (before ++ item ∷ []) items kind)
    → FirstBad level rule position before (item ∷ items) kind
bad-here level rule position before items item kind (Some k) f g next = record {
  pre = [];
  item = item;
  post = items;
  whole = refl;
  sound = refl;
  bad = ap (λ b. placed_fault level rule (placed_item position b item)) (append-nil before) ∙ f ∙ g;
}
bad-here level rule position before items item kind None f g next =
    let more = next g in
    record {
      pre = item ∷ more.pre;
      item = more.item;
      post = more.post;
      whole = ap (λ is. item ∷ is) more.whole;
      sound = ap (λ o. option_or o (first_fault level rule (placed_after position (before ++ item ∷ []) more.pre))) f ∙ more.sound;
      bad = ap (λ b. placed_fault level rule (placed_item position b more.item)) (sym (append_assoc before (item ∷ []) more.pre)) ∙ more.bad;
    }

first-bad : (level : ℕ) (rule : Rule) (position : Position) (before items : List Item) (kind : Kind)
    → first_fault level rule (placed_after position before items) ≡ Some kind → FirstBad level rule position before items kind
first-bad level rule position before [] kind e = cc
first-bad level rule position before (item ∷ items) kind e =
    bad-here level rule position before items item kind (placed_fault level rule (placed_item position before item)) refl e
    (λ g. first-bad level rule position (before ++ item ∷ []) items kind g)

Spells-prefix : (level : ℕ) (pre : List Item) (item : Item) (post : List Item) (bytes : List ℕ) (last : Next) → Spells level bytes (pre ++ item ∷ post) last
    → (rest : List ℕ) × Spells level bytes pre (Spelled item rest)
Spells-prefix level [] item post bytes last h = (h.0, h.1)
Spells-prefix level (i ∷ pre) item post bytes last h = let more = Spells-prefix level pre item post h.0 last h.2 in (more.0, (h.0, h.1, more.1))

-- ---- a line at which reading stops breaks a rule

data-Breaks : (level : ℕ) (prefix : List (List ℕ)) (file : Rle) (line : List ℕ) (items : List Item) (last : Next) (kind : Kind) → IsUnmarked level prefix file
    → later_of line ≡ Ok Data
    → Spells level line items last → items_fault level file items last ≡ Some kind → BreaksRle level prefix line kind
data-Breaks level prefix file line items last kind b form s e = choose (first_fault level file.rule (placed_after file.position file.items items)) refl e
  where
    behind : (last : Next) → fault_of_next last ≡ Some kind → last ≡ Broken kind
    behind End f = cc
    behind Mark f = cc
    behind (Spelled item rest) f = cc
    behind (Broken k) f = let q : k ≡ kind = cc in ap Broken q

    choose : (o : Option Kind) → first_fault level file.rule (placed_after file.position file.items items) ≡ o → option_or o (fault_of_next last) ≡ Some kind
        → BreaksRle level prefix line kind
    choose (Some k) f g =
        let bad = first-bad level file.rule file.position file.items items kind (f ∙ g) in
        let r = Spells-prefix level bad.pre bad.item bad.post line last (subst (λ is. Spells level line is last) bad.whole s) in
        by_item file bad.pre bad.item r.0 b form r.1 bad.sound bad.bad
    choose None f g = by_text file items b form (subst (Spells level line items) (behind last g) s) f

after-Breaks : (level : ℕ) (prefix : List (List ℕ)) (file : Rle) (line : List ℕ) (items : List Item) (last : Next) (o : Option Kind) (kind : Kind)
    → IsUnmarked level prefix file → later_of line ≡ Ok Data
    → Spells level line items last → IsStop last → items_fault level file items last ≡ o → after_items file items last o ≡ Refused kind
    → BreaksRle level prefix line kind
after-Breaks level prefix file line items End None kind b form s stop e r = cc
after-Breaks level prefix file line items Mark None kind b form s stop e r = cc
after-Breaks level prefix file line items (Spelled item rest) None kind b form s stop e r = absurd stop
after-Breaks level prefix file line items (Broken k) None kind b form s stop e r =
    let no = (option_or-both (first_fault level file.rule (placed_after file.position file.items items)) (Some k) e).1 in cc
after-Breaks level prefix file line items End (Some k) kind b form s stop e r = let q : k ≡ kind = cc in
    data-Breaks level prefix file line items End kind b form s (e ∙ ap Some q)
after-Breaks level prefix file line items Mark (Some k) kind b form s stop e r = let q : k ≡ kind = cc in
    data-Breaks level prefix file line items Mark kind b form s (e ∙ ap Some q)
after-Breaks level prefix file line items (Spelled item rest) (Some k) kind b form s stop e r = absurd stop
after-Breaks level prefix file line items (Broken k') (Some k) kind b form s stop e r = let q : k ≡ kind = cc in
    data-Breaks level prefix file line items (Broken k') kind b form s (e ∙ ap Some q)

later-Breaks : (level : ℕ) (prefix : List (List ℕ)) (file : Rle) (line : List ℕ) (r : Result Later Kind) (kind : Kind) → IsUnmarked level prefix file
    → later_of line ≡ r → later_step level file line r ≡ Refused kind → BreaksRle level prefix line kind
later-Breaks level prefix file line (Err k) kind b e s = let q : k ≡ kind = cc in by_form file b (e ∙ ap Err q)
later-Breaks level prefix file line (Ok Passed) kind b e s = cc
later-Breaks level prefix file line (Ok Data) kind b e s =
    after-Breaks level prefix file line (line_items level line) (line_last level line) (items_fault level file (line_items level line) (line_last level line))
    kind b e (line-Spells level (length line) line) (line-IsStop level line) refl s

open-Breaks : (level : ℕ) (prefix : List (List ℕ)) (position : Position) (line : List ℕ) (r : Result Opening Kind) (kind : Kind)
    → IsPreamble level default_position prefix position → opening_of level line ≡ r → open_step position r ≡ Refused kind → BreaksRle level prefix line kind
open-Breaks level prefix position line (Err k) kind h e s = let q : k ≡ kind = cc in before_header position h (e ∙ ap Err q)
open-Breaks level prefix position line (Ok Comment) kind h e s = cc
open-Breaks level prefix position line (Ok (PositionLine here)) kind h e s = cc
open-Breaks level prefix position line (Ok (Header rule)) kind h e s = cc

step-Breaks : (level : ℕ) (prefix : List (List ℕ)) (p : Progress) (line : List ℕ) (kind : Kind) → Stands level prefix p → Goes p
    → step level p line ≡ Refused kind → BreaksRle level prefix line kind
step-Breaks level prefix (Before position) line kind h g e = open-Breaks level prefix position line (opening_of level line) kind h refl e
step-Breaks level prefix (Begun file) line kind h g e = later-Breaks level prefix file line (later_of line) kind h refl e
step-Breaks level prefix (Ended file) line kind h g e = cc
step-Breaks level prefix (Refused k) line kind h g e = absurd g

-- the first line that breaks a rule
found-here : (level : ℕ) (prefix : List (List ℕ)) (p : Progress) (line : List ℕ) (lines : List (List ℕ)) (q : Progress) → Stands level prefix p → Goes p
    → step level p line ≡ q
    → (Goes q → HasBroken level ((prefix ++ line ∷ []) ++ lines)) → HasBroken level (prefix ++ line ∷ lines)
found-here level prefix p line lines (Before position) h g s next = subst (HasBroken level) (append_assoc prefix (line ∷ []) lines) (next tt)
found-here level prefix p line lines (Begun file) h g s next = subst (HasBroken level) (append_assoc prefix (line ∷ []) lines) (next tt)
found-here level prefix p line lines (Ended file) h g s next = subst (HasBroken level) (append_assoc prefix (line ∷ []) lines) (next tt)
found-here level prefix p line lines (Refused k) h g s next = record
    { prefix = prefix; line = line; rest = lines; kind = k; whole = refl; breaks = step-Breaks level prefix p line k h g s }

find : (level : ℕ) (prefix : List (List ℕ)) (p : Progress) (lines : List (List ℕ)) (kind : Kind) → Stands level prefix p → Goes p
    → progress level p lines ≡ Refused kind → HasBroken level (prefix ++ lines)
find level prefix p [] kind h g e = absurd (subst Goes e g)
find level prefix p (line ∷ lines) kind h g e =
    found-here level prefix p line lines (step level p line) h g refl
    (λ goes. find level (prefix ++ line ∷ []) (step level p line) lines kind (step-Stands level prefix p line h) goes e)

decide : (level : ℕ) (lines : List (List ℕ)) (p : Progress) → progress level start lines ≡ p → IsSomeRle level lines ⊎ LacksHeader level lines
    ⊎ HasBroken level lines
decide level lines (Before position) e = inr (inl (position, subst (Stands level lines) e (lines-Stands level lines)))
decide level lines (Begun file) e = inl (file, inl (subst (Stands level lines) e (lines-Stands level lines)))
decide level lines (Ended file) e = inl (file, inr (subst (Stands level lines) e (lines-Stands level lines)))
decide level lines (Refused kind) e = inr (inr (find level [] start lines kind refl tt e))

broken-progress : (level : ℕ) (lines : List (List ℕ)) (b : HasBroken level lines) → progress level start lines ≡ Refused b.kind
broken-progress level lines b =
    ap (progress level start) (b.whole ∙ sym (append_assoc b.prefix (b.line ∷ []) b.rest))
    ∙ progress-append level start (b.prefix ++ b.line ∷ []) b.rest
    ∙ ap (λ p. progress level p b.rest) (Breaks-progress level b.prefix b.line b.kind b.breaks)
    ∙ progress-Refused level b.kind b.rest

pub decided : (level : ℕ) (lines : List (List ℕ))
    → (IsSomeRle level lines ⊎ LacksHeader level lines ⊎ HasBroken level lines)
    × (IsSomeRle level lines → LacksHeader level lines → ⊥)
    × (IsSomeRle level lines → HasBroken level lines → ⊥)
    × (LacksHeader level lines → HasBroken level lines → ⊥)
decided level lines = (
  decide level lines (progress level start lines) refl,
  λ f h. IsPreamble-refused level lines h.0 h.1 f,
  λ f b. Breaks-no_more level b.prefix b.line b.kind b.rest f.0 b.breaks
      (subst (λ ls. IsRle level ls f.0) (b.whole ∙ sym (append_assoc b.prefix (b.line ∷ []) b.rest)) f.1),
  λ h b. let x = IsPreamble-progress level default_position h.0 lines h.1 in let y = broken-progress level lines b in cc,
)
