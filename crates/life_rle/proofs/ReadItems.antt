-- Reading the items of a line: one more item.
use Rattle.std.proofs.Common.{◌≡◌, ℕ, zero, suc, ◌^◌, ◌≤◌, true, List, [], ◌∷◌, ◌++◌, refl, sym, ap, ◌∙◌, append_assoc, subst, None, ℤ}
use Rattle.life_base.specs.declared.kind.Kind.{Kind}
use Rattle.life_base.specs.declared.rule.Rule.{Rule}
use Rattle.life_rle.specs.declared.cursor.Cursor.{Cursor}
use Rattle.life_rle.specs.declared.item.Item.{Item}
use Rattle.life_base.specs.declared.cell.Run.{Run}
use Rattle.life_rle.specs.declared.item.Item.TheVariants.{Cells, RowEnds}
use Rattle.life_rle.specs.Items.{Next, Spelled, Broken, next_of, Spells}
use Rattle.std.specs.Option.{option_or}
use Rattle.life_rle.specs.Pattern.{PlacedItem, item_fault, first_fault}
use Rattle.life_rle.specs.Runs.{with_run, runs_of}
use Rattle.life_rle.specs.Cursor.{IsNear, item_count, cursor_after_item, cursor_after_items, placed_at}
use Rattle.life_rle.specs.Reader.{AreItemsRead, ReadsItems}
use Rattle.life_rle.proofs.ShortKinds.{is_short_kind}
use Rattle.life_rle.proofs.Shrinks.{IsTame, next_of-tame, Spells-push}
use Rattle.life_rle.proofs.Progress.{first_fault-append}

-- the item that was found counts at most the width of the plane
pub found-small : (level : ℕ) (bytes rest : List ℕ) (item : Item) → Spelled item rest ≡ next_of level bytes → item_count item ≤ 2 ^ level
found-small level bytes rest item e = (subst (IsTame level bytes) (sym e) (next_of-tame level bytes)).0

pub Broken-kind : (level : ℕ) (bytes : List ℕ) (kind : Kind) → next_of level bytes ≡ Broken kind → is_short_kind kind ≡ true
Broken-kind level bytes kind e = subst (IsTame level bytes) e (next_of-tame level bytes)

pub placed_at-append : (c : Cursor) (xs ys : List Item) → placed_at c (xs ++ ys) ≡ placed_at c xs ++ placed_at (cursor_after_items c xs) ys
placed_at-append c [] ys = refl
placed_at-append c (x ∷ xs) ys = ap (λ (ps : List PlacedItem). record { row = c.y; column = c.x; item = x } ∷ ps)
    (placed_at-append (cursor_after_item c x) xs ys)

pub moved_behind-append : (c : Cursor) (xs ys : List Item) → cursor_after_items c (xs ++ ys) ≡ cursor_after_items (cursor_after_items c xs) ys
moved_behind-append c [] ys = refl
moved_behind-append c (x ∷ xs) ys = moved_behind-append (cursor_after_item c x) xs ys

with_run-append : (row column : ℤ) (item : Item) (xs ys : List Run) → with_run row column item (xs ++ ys) ≡ with_run row column item xs ++ ys
with_run-append row column (Cells count zero) xs ys = refl
with_run-append row column (Cells count (suc n)) xs ys = refl
with_run-append row column (RowEnds count) xs ys = refl

pub runs_of-append : (ps qs : List PlacedItem) → runs_of (ps ++ qs) ≡ runs_of ps ++ runs_of qs
runs_of-append [] qs = refl
runs_of-append (p ∷ ps) qs = ap (with_run p.row p.column p.item) (runs_of-append ps qs) ∙ with_run-append p.row p.column p.item (runs_of ps) (runs_of qs)

-- one more item
pub read_more : (level : ℕ) (rule : Rule) (from now : Cursor) (line rest : List ℕ) (items : List Item) (found more : List Run) (item : Item) (next : Cursor)
    → AreItemsRead level rule from line items (Spelled item rest) now found → item_fault level rule now.y now.x item ≡ None
    → next ≡ cursor_after_item now item → IsNear level next → more ≡ found ++ with_run now.y now.x item []
    → AreItemsRead level rule from line (items ++ item ∷ []) (next_of level rest) next more
read_more level rule from now line rest items found more item next h sound moves near adds =
    let i = item in
    let here : Cursor = cursor_after_items from items in
    let fault : item_fault level rule here.y here.x i ≡ None = subst (λ (c : Cursor). item_fault level rule c.y c.x i ≡ None) h.cursor sound in
    let one : List PlacedItem = record { row = here.y; column = here.x; item = i } ∷ [] in
    let all : placed_at from (items ++ i ∷ []) ≡ placed_at from items ++ one = placed_at-append from items (i ∷ []) in
    record {
      spelled = Spells-push level items line i rest h.spelled;
      sound = ap (first_fault level rule) all ∙ first_fault-append level rule (placed_at from items) one
          ∙ ap (λ k. option_or k (option_or (item_fault level rule here.y here.x i) None)) h.sound ∙ ap (λ k. option_or k None) fault;
      cursor = moves ∙ ap (λ c. cursor_after_item c i) h.cursor ∙ sym (moved_behind-append from items (i ∷ []));
      near = near;
      runs = adds ∙ ap (λ (rs : List Run). rs ++ with_run now.y now.x i []) h.runs
          ∙ ap (λ (c : Cursor). runs_of (placed_at from items) ++ with_run c.y c.x i []) h.cursor
          ∙ sym (ap runs_of all ∙ runs_of-append (placed_at from items) one);
    }

-- the same next under another name
pub spelled-as : (level : ℕ) (line : List ℕ) (items : List Item) (next other : Next) → Spells level line items next → next ≡ other
    → Spells level line items other
spelled-as level line items next other h e = subst (Spells level line items) e h

-- one more item, its run after those that were there
pub reads_more : (level : ℕ) (rule : Rule) (from now : Cursor) (line rest : List ℕ) (before found more : List Run) (item : Item) (next : Cursor)
    → ReadsItems level rule from line (Spelled item rest) now before found → item_fault level rule now.y now.x item ≡ None
    → next ≡ cursor_after_item now item → IsNear level next → more ≡ found ++ with_run now.y now.x item []
    → ReadsItems level rule from line (next_of level rest) next before more
reads_more level rule from now line rest before found more item next h sound moves near adds = record {
  items = h.items ++ item ∷ [];
  found = h.found ++ with_run now.y now.x item [];
  read = read_more level rule from now line rest h.items h.found (h.found ++ with_run now.y now.x item []) item next h.read sound moves near refl;
  added = adds ∙ ap (λ (rs : List Run). rs ++ with_run now.y now.x item []) h.added ∙ append_assoc before h.found (with_run now.y now.x item []);
}

pub reads-as : (level : ℕ) (rule : Rule) (from : Cursor) (line : List ℕ) (next other : Next) (now : Cursor) (before found : List Run)
    → ReadsItems level rule from line next now before found → next ≡ other → ReadsItems level rule from line other now before found
reads-as level rule from line next other now before found h e = subst (λ n. ReadsItems level rule from line n now before found) e h
