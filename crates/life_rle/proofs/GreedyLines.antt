-- Wrapped lines take as many texts as they can.
use Rattle.std.proofs.Common.{◌≡◌, ℕ, ◌+◌, ◌≤◌, ◌<◌, true, false, cond, List, [], ◌∷◌, ◌++◌, length, map, refl, sym, ap, ◌∙◌, subst, arith, append_assoc, length-append, leb, flat_map, append-nil}
use Rattle.std.proofs.lemmas.Bool.Decides.{nat_tests}
use Rattle.life_base.specs.declared.rule.Rule.{Rule}
use Rattle.life_rle.specs.declared.item.Item.{Item}
use Rattle.life_rle.specs.Written.{wrapped_lines, item_text, items_from, box_of}
use Rattle.life_rle.specs.Laws.{IsWrapped, WrappedGreedily}
use Rattle.life_rle.proofs.FileLines.{AreWritten, item_text-short}
use Rattle.life_rle.proofs.CellsLaw.{items_from-good}
use Rattle.life_rle.proofs.Sorting.{AreGood-AreWritten, sorted-Follow, sorted-IsInPlane}

-- the bytes of a group
abbrev pub joined-texts : List (List ℕ) → List ℕ
joined-texts group = flat_map (λ text. text) group

joined-push : (group : List (List ℕ)) (text : List ℕ) → joined-texts (group ++ text ∷ []) ≡ joined-texts group ++ text
joined-push [] text = append-nil text
joined-push (t ∷ group) text = ap (λ xs. t ++ xs) (joined-push group text) ∙ sym (append_assoc t (joined-texts group) text)

-- each text fits on a line of its own
abbrev pub AreShort : List (List ℕ) → Type 0
AreShort [] = Unit {0}
AreShort (text ∷ texts) = (length text ≤ 70) × AreShort texts

-- the groups of the lines, the first begun with some texts
abbrev groups-of : List (List ℕ) → List ℕ → List (List ℕ) → List (List (List ℕ))
groups-of group line [] = group ∷ []
groups-of group line (text ∷ texts) = cond (leb (length line + length text) 70) (groups-of (group ++ text ∷ []) (line ++ text) texts)
    (group ∷ groups-of (text ∷ []) text texts)

groups-texts : (group : List (List ℕ)) (line : List ℕ) (texts : List (List ℕ)) → flat_map (λ group. group) (groups-of group line texts) ≡ group ++ texts
groups-texts group line [] = refl
groups-texts group line (text ∷ texts) =
    elim (leb (length line + length text) 70)
    as (λ t. flat_map (λ group. group) (cond t (groups-of (group ++ text ∷ []) (line ++ text) texts) (group ∷ groups-of (text ∷ []) text texts)) ≡ group
    ++ text ∷ texts) [
      | true ↦ groups-texts (group ++ text ∷ []) (line ++ text) texts ∙ append_assoc group (text ∷ []) texts
      | false ↦ ap (λ xs. group ++ xs) (groups-texts (text ∷ []) text texts)
    ]

groups-lines : (group : List (List ℕ)) (line : List ℕ) (texts : List (List ℕ)) → line ≡ joined-texts group
    → wrapped_lines line texts ≡ map joined-texts (groups-of group line texts)
groups-lines group line [] e = ap (λ l. l ∷ []) e
groups-lines group line (text ∷ texts) e =
    elim (leb (length line + length text) 70)
    as (λ t. cond t (wrapped_lines (line ++ text) texts) (line ∷ wrapped_lines text texts)
    ≡ map joined-texts (cond t (groups-of (group ++ text ∷ []) (line ++ text) texts) (group ∷ groups-of (text ∷ []) text texts))) [
      | true ↦ groups-lines (group ++ text ∷ []) (line ++ text) texts (ap (λ l. l ++ text) e ∙ sym (joined-push group text))
      | false ↦ ap (λ l. l ∷ wrapped_lines text texts) e ∙ ap (λ ls. joined-texts group ∷ ls) (groups-lines (text ∷ []) text texts (sym (append-nil text)))
    ]

-- the first group begins with these texts
abbrev BeginsWith : List ℕ → List (List (List ℕ)) → Type 0
BeginsWith text [] = ⊥
BeginsWith text ([] ∷ groups) = ⊥
BeginsWith text ((t ∷ texts) ∷ groups) = t ≡ text

groups-begin : (text : List ℕ) (group : List (List ℕ)) (line : List ℕ) (texts : List (List ℕ)) → BeginsWith text (groups-of (text ∷ group) line texts)
groups-begin text group line [] = refl
groups-begin text group line (next ∷ texts) =
    elim (leb (length line + length next) 70)
    as (λ t. BeginsWith text (cond t (groups-of (text ∷ (group ++ next ∷ [])) (line ++ next) texts) ((text ∷ group) ∷ groups-of (next ∷ []) next texts)))
    [ true ↦ groups-begin text (group ++ next ∷ []) (line ++ next) texts | false ↦ refl ]

next-line : (group : List (List ℕ)) (text : List ℕ) (groups : List (List (List ℕ))) → length (joined-texts group) ≤ 70
    → 70 < length (joined-texts group) + length text → BeginsWith text groups → IsWrapped groups → IsWrapped (group ∷ groups)
next-line group text [] short full b w = absurd b
next-line group text ([] ∷ groups) short full b w = absurd b
next-line group text ((t ∷ texts) ∷ groups) short full b w = (short, subst (λ t. 70 < length (joined-texts group) + length t) (sym b) full, w)

groups-wrapped : (group : List (List ℕ)) (line : List ℕ) (texts : List (List ℕ)) → line ≡ joined-texts group → length line ≤ 70 → AreShort texts
    → IsWrapped (groups-of group line texts)
groups-wrapped group line [] e short s = subst (λ l. length l ≤ 70) e short
groups-wrapped group line (text ∷ texts) e short s =
    elim (leb (length line + length text) 70)
    as (λ t. leb (length line + length text) 70 ≡ t
    → IsWrapped (cond t (groups-of (group ++ text ∷ []) (line ++ text) texts) (group ∷ groups-of (text ∷ []) text texts))) [
      | true ↦ λ f.
          let size = length-append line text in
          let fits : length line + length text ≤ 70 = grind (arith, nat_tests) in
          groups-wrapped (group ++ text ∷ []) (line ++ text) texts (ap (λ l. l ++ text) e ∙ sym (joined-push group text)) (omega (arith, size, fits)) s.1
      | false ↦ λ f.
          let full : 70 < length line + length text = grind (arith, nat_tests) in
          next-line group text (groups-of (text ∷ []) text texts) (subst (λ l. length l ≤ 70) e short) (subst (λ l. 70 < length l + length text) e full)
          (groups-begin text [] text texts)
          (groups-wrapped (text ∷ []) text texts (sym (append-nil text)) s.0 s.1)
    ] refl

items-short : (rule : Rule) (items : List Item) → AreWritten rule items → AreShort (map (item_text rule) items ++ (33 ∷ []) ∷ [])
items-short rule [] w = (omega arith, tt)
items-short rule (item ∷ items) w = (item_text-short rule item w.0, items-short rule items w.1)

pub wrapped-greedily : WrappedGreedily
wrapped-greedily rule g [] sorted = record { groups = ((33 ∷ []) ∷ []) ∷ []; order = refl; joined = refl; full = omega arith }
wrapped-greedily rule g (c ∷ cells) sorted =
    let box = box_of c cells in
    let items = items_from box.left box.left box.top (c ∷ cells) in
    let inside = sorted-IsInPlane rule c cells sorted in
    let good = items_from-good rule box.left box.left box.top (c ∷ cells) inside.left inside.left inside.top (sorted-Follow rule c cells sorted) in
    let texts = map (item_text rule) items ++ (33 ∷ []) ∷ [] in
    record {
      groups = groups-of [] [] texts;
      order = groups-texts [] [] texts;
      joined = groups-lines [] [] texts refl;
      full = groups-wrapped [] [] texts refl (omega arith) (items-short rule items (AreGood-AreWritten rule box.left box.left box.top items good));
    }
