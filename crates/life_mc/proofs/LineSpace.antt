-- Rows and numbers in the space of a node line.
use Rattle.std.proofs.Common.{◌≡◌, ℕ, ◌+◌, ◌-◌, ◌≤◌, ◌<◌, ◌^◌, List, [], ◌∷◌, ◌++◌, take, drop, set, length, length-drop, decimal, codes, refl, ap, sym, ◌∙◌, arith, take-take, append_assoc, length-append, length-take-le, take_at}
use Rattle.std.proofs.lemmas.List.{take_more_set, drop-drop, drop_at}
use Rattle.std.proofs.lemmas.Slice.{take-put_mid, drop-put_mid}
use Rattle.std.proofs.lemmas.Fmt.{length-decimal-le}
use Rattle.std.proofs.Math.Seq.{take-append-add}
use borrow.Rule.Slice.PartMut.{put_mid, same_len_mid}
use Rattle.life_mc.specs.Writing.{node_text}
use Rattle.life_mc.specs.declared.line.Line.TheVariants.{Quad}

-- what stands up to a place within a part that was put
pub within-part : (space text : List ℕ) (at n : ℕ) → at ≤ length space → n ≤ length text → (size : ℕ) → size ≡ length text
    → take (at + n) (put_mid at size space text) ≡ take at space ++ take n text
within-part space text at n inside fits size e =
    let prefix = length-take-le at space inside in
    sym (take-take (at + n) (at + length text) _ (omega (arith, fits)))
    ∙ ap (take (at + n)) (take-put_mid at size space text (at + length text) refl inside)
    ∙ ap (λ k. take (k + n) (take at space ++ text)) (sym prefix)
    ∙ take-append-add (take at space) text n

-- a part that was put keeps the length
put-length : (space text : List ℕ) (at size : ℕ) → at ≤ length space → at + size ≤ length space → length text ≡ size
    → length (put_mid at size space text) ≡ length space
put-length space text at size inside fits e =
    same_len_mid at size space text (e ∙ sym (length-take-le size (drop at space) (omega (arith, length-drop at space, inside, fits))))

-- a row that was put up to a place, and its end after it
pub row-put : (space text row : List ℕ) (at n size : ℕ) → at + 9 ≤ length space → length text ≡ 8 → size ≡ 8 → 1 ≤ n → n ≤ 9
    → take (n - 1) text ++ 36 ∷ [] ≡ row → take (at + n) (set (put_mid at size space text) (at + n - 1) 36) ≡ take at space ++ row
row-put space text row at n size inside eight e some most is =
    let parts = put_mid at size space text in
    let last : at + n - 1 ≡ at + (n - 1) = omega (arith, some) in
    let more : at + (n - 1) + 1 ≡ at + n = omega (arith, some) in
    let long = put-length space text at size (omega (arith, inside)) (omega (arith, inside, e)) (omega (arith, eight, e)) in
    let within : at + (n - 1) < length parts = omega (arith, long, inside, most) in
    ap (λ k. take k (set parts (at + n - 1) 36)) (sym more)
    ∙ ap (λ k. take (at + (n - 1) + 1) (set parts k 36)) last
    ∙ take_more_set parts (at + (n - 1)) 36 within
    ∙ ap (λ l. l ++ 36 ∷ []) (within-part space text at (n - 1) (omega (arith, inside)) (omega (arith, eight, most)) size (omega (arith, eight, e)))
    ∙ append_assoc (take at space) (take (n - 1) text) (36 ∷ [])
    ∙ ap (λ l. take at space ++ l) is

-- a level has at most three
pub level-fits : (n : ℕ) → n < 2 ^ 8 → length (decimal n) ≤ 3
level-fits n h = length-decimal-le 3 n (omega arith) (omega (arith, h)) (omega (arith, h))

-- a space and a number after a text, and what comes after them
behind : (text : List ℕ) (n : ℕ) (old rest : List ℕ) → old ≡ codes " " ++ decimal n ++ rest → text ++ old ≡ text ++ codes " " ++ decimal n ++ rest
behind text n old rest e =
    ap (λ l. text ++ l) e
    ∙ sym (append_assoc text (codes " " ++ decimal n) rest)
    ∙ ap (λ l. l ++ rest) (sym (append_assoc text (codes " ") (decimal n)))

-- the five numbers of a line and its end, each before the one after it
pub quad-in-space : (level nw ne sw se : ℕ) (rest space r q p o n : List ℕ) → space ≡ decimal level ++ r → r ≡ codes " " ++ decimal nw ++ q
    → q ≡ codes " " ++ decimal ne ++ p
    → p ≡ codes " " ++ decimal sw ++ o → o ≡ codes " " ++ decimal se ++ n → n ≡ codes "\n" ++ rest → space ≡ node_text (Quad level nw ne sw se) ++ rest
quad-in-space level nw ne sw se rest space r q p o n a b c d e f =
    let first = decimal level ++ codes " " ++ decimal nw in
    let second = first ++ codes " " ++ decimal ne in
    let third = second ++ codes " " ++ decimal sw in
    let fourth = third ++ codes " " ++ decimal se in
    a ∙ behind (decimal level) nw r q b ∙ behind first ne q p c ∙ behind second sw p o d ∙ behind third se o n e
    ∙ ap (λ l. fourth ++ l) f ∙ sym (append_assoc fourth (codes "\n") rest)

-- what two changes after a place leave before it
pub prefix-kept : {m n : ℕ} (old mid new : List ℕ) → m ≤ n → take m new ≡ take m mid → take n mid ≡ take n old → take m new ≡ take m old
prefix-kept {m} {n} old mid new below second first =
    second ∙ sym (take-take m n mid below) ∙ ap (take m) first ∙ take-take m n old below

-- what is unchanged from a place on is unchanged from a later one on
pub rest-kept : (m n : ℕ) (old new : List ℕ) → m ≤ n → drop m new ≡ drop m old → drop n new ≡ drop n old
rest-kept m n old new below same =
    let split : n ≡ m + (n - m) = omega (arith, below) in
    ap (λ k. drop k new) split ∙ sym (drop-drop (n - m) m new) ∙ ap (drop (n - m)) same ∙ drop-drop (n - m) m old ∙ ap (λ k. drop k old) (sym split)

-- what is after a block that was copied
pub after-block : (text block : List ℕ) (to size found from more : ℕ) → to ≤ length text → size ≡ more → found ≡ more
    → block ≡ take found (drop from text) → from + more ≤ length text → drop (to + more) (put_mid to size text block) ≡ drop (to + more) text
after-block text block to size found from more inside e f is there =
    let same = is ∙ ap (λ n. take n (drop from text)) f in
    let all : length block ≡ more =
    ap (λ (l : List ℕ). length l) same ∙ length-take-le more (drop from text) (omega (arith, length-drop from text, there)) in
    drop-put_mid to size text block (to + more) (omega (arith, e)) inside (all ∙ sym e)

-- how long a line is that was written between two places
between : (old mid line : List ℕ) (start end : ℕ) → start ≤ end → end ≤ length old → length mid ≡ length old → drop start mid ≡ line ++ drop end old
    → length line ≡ end - start
between old mid line start end ordered inside same is =
    omega (
      arith,
      length-drop start mid,
      ap (λ (l : List ℕ). length l) is,
      length-append line (drop end old),
      length-drop end old,
      same,
      inside,
      ordered,
    )

-- what is after a line that was written between two places
pub after-line : (old mid line : List ℕ) (start end : ℕ) → start ≤ end → end ≤ length old → length mid ≡ length old
    → drop start mid ≡ line ++ drop end old → drop end mid ≡ drop end old
after-line old mid line start end ordered inside same is =
    ap (λ k. drop k mid) (omega (arith, ordered)) ∙ sym (drop-drop (end - start) start mid) ∙ ap (drop (end - start)) is
    ∙ drop_at line (drop end old) (end - start) (between old mid line start end ordered inside same is)

-- the prefix of a block that was copied
pub part-put : (text block : List ℕ) (to count size found from more : ℕ) → to ≤ length text → size ≡ more → found ≡ more → count ≤ more
    → block ≡ take found (drop from text) → from + more ≤ length text
    → take (to + count) (put_mid to size text block) ≡ take to text ++ take count (drop from text)
part-put text block to count size found from more inside e f fits is there =
    let same = is ∙ ap (λ n. take n (drop from text)) f in
    let all : more ≡ length block = sym
    (ap (λ (l : List ℕ). length l) same ∙ length-take-le more (drop from text) (omega (arith, length-drop from text, there))) in
    within-part text block to count inside (omega (arith, all, fits)) size (e ∙ all) ∙ ap (λ b. take to text ++ take count b) same
    ∙ ap (λ l. take to text ++ l) (take-take count more (drop from text) fits)

-- a line between two places, copied to the end of what is before it
pub line-copied : (old mid new line : List ℕ) (at start end last : ℕ) → at ≤ start → start ≤ end → end ≤ length old → length mid ≡ length old
    → drop start mid ≡ line ++ drop end old → take start mid ≡ take start old → take last new ≡ take at mid ++ take (end - start) (drop start mid)
    → take last new ≡ take at old ++ line
line-copied old mid new line at start end last below ordered inside same behind before copied =
    let long = between old mid line start end ordered inside same behind in
    copied
    ∙ ap (λ l. l ++ take (end - start) (drop start mid)) (sym (take-take at start mid below) ∙ ap (take at) before ∙ take-take at start old below)
    ∙ ap (λ l. take at old ++ take (end - start) l) behind
    ∙ ap (λ n. take at old ++ take n (line ++ drop end old)) (sym long)
    ∙ ap (λ l. take at old ++ l) (take_at line (drop end old) _ refl)
