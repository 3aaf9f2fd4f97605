-- The lesser of two texts, one of which comes piece by piece.
use Rattle.std.proofs.Common.{◌≡◌, inl, inr, ℕ, ◌+◌, ◌-◌, ◌≤◌, List, [], ◌++◌, length, take, drop, refl, sym, ap, ap₂, ◌∙◌, subst, subst₂, arith, length-append, length-drop, min, Result, Ok, Err, OnOk, OnErr, flat_map, append_assoc, append-nil, take-append-drop, take_at, drop_at, length-take}
use Rattle.std.proofs.Math.Seq.{paste, take-add, take-append-add, take-length}
use Rattle.std.proofs.lemmas.List.Edits.{take-paste}
use Rattle.std.proofs.lemmas.List.{take-append-le}
use Rattle.life_mc.specs.Writing.{node_text}
use Rattle.life_mc.specs.declared.line.Line.{Line}
use Rattle.life_writer.specs.Lesser.{IsUpTo, IsLesser, IsLesserText, IsOldHeld, IsOldLesser, IsWithinTexts, LesserHolds, LinesCome}
use Rattle.life_writer.specs.declared.lesser.Lesser.{Lesser}
use Rattle.life_writer.specs.declared.lesser.Lesser.TheVariants.{Undecided, New, Old}
use Rattle.life_writer.proofs.OrderFacts.{up-to-itself, up-to-behind, up-to-longer}

-- bytes up to a place are those up to an earlier one, and then those between
pub cut : (items : List ℕ) (count end : ℕ) → count ≤ end → take end items ≡ take count items ++ take (end - count) (drop count items)
cut items count end order =
    let sum : end ≡ count + (end - count) = omega (arith, order) in
    ap (λ (n : ℕ). take n items) sum ∙ take-add count (end - count) items

-- the bytes from a place on, copied to an earlier one
pub copied : (items : List ℕ) (count end last whole : ℕ) → last ≡ length items → whole ≡ length items → count ≤ end → end ≤ length items
    → take (count + (whole - end)) (paste items count (drop end items) (last - end)) ≡ take count items ++ drop end items
copied items count end last whole long also order within =
    let left : length (drop end items) ≡ length items - end = length-drop end items in
    let size : whole - end ≡ last - end = omega (arith, long, also) in
    let same : last - end ≡ length (drop end items) = omega (arith, long, left) in
    ap (λ (n : ℕ). take (count + n) (paste items count (drop end items) (last - end))) size
    ∙ take-paste items count (drop end items) (last - end) (omega (arith, order, within)) (omega (arith, same))
    ∙ ap (λ (n : ℕ). take count items ++ take n (drop end items)) same
    ∙ ap (λ (text : List ℕ). take count items ++ text) (take-length (drop end items))

-- what is decided of two parts of the bytes
pub decided-of : (items one other : List ℕ) (count end : ℕ) → one ≡ items → other ≡ items → (lesser : Lesser)
    → IsLesser (take (end - count) (drop count one)) (take (length other - end) (drop end other)) lesser
    → IsLesser (take (end - count) (drop count items)) (drop end items) lesser
decided-of items one other count end e f lesser h =
    let last : take (length other - end) (drop end other) ≡ drop end items =
    ap (λ (n : ℕ). take n (drop end other)) (sym (length-drop end other)) ∙ take-length (drop end other) ∙ ap (drop end) f in
    subst₂ (λ (a b : List ℕ). IsLesser a b lesser) (ap (λ (text : List ℕ). take (end - count) (drop count text)) e) last h

-- what is decided of two rests is decided of the texts that end with them
module _ (prefix rest piece old : List ℕ) (whole : old ≡ prefix ++ rest) where
  behind : (P : List ℕ → Type 0) → P (prefix ++ rest) → P old
  behind P = subst P (sym whole)

  pub still-undecided : (place count more : ℕ) → place ≡ length prefix → count ≡ place + more → IsLesser rest piece (Undecided more)
      → IsLesser old (prefix ++ piece) (Undecided count)
  still-undecided place count more p c h =
      let long : length (prefix ++ piece) ≡ length prefix + length piece = length-append prefix piece in
      let all : count ≡ length prefix + more = omega (arith, p, c) in (
        omega (arith, long, p, c, h.0),
        behind (λ text. take count text ≡ prefix ++ piece)
            (subst (λ (n : ℕ). take n (prefix ++ rest) ≡ prefix ++ piece) (sym all)
            (take-append-add prefix rest more ∙ ap (λ (text : List ℕ). prefix ++ text) h.1)),
      )

  pub new-now : IsLesser rest piece New → IsLesser old (prefix ++ piece) New
  new-now h = λ more.
      behind (λ text. IsUpTo ((prefix ++ piece) ++ more) text)
      (subst (λ (text : List ℕ). IsUpTo text (prefix ++ rest)) (sym (append_assoc prefix piece more)) (up-to-behind prefix (piece ++ more) rest (h more)))

  pub old-now : IsLesser rest piece Old → IsLesser old (prefix ++ piece) Old
  old-now h = λ more.
      behind (λ text. IsUpTo text ((prefix ++ piece) ++ more))
      (subst (λ (text : List ℕ). IsUpTo (prefix ++ rest) text) (sym (append_assoc prefix piece more)) (up-to-behind prefix rest (piece ++ more) (h more)))

-- the same of a piece after an old text
pub holds-behind : (old piece items held : List ℕ) (count end : ℕ) (lesser : Lesser) → items ≡ old ++ piece → end ≡ length old → count ≤ end
    → LesserHolds (take end items) (take count items ++ drop end items) lesser held → LesserHolds old (take count old ++ piece) lesser held
holds-behind old piece items held count end lesser e long order h =
    let size : length old ≡ end = sym long in
    let within : count ≤ length old = omega (arith, long, order) in
    let new : take count items ++ drop end items ≡ take count old ++ piece =
    ap₂ (λ (a b : List ℕ). a ++ b) (ap (take count) e ∙ take-append-le count old piece within) (ap (drop end) e ∙ drop_at old piece end size) in
    subst₂ (λ (a b : List ℕ). LesserHolds a b lesser held) (ap (take end) e ∙ take_at old piece end size) new h

-- what is undecided is within the old text
pub is-within : (old new held : List ℕ) (lesser : Lesser) → LesserHolds old new lesser held → IsWithinTexts lesser held
is-within old new held (Undecided count) h =
    let long : min count (length old) ≡ length new = sym (length-take count old) ∙ ap length h.is.1 in
    subst (λ (text : List ℕ). count ≤ length text) (sym h.bytes) (omega (arith, long, h.is.0))
is-within old new held New h = tt
is-within old new held Old h = tt

-- ---- in the end

module _ (old new held : List ℕ) where
  old-held : LesserHolds old new Old held → IsOldHeld old new Old held
  old-held h = λ _. (h.bytes, subst (IsUpTo old) (append-nil new) (h.is []))

  end-of-old : IsOldHeld old new Old held → IsLesserText old new held
  end-of-old h =
      let k = h refl in
      record {
        one = inl k.0;
        first = subst (λ (text : List ℕ). IsUpTo text old) (sym k.0) (up-to-itself old);
        second = subst (λ (text : List ℕ). IsUpTo text new) (sym k.0) k.1;
      }

  end-of-new : LesserHolds old new New held → IsLesserText old new held
  end-of-new h = record {
    one = inr h.bytes;
    first = subst (λ (text : List ℕ). IsUpTo text old) (append-nil new ∙ sym h.bytes) (h.is []);
    second = subst (λ (text : List ℕ). IsUpTo text new) (sym h.bytes) (up-to-itself new);
  }

  -- a text with which the other begins is the lesser one
  end-of-both : (count : ℕ) → LesserHolds old new (Undecided count) held → IsLesserText old new (take count held)
  end-of-both count h =
      let e : take count held ≡ new = ap (take count) h.bytes ∙ h.is.1 in
      let whole : new ++ drop count old ≡ old = ap (λ (text : List ℕ). text ++ drop count old) (sym h.is.1) ∙ take-append-drop count old in
      record {
        one = inr e;
        first = subst (λ (text : List ℕ). IsUpTo text old) (sym e) (subst (IsUpTo new) whole (up-to-longer new (drop count old)));
        second = subst (λ (text : List ℕ). IsUpTo text new) (sym e) (up-to-itself new);
      }

  -- after a walk that returned this
  pub ended-old : {A E : Type 0} (lesser : Lesser) → lesser ≡ Old → (r : Result A E) → OnOk r (LesserHolds old new lesser held)
      → OnErr r (IsOldHeld old new lesser held) → IsLesserText old new held
  ended-old lesser last (Ok x) h k = end-of-old (old-held (subst (λ (l : Lesser). LesserHolds old new l held) last h))
  ended-old lesser last (Err x) h k = end-of-old (subst (λ (l : Lesser). IsOldHeld old new l held) last k)

  pub ended-new : {A E : Type 0} (lesser : Lesser) → lesser ≡ New → (r : Result A E) (x : A) → r ≡ Ok x → OnOk r (LesserHolds old new lesser held)
      → IsLesserText old new held
  ended-new {A = A} {E = E} lesser last r x e h =
      end-of-new (subst (λ (l : Lesser). LesserHolds old new l held) last (subst (λ (t : Result A E). OnOk t (LesserHolds old new lesser held)) e h))

  pub ended-both : {A E : Type 0} (lesser : Lesser) (count : ℕ) → lesser ≡ Undecided count → (r : Result A E) (x : A) → r ≡ Ok x
      → OnOk r (LesserHolds old new lesser held) → IsLesserText old new (take count held)
  ended-both {A = A} {E = E} lesser count last r x e h =
      end-of-both count (subst (λ (l : Lesser). LesserHolds old new l held) last (subst (λ (t : Result A E). OnOk t (LesserHolds old new lesser held)) e h))

-- after a walk that gave these lines, of which a text is left that is the lesser one wherever this follows
pub after-walk : {A E : Type 0} (old prefix whole text held left : List ℕ) (lines : List Line) (before after : Lesser) (r : Result A E)
    → LesserHolds old prefix before held → OnOk r (LinesCome before held after left lines) → OnErr r (IsOldLesser before held after left lines)
    → ((first second : List ℕ) → OnOk r (LesserHolds first second after left) → OnErr r (IsOldHeld first second after left) → IsLesserText first second text)
    → prefix ++ flat_map node_text lines ≡ whole → IsLesserText old whole text
after-walk old prefix whole text held left lines before after (Ok x) h took broke so e =
    subst (λ (t : List ℕ). IsLesserText old t text) e (so old (prefix ++ flat_map node_text lines) (took old prefix h) tt)
after-walk old prefix whole text held left lines before after (Err x) h took broke so e =
    subst (λ (t : List ℕ). IsLesserText old t text) e (so old (prefix ++ flat_map node_text lines) tt (broke old prefix h))
