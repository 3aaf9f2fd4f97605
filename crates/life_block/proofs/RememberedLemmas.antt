-- Answers that are remembered stay right.
use Rattle.std.proofs.Common.{◌≡◌, ◌⊎◌, inl, inr, ℕ, ◌+◌, ◌^◌, ℤ, List, sym, ◌∙◌, ap, subst, get_or}
use Rattle.life_base.specs.Sets.{OuterTotalistic}
use Rattle.life_base.specs.Tree.{Tree}
use Rattle.life_quad.specs.Keeping.{KeepsSquares}
use Rattle.life_quad.specs.Memory.{Recalls}
use Rattle.life_quad.specs.declared.id.Id.{Id}
use Rattle.life_quad.specs.declared.memory.Slot.{Slot}
use Rattle.life_next.specs.Generation.{next_life}
use Rattle.life_pieces.specs.declared.grid.Three.{Three}
use Rattle.life_pieces.specs.Pieces.{Nine, Sixteen, IsPiece, IsBinary, IsOfLevel, InThree, InNine, AreThreeAt, AreNine, AreSixteen, ids_of_nine}
use Rattle.life_block.specs.Remembered.{IsAnswer, RemembersBlocks}
use Rattle.life_pieces.proofs.PieceLemmas.{IsAt-kept, IsPiece-kept}

-- nine squares by their list
nine_of : List Id → Nine
nine_of ids =
    let id : ℕ → Id = λ i. get_or ids i (record { 0 = 0 }) in
    record {
      before = record { before = id 0; here = id 1; after = id 2 };
      here = record { before = id 3; here = id 4; after = id 5 };
      after = record { before = id 6; here = id 7; after = id 8 };
    }

same-nine : (a b : Nine) → ids_of_nine a ≡ ids_of_nine b → a ≡ b
unfolding nine_of
same-nine a b e = ap nine_of e

-- an answer by the list of its squares is one by the squares
pub put-nine : {old new : List Slot} {nine : Nine} {ids : List Id} {answer : Id} → ids ≡ ids_of_nine nine
    → ((around : List Id) (next : Id) → Recalls new around next → Recalls old around next ⊎ ((around ≡ ids) × (next ≡ answer)))
    → (other : Nine) (next : Id) → Recalls new (ids_of_nine other) next → Recalls old (ids_of_nine other) next ⊎ ((other ≡ nine) × (next ≡ answer))
put-nine {old = old} {nine = nine} {ids = ids} {answer = answer} is put other next r = by (put _ next r)
  where
    by : Recalls old (ids_of_nine other) next ⊎ ((ids_of_nine other ≡ ids) × (next ≡ answer)) → Recalls old (ids_of_nine other) next
        ⊎ ((other ≡ nine) × (next ≡ answer))
    by (inl before) = inl before
    by (inr e) = inr (same-nine other nine (e.0 ∙ is), e.1)

-- what follows for each of three values follows for the three
module _ {T : Type 0} {three : Three T} where
  in-three : {P Q : T → Type 0} → ((value : T) → P value → Q value) → InThree P three → InThree Q three
  in-three keep h = record { before = keep _ h.before; here = keep _ h.here; after = keep _ h.after }

  three-kept : {K : T → Type 0} {P Q : ℤ → T → Type 0} {side : ℕ} {place : ℤ} → ((at : ℤ) (value : T) → K value → P at value → Q at value)
      → InThree K three → AreThreeAt P side place three → AreThreeAt Q side place three
  three-kept keep known h =
      record { before = keep _ _ known.before h.before; here = keep _ _ known.here h.here; after = keep _ _ known.after h.after }

module _ {S : Type 0} {knows : S → Id → Type 0} {content : S → Id → Tree} {stored : S → List Tree} {most : S → ℕ} {old new : S}
    (keeps : KeepsSquares knows content stored most old new) where
  -- what stands on a plane in the new store stood there in the old one
  AreNine-before : (cells : ℤ → ℤ → ℕ) {k side : ℕ} {x y : ℤ} {nine : Nine} → InNine (IsOfLevel (knows old) (content old) k) nine
      → AreNine (content new) cells side x y nine → AreNine (content old) cells side x y nine
  AreNine-before cells =
      three-kept (λ row three. three-kept (λ column id at. subst (IsPiece cells column row) (keeps.contents _ at.known).1))

  IsAnswer-kept : {rule : OuterTotalistic} {nine : Nine} {answer : Id} → IsAnswer (knows old) (content old) rule nine answer
      → IsAnswer (knows new) (content new) rule nine answer
  IsAnswer-kept {rule = rule} h = record {
    level = h.level;
    known = in-three (λ three. in-three (λ id at. IsAt-kept keeps at)) h.known;
    at = IsAt-kept keeps h.at;
    next = λ cells x y binary p. IsPiece-kept keeps (next_life rule cells) x y h.at (h.next cells x y binary (AreNine-before cells h.known p));
  }

  pub Remembers-kept : {rule : OuterTotalistic} {memory : List Slot} → RemembersBlocks (knows old) (content old) rule memory
      → RemembersBlocks (knows new) (content new) rule memory
  Remembers-kept h = record { answers = λ nine answer r. IsAnswer-kept (h.answers nine answer r) }

  -- an answer that was made of the quarters, whose level is one less
  pub new-answer : (j k : ℕ) {rule : OuterTotalistic} {nine : Nine} {quarters : Sixteen} {answer : Id} → j + 1 ≡ k
      → InNine (IsOfLevel (knows old) (content old) k) nine → IsOfLevel (knows new) (content new) (j + 1) answer
      → ((cells : ℤ → ℤ → ℕ) (x y : ℤ) → AreNine (content old) cells (2 ^ (j + 1)) x y nine → AreSixteen (content old) cells (2 ^ j) x y quarters)
      → ((cells : ℤ → ℤ → ℕ) (x y : ℤ) → IsBinary cells → AreSixteen (content old) cells (2 ^ j) x y quarters
      → IsPiece (next_life rule cells) x y (content new answer))
      → IsAnswer (knows new) (content new) rule nine answer
  new-answer j k {nine = nine} is known at pieces next = record {
    level = j + 1;
    known = in-three (λ three. in-three (λ id here. IsAt-kept keeps (subst (λ l. IsOfLevel (knows old) (content old) l id) (sym is) here))) known;
    at = at;
    next = λ cells x y binary p.
        next cells x y binary (pieces cells x y
        (AreNine-before cells (in-three (λ three. in-three (λ id here. subst (λ l. IsOfLevel (knows old) (content old) l id) (sym is) here)) known) p));
  }

module _ {knows : Id → Type 0} {content : Id → Tree} {rule : OuterTotalistic} where
  -- a memory without answers
  pub Remembers-none : {memory : List Slot} → ((ids : List Id) (answer : Id) → ¬ Recalls memory ids answer) → RemembersBlocks knows content rule memory
  Remembers-none none = record { answers = λ nine answer r. absurd (none (ids_of_nine nine) answer r) }

  -- one more answer
  pub Remembers-more : {old new : List Slot} {nine : Nine} {answer : Id} → IsAnswer knows content rule nine answer
      → ((other : Nine) (next : Id) → Recalls new (ids_of_nine other) next → Recalls old (ids_of_nine other) next ⊎ ((other ≡ nine) × (next ≡ answer)))
      → RemembersBlocks knows content rule old → RemembersBlocks knows content rule new
  Remembers-more {old = old} {nine = nine} {answer = answer} here put h = record { answers = λ other next r. by other next (put other next r) }
    where
      by : (other : Nine) (next : Id) → Recalls old (ids_of_nine other) next ⊎ ((other ≡ nine) × (next ≡ answer)) → IsAnswer knows content rule other next
      by other next (inl r) = h.answers other next r
      by other next (inr e) =
          subst (λ n. IsAnswer knows content rule n next) (sym e.0) (subst (λ a. IsAnswer knows content rule nine a) (sym e.1) here)

  -- what is recalled for nine squares of a level
  module _ {memory : List Slot} {nine : Nine} {answer : Id} {k : ℕ} (h : RemembersBlocks knows content rule memory)
      (recalls : Recalls memory (ids_of_nine nine) answer) (known : InNine (IsOfLevel knows content k) nine) where
    level : (h.answers nine answer recalls).level ≡ k
    level = sym (h.answers nine answer recalls).known.here.here.level ∙ known.here.here.level

    pub recalled-at : IsOfLevel knows content k answer
    recalled-at = subst (λ l. IsOfLevel knows content l answer) level (h.answers nine answer recalls).at

    pub recalled-next : (cells : ℤ → ℤ → ℕ) (x y : ℤ) → IsBinary cells → AreNine content cells (2 ^ k) x y nine
        → IsPiece (next_life rule cells) x y (content answer)
    recalled-next cells x y binary p =
        (h.answers nine answer recalls).next cells x y binary (subst (λ l. AreNine content cells (2 ^ l) x y nine) (sym level) p)
