-- How an input is read in pieces to its end.
use Rattle.std.proofs.Common.{◌≡◌, ℕ, ◌+◌, ◌<◌, ◌≤◌, true, false, List, [], ◌++◌, length, take, refl, ap, sym, ◌∙◌, subst, arith, ◌⊎◌, inl, inr, Option, Some, None, length-append, MatchOption, IfSome, Result, Ok, Err, IfOk, IfErr, IsErrAnd, OnOk, append-nil}
use Rattle.std.proofs.lemmas.Result.{IfOk-weaker, IfErr-weaker}
use Rattle.std.specs.Io.KnownBytes.{Consumes, IsAtEnd}
use Rattle.std.proofs.KnownBytes.{Consumes-trans}
use Rattle.life_base.specs.Inputs.{ReadAll, CameBeyond}
use Rattle.life_base.specs.Lines.{whole_lines}
use Rattle.life_base.specs.Refusal.{fault_of}
use Rattle.life_base.specs.Text.{lines_of}
use Rattle.life_base.specs.Tree.{Tree}
use Rattle.life_base.specs.declared.cell.TheConstants.{MAX_LEVEL}
use Rattle.life_base.specs.declared.fault.Fault.{Fault}
use Rattle.life_base.specs.declared.kind.Kind.{Kind}
use Rattle.life_base.specs.declared.kind.Kind.TheVariants.{Full, Memory, ReadFault}
use Rattle.life_quad.specs.Store.{Nodes, stored_squares}
use Rattle.life_reader.specs.Feeding.{Fed, RefusesPrefix, Stands}
use Rattle.life_pattern.specs.Files.{is_file_kind}
use Rattle.life_reader.specs.Laws.{LengthsStay}
use Rattle.life_reader.specs.Needs.{LacksFor, LacksForPrefix, SomeOfFile}
use Rattle.life_reader.specs.Space.{AddsLines, AddsFile, HoldsFile, HoldsPrefix, HoldsOnly, sufficient_for}
use Rattle.life_reader.specs.Reading.{ReadRefuses, by_file, by_want, LacksForRead, for_prefix, for_file, AddsForRead, HoldsRead, IsTightForRead, ReadsSource}
use Rattle.life_reader.specs.ReadWhole.{ReadsWhole}
use Rattle.life_pattern.specs.Store.{IsRead, IsShortageOf, Keeps, RefusesIn}
use Rattle.life_pattern.specs.declared.pattern.Pattern.{Pattern}
use Rattle.life_mc.proofs.LineKinds.{broken_kind}
use Rattle.life_rle.proofs.LineKinds.{Breaks-kind}
use Rattle.life_quad.proofs.KeepingLemmas.{adds-as, adds-then}
use Rattle.life_reader.proofs.Adding.{prefixes_hold}
use Rattle.life_reader.proofs.NeedFacts.{prefix-more, whole-needs}
use Rattle.life_reader.proofs.PatternFacts.{on-ok}
use Rattle.life_pattern.proofs.RefusalKinds.{refusal-kinds}
use Rattle.life_reader.proofs.RefusedPrefixes.{faults_stay}

-- What came so far, and what was made of it: a line of it was refused, or the reader has it, and no squares were stored since the first byte but
-- such as its lines need.
pub record IsReading (first store : Nodes) (before after : Option (List ℕ)) (total : ℕ) (refused : Option Fault) (fed : Fed) : Type 0 where
  pub bytes : List ℕ
  pub came : Consumes before after bytes
  pub count : length bytes ≡ total
  pub state : MatchOption refused ((fed.spent ≡ false) × (fed.bytes ≡ bytes) × Stands store fed) (RefusesPrefix MAX_LEVEL bytes)
  pub adds : AddsLines (whole_lines bytes) first store

module _ {first store : Nodes} {before after : Option (List ℕ)} {total : ℕ} {refused : Option Fault} {fed : Fed}
    (r : IsReading first store before after total refused fed) where
  -- no line of it was refused
  open-state : refused ≡ None → (fed.spent ≡ false) × (fed.bytes ≡ r.bytes) × Stands store fed
  open-state e =
      subst (λ (o : Option Fault). MatchOption o ((fed.spent ≡ false) × (fed.bytes ≡ r.bytes) × Stands store fed) (RefusesPrefix MAX_LEVEL r.bytes)) e r.state

  -- one was
  refused-state : (fault : Fault) → refused ≡ Some fault → RefusesPrefix MAX_LEVEL r.bytes fault
  refused-state fault e =
      subst (λ (o : Option Fault). MatchOption o ((fed.spent ≡ false) × (fed.bytes ≡ r.bytes) × Stands store fed) (RefusesPrefix MAX_LEVEL r.bytes)) e r.state

-- a piece more
module _ (first old new : Nodes) (before mid after : Option (List ℕ)) (total count : ℕ) (refused next : Option Fault) (fed more : Fed) (piece : List ℕ) where
  pub reading-on : IsReading first old before mid total refused fed → Consumes mid after piece → length piece ≡ count
      → (next ≡ None → (refused ≡ None) × (more.spent ≡ false) × (more.bytes ≡ fed.bytes ++ piece) × Stands new more)
      → IfSome next (λ fault. (refused ≡ Some fault) ⊎ ((refused ≡ None) × RefusesPrefix MAX_LEVEL (fed.bytes ++ piece) fault))
      → ((bytes : List ℕ) → (refused ≡ None → fed.bytes ≡ bytes) → AddsLines (whole_lines (bytes ++ piece)) old new)
      → IsReading first new before after (total + count) next more
  reading-on r came len going reported adds = record {
    bytes = r.bytes ++ piece;
    came = Consumes-trans before mid after r.bytes piece r.came came;
    count = omega (arith, r.count, len, length-append r.bytes piece);
    state = by next refl going reported;
    adds = adds-then _ r.adds (adds r.bytes (λ e. (open-state r e).1)) (λ P s. prefix-more P r.bytes piece s) (λ P a. a);
  }
    where
      by : (o : Option Fault) → next ≡ o → (o ≡ None → (refused ≡ None) × (more.spent ≡ false) × (more.bytes ≡ fed.bytes ++ piece) × Stands new more)
          → IfSome o (λ fault. (refused ≡ Some fault) ⊎ ((refused ≡ None) × RefusesPrefix MAX_LEVEL (fed.bytes ++ piece) fault))
          → MatchOption o ((more.spent ≡ false) × (more.bytes ≡ r.bytes ++ piece) × Stands new more) (RefusesPrefix MAX_LEVEL (r.bytes ++ piece))
      by None e g t = let h = g refl in (h.1, h.2 ∙ ap (λ (b : List ℕ). b ++ piece) (open-state r h.0).1, h.3)
      by (Some fault) e g (inl s) = faults_stay r.bytes piece fault (refused-state r fault s)
      by (Some fault) e g (inr s) = subst (λ (b : List ℕ). RefusesPrefix MAX_LEVEL (b ++ piece) fault) (open-state r s.0).1 s.1

-- all came
pub read-all : (most : ℕ) (before mid after : Option (List ℕ)) (bytes : List ℕ) → Consumes before mid bytes → Consumes mid after [] → IsAtEnd after
    → length bytes ≤ most
    → ReadAll most before after bytes
read-all most before mid after bytes a b e l = record {
  consumed = subst (Consumes before after) (append-nil bytes) (Consumes-trans before mid after bytes [] a b);
  ended = e;
  within = l;
}

-- ---- faults of a line, and full stores or refused memory

pub prefix-kind : (bytes : List ℕ) (fault : Fault) → RefusesPrefix MAX_LEVEL bytes fault → is_file_kind fault.kind ≡ true
prefix-kind bytes fault r = refusal-kinds MAX_LEVEL (broken_kind MAX_LEVEL) Breaks-kind (lines_of bytes) fault r.refuses

pub full-not : (kind : Kind) → is_file_kind kind ≡ true → kind ≡ Full → ⊥
full-not kind h e = let k : is_file_kind Full ≡ true = subst (λ (k : Kind). is_file_kind k ≡ true) e h in cc

memory-not : (kind : Kind) → is_file_kind kind ≡ true → kind ≡ Memory → ⊥
memory-not kind h e = let k : is_file_kind Memory ≡ true = subst (λ (k : Kind). is_file_kind k ≡ true) e h in cc

pub want-of : (store : Nodes) (bytes : List ℕ) (fault : Fault) → IsShortageOf store fault ⊎ RefusesPrefix MAX_LEVEL bytes fault → (fault.kind ≡ Full)
    ⊎ (fault.kind ≡ Memory) → IsShortageOf store fault
want-of store bytes fault (inl w) k = w
want-of store bytes fault (inr r) (inl k) = absurd (full-not fault.kind (prefix-kind bytes fault r) k)
want-of store bytes fault (inr r) (inr k) = absurd (memory-not fault.kind (prefix-kind bytes fault r) k)

pub refused-by : (store : Nodes) (bytes : List ℕ) (fault : Fault) → IsShortageOf store fault ⊎ RefusesPrefix MAX_LEVEL bytes fault → (fault.kind ≡ Full → ⊥)
    → (fault.kind ≡ Memory → ⊥)
    → RefusesPrefix MAX_LEVEL bytes fault
refused-by store bytes fault (inr r) n m = r
refused-by store bytes fault (inl (inl e)) n m = absurd (m (ap (λ (f : Fault). f.kind) e))
refused-by store bytes fault (inl (inr e)) n m = absurd (n (ap (λ (f : Fault). f.kind) e.0))

-- a store that is full holds its limit
want-full : (store : Nodes) (fault : Fault) → IsShortageOf store fault → fault ≡ fault_of Full → length (stored_squares store) ≡ store.limit
want-full store fault (inl m) e = let k = ap (λ (f : Fault). f.kind) (sym e ∙ m) in cc
want-full store fault (inr w) e = w.1

pub prefix-full : (store : Nodes) (bytes : List ℕ) (fault : Fault) → IsShortageOf store fault ⊎ RefusesPrefix MAX_LEVEL bytes fault → fault ≡ fault_of Full
    → length (stored_squares store) ≡ store.limit
prefix-full store bytes fault h e = want-full store fault (want-of store bytes fault h (inl (ap (λ (f : Fault). f.kind) e))) e

pub file-full : {T : Type 0} (store : Nodes) (bytes : List ℕ) (r : Result T Fault) → IfErr r (RefusesIn MAX_LEVEL bytes store) → r ≡ Err (fault_of Full)
    → length (stored_squares store) ≡ store.limit
file-full store bytes (Ok x) h e = cc
file-full store bytes (Err fault) h e = by h
  where
    is : fault ≡ fault_of Full
    is = cc

    by : RefusesIn MAX_LEVEL bytes store fault → length (stored_squares store) ≡ store.limit
    by (inl r) = absurd (full-not fault.kind (refusal-kinds MAX_LEVEL (broken_kind MAX_LEVEL) Breaks-kind (lines_of bytes) fault r)
        (ap (λ (f : Fault). f.kind) is))
    by (inr w) = want-full store fault w is

-- a line was refused, and that is no full store
module _ (first store : Nodes) (before after : Option (List ℕ)) (total : ℕ) (refused : Option Fault) (fed : Fed) where
  pub refused-not-full : IsReading first store before after total refused fed → (fault : Fault) → refused ≡ Some fault → fault ≡ fault_of Full → ⊥
  refused-not-full r fault is e = full-not fault.kind (prefix-kind r.bytes fault (refused-state r fault is)) (ap (λ (f : Fault). f.kind) e)

-- more came than allowed
module _ (first store : Nodes) (before mid after : Option (List ℕ)) (total count most : ℕ) (refused : Option Fault) (fed : Fed) (piece : List ℕ) where
  pub beyond-most : IsReading first store before mid total refused fed → Consumes mid after piece → length piece ≡ count → most < total + count
      → CameBeyond most before after
  beyond-most r came len more = record {
    bytes = r.bytes ++ piece;
    consumed = Consumes-trans before mid after r.bytes piece r.came came;
    long = omega (arith, r.count, len, more, length-append r.bytes piece);
  }

-- a piece more was fed, and the store has no space for its lines
module _ (first store new : Nodes) (before mid after : Option (List ℕ)) (total count most failures : ℕ) (refused : Option Fault) (fed : Fed)
    (piece : List ℕ) where
  pub lacks-prefix : IsReading first store before mid total refused fed → Consumes mid after piece → length piece ≡ count → total + count ≤ most
      → (refused ≡ None) × LacksForPrefix MAX_LEVEL (fed.bytes ++ piece) new
      → LacksForRead MAX_LEVEL most new (record { before = before; after = after; failures = failures })
  lacks-prefix r came len short lacks =
      for_prefix (r.bytes ++ piece) (Consumes-trans before mid after r.bytes piece r.came came)
      (omega (arith, r.count, len, short, length-append r.bytes piece))
      (subst (λ (b : List ℕ). LacksForPrefix MAX_LEVEL (b ++ piece) new) (open-state r lacks.0).1 lacks.1)

-- ---- what is stored

-- what came so far
module _ (first store : Nodes) (before after : Option (List ℕ)) (total : ℕ) (refused : Option Fault) (fed : Fed) where
  pub reading-adds : IsReading first store before after total refused fed → AddsForRead before first store
  reading-adds r = record { bytes = r.bytes; left = after; came = r.came; adds = adds-as _ r.adds (λ P s. whole-needs P r.bytes s) }

  -- and what is left of it where a refusal tells no full store
  pub reading-ends : {A : Type 0} {most failures : ℕ} {now : Option (List ℕ)} {result : Result A Fault}
      → IsReading first store before after total refused fed → Keeps first store → (result ≡ Err (fault_of Full) → ⊥)
      → (failures ≡ 1 → IsErrAnd result (λ fault. fault.kind ≡ ReadFault))
      → OnOk result (HoldsRead most store (record { before = before; after = now; failures = failures }))
      → ReadsSource most first store (record { before = before; after = now; failures = failures }) result
  reading-ends r keeps roomy reported all =
      record { all = all; needed = λ e. absurd (roomy e); adds = reading-adds r; space = λ e. absurd (roomy e); reported = reported; keeps = keeps }

  -- and what the reader stores of it at its end
  pub ended-adds : {new : Nodes} → IsReading first store before after total refused fed → refused ≡ None → AddsFile fed.bytes store new
      → AddsForRead before first new
  ended-adds r e adds = record {
    bytes = r.bytes;
    left = after;
    came = r.came;
    adds = adds-then _ r.adds adds (λ P s. whole-needs P r.bytes s) (λ P s. subst (λ (b : List ℕ). SomeOfFile MAX_LEVEL P (lines_of b)) (open-state r e).1 s);
  }

-- and a piece more, all lines of which were fed, or some up to a refusal
module _ (first store new : Nodes) (before mid after : Option (List ℕ)) (total count most failures : ℕ) (refused : Option Fault) (fed : Fed)
    (piece : List ℕ) where
  pub piece-adds : IsReading first store before mid total refused fed → Consumes mid after piece
      → ((bytes : List ℕ) → (refused ≡ None → fed.bytes ≡ bytes) → AddsLines (whole_lines (bytes ++ piece)) store new) → AddsForRead before first new
  piece-adds r came adds = record {
    bytes = r.bytes ++ piece;
    left = after;
    came = Consumes-trans before mid after r.bytes piece r.came came;
    adds = adds-then _ r.adds (adds r.bytes (λ e. (open-state r e).1))
        (λ P s. whole-needs P (r.bytes ++ piece) (prefix-more P r.bytes piece s)) (λ P s. whole-needs P (r.bytes ++ piece) s);
  }

  -- the store has no space for its lines
  pub piece-tight : IsReading first store before mid total refused fed → Consumes mid after piece → length piece ≡ count → total + count ≤ most → refused ≡ None
      → store.limit ≡ first.limit
      → ((base : List Tree) → HoldsPrefix base fed.bytes store → store.limit < length base + sufficient_for (length (fed.bytes ++ piece)))
      → IsTightForRead most first (record { before = before; after = after; failures = failures })
  piece-tight r came len short e limit space =
      let same = (open-state r e).1 in
      let holds : HoldsPrefix (stored_squares first) fed.bytes store = subst (λ (b : List ℕ). HoldsPrefix (stored_squares first) b store) (sym same)
      r.adds.each in
      let tight = subst (λ (b : List ℕ). store.limit < length (stored_squares first) + sufficient_for (length (b ++ piece))) same
      (space (stored_squares first) holds) in
      record {
        bytes = r.bytes ++ piece;
        came = Consumes-trans before mid after r.bytes piece r.came came;
        within = omega (arith, r.count, len, short, length-append r.bytes piece);
        tight = omega (arith, tight, limit);
      }

-- a read of no bytes is the end
at-end : (mid after : Option (List ℕ)) (count : ℕ) (buf : List ℕ) → count ≡ 0 → 0 < length buf → Consumes mid after (take count buf)
    × (count ≡ 0 → 0 < length buf → IsAtEnd after)
    → Consumes mid after [] × IsAtEnd after
at-end mid after count buf e l h = let none : take count buf ≡ [] = grind (arith, e) in (subst (Consumes mid after) none h.0, h.1 e l)

module _ (first store new : Nodes) (before mid after : Option (List ℕ)) (total most failures count : ℕ) (buf : List ℕ) (refused : Option Fault)
    (fed : Fed) (r : IsReading first store before mid total refused fed) (e : count ≡ 0) (l : 0 < length buf)
    (h : Consumes mid after (take count buf) × (count ≡ 0 → 0 < length buf → IsAtEnd after)) (short : total ≤ most) where
  -- the end came, and a line was refused
  pub ended-refused : (fault : Fault) → refused ≡ Some fault
      → ReadRefuses MAX_LEVEL most new (record { before = before; after = after; failures = failures }) fault
  ended-refused fault is =
      let came = at-end mid after count buf e l h in
      by_file r.bytes (read-all most before mid after r.bytes r.came came.0 came.1 (omega (arith, r.count, short))) (refused-state r fault is).refuses

  -- the end came, and the reader has all
  ended-read : refused ≡ None → ReadAll most before after fed.bytes
  ended-read is =
      let came = at-end mid after count buf e l h in
      rw (open-state r is).1 (read-all most before mid after r.bytes r.came came.0 came.1 (omega (arith, r.count, short)))

  -- the end came, and the store holds what it has
  pub ended-holds : refused ≡ None → {A : Type 0} (result : Result A Fault) → OnOk result (HoldsFile fed.bytes (stored_squares new))
      → OnOk result (HoldsRead most new (record { before = before; after = after; failures = failures }))
  ended-holds is result all = on-ok result all (λ holds. record { bytes = fed.bytes; read = ended-read is; all = holds })

  -- the end came, and nothing was stored but what it needs
  pub ended-whole : refused ≡ None → (result : Result Pattern Fault)
      → IfOk result (λ pattern. (fed.spent ≡ false) × IsRead MAX_LEVEL fed.bytes new pattern) → AddsFile fed.bytes store new
      → IfOk result (ReadsWhole most first new (record { before = before; after = after; failures = failures }))
  ended-whole is result reported adds =
      let same = sym (open-state r is).1 in
      let all : AddsFile fed.bytes first new = adds-then (λ P. SomeOfFile MAX_LEVEL P (lines_of fed.bytes)) r.adds adds
      (λ P s. subst (λ (b : List ℕ). SomeOfFile MAX_LEVEL P (lines_of b)) same (whole-needs P r.bytes s)) (λ P s. s) in
      IfOk-weaker result _ _ (λ pattern h. record { bytes = fed.bytes; read = ended-read is; is = h.1; adds = all }) reported

  -- the end came, and the store has no space for what it has
  pub ended-lacks : refused ≡ None → LacksFor MAX_LEVEL fed.bytes new
      → LacksForRead MAX_LEVEL most new (record { before = before; after = after; failures = failures })
  ended-lacks is = for_file fed.bytes (ended-read is)

  -- nor has its limit
  pub ended-tight : refused ≡ None → store.limit ≡ first.limit
      → ((base : List Tree) → HoldsOnly base fed.bytes store → store.limit < length base + sufficient_for (length fed.bytes))
      → IsTightForRead most first (record { before = before; after = after; failures = failures })
  ended-tight is limit space =
      let all = ended-read is in
      let same = (open-state r is).1 in
      let prefix : HoldsPrefix (stored_squares first) fed.bytes store = subst (λ (b : List ℕ). HoldsPrefix (stored_squares first) b store) (sym same)
      r.adds.each in
      let tight = space (stored_squares first) (prefixes_hold fed.bytes [] (stored_squares first) store store prefix).1 in
      record { bytes = fed.bytes; came = all.consumed; within = all.within; tight = omega (arith, tight, limit) }

  -- the end came, and the reader refuses what it has
  pub ended-open : refused ≡ None → (result : Result Pattern Fault) → (fed.spent ≡ false → IfErr result (λ fault. RefusesIn MAX_LEVEL fed.bytes new fault))
      → IfErr result (λ fault. ReadRefuses MAX_LEVEL most new (record { before = before; after = after; failures = failures }) fault)
  ended-open is result reported = IfErr-weaker result _ _ each (reported (open-state r is).0)
    where
      read : ReadAll most before after fed.bytes
      read = ended-read is

      each : (fault : Fault) → RefusesIn MAX_LEVEL fed.bytes new fault
          → ReadRefuses MAX_LEVEL most new (record { before = before; after = after; failures = failures }) fault
      each fault (inl refuses) = by_file fed.bytes read refuses
      each fault (inr want) = by_want want

-- ---- how long an input is that tells its bytes

beyond-length : (most : ℕ) (input : List ℕ) (after : Option (List ℕ)) → CameBeyond most (Some input) after → most < length input
beyond-length most input None came = absurd came.consumed
beyond-length most input (Some left) came = omega (arith, came.long, ap length came.consumed, length-append came.bytes left)

within-length : (most : ℕ) (input : List ℕ) (after : Option (List ℕ)) (bytes : List ℕ) → ReadAll most (Some input) after bytes → length input ≤ most
within-length most input None bytes read = absurd read.consumed
within-length most input (Some left) bytes read = omega (arith, read.within, ap length read.consumed, length-append bytes left, ap length read.ended)

pub lengths_stay : LengthsStay
lengths_stay most input more after later bytes came read =
    let over = beyond-length most input after came in
    let under = within-length most (input ++ more) later bytes read in
    absurd (omega (arith, over, under, length-append input more))
