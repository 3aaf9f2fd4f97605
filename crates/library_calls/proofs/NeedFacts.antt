-- How many squares a call needs, by those that its store holds.
--
-- A `Needs` says of a property that a square which is needed has it; so `Needs (λ u. u ≡ t)` says that t is needed.
use Rattle.std.proofs.Common.{◌≡◌, ◌≢◌, ◌⊎◌, inl, inr, ℕ, zero, suc, ◌<◌, ◌≤◌, ◌∙◌, false, List, [], ◌∷◌, ◌++◌, length, AllPairs, Result, Ok, Err, OnOk, IfOk, IfErr, sym, ap, subst, All, Contains}
use Rattle.std.proofs.lemmas.List.{length-map}
use Rattle.std.proofs.lemmas.List.Elements.{All-contains, All-contains_itself}
use Rattle.std.proofs.lemmas.List.Kept.{AllPairs-cons}
use Rattle.life_base.specs.Lines.{whole_lines}
use Rattle.life_base.specs.Refusal.{fault_of}
use Rattle.life_base.specs.Text.{lines_of}
use Rattle.life_base.specs.Tree.{Tree, is_blank_tree}
use Rattle.life_base.specs.declared.cell.TheConstants.{MAX_LEVEL}
use Rattle.life_base.specs.declared.fault.Fault.{Fault}
use Rattle.life_base.specs.declared.kind.Kind.TheVariants.{Full}
use Rattle.life_quad.specs.Keeping.{AddsOnly}
use Rattle.life_quad.specs.Store.{Nodes, IsShared, content, stored_squares, id_of}
use Rattle.life_reader.specs.Calls.{EndsInto, FeedsInto, ReadsInto}
use Rattle.life_pattern.specs.Store.{IsNew}
use Rattle.life_reader.specs.Needs.{LacksFor}
use Rattle.life_reader.specs.Space.{HoldsFile, AddsFile, HoldsPrefix, HoldsOnly, sufficient_for}
use Rattle.life_pattern.specs.Store.{IsRead}
use Rattle.life_pattern.specs.declared.pattern.Pattern.{Pattern}
use Rattle.life_pattern.proofs.Found.{Found}
use Rattle.life_reader.proofs.SpaceCount.{find-file, find-lines}
use Rattle.life_pattern.proofs.SpaceLists.{Among, among-contains, contains-among, distinct-pairs, pigeons}
pub use Rattle.life_forms.proofs.SizeFacts.{HoldsOnce, HoldsNeeded, no-square, all-cons, more-than-held, needs-more, within, longer, enough, from-empty}
use Rattle.library_calls.specs.Outputs.{IsTooLowForPrefix, SomeOfPrefix}
use Rattle.library_calls.specs.Texts.{Fits, IsTooLowFor, NeedsMore, SomeToRead, squares_of_limit}
use Rattle.library_calls.proofs.Answering.{tight, tight-alone}

-- ---- what a store holds

-- one that held needed squares alone
pub from-needed : (Before Added Needs : (Tree → Type 0) → Type 0) (old new : Nodes) → ((P : Tree → Type 0) → Before P → Needs P)
    → ((P : Tree → Type 0) → Added P → Needs P) → HoldsNeeded Before old → AddsOnly stored_squares Added old new → HoldsNeeded Needs new
from-needed Before Added Needs old new f g before adds t there = elim (adds.each t there) [
  | inl it ↦ f _ (before t it)
  | inr it ↦ g _ it
]

-- besides no square
pub only-needed : (bytes : List ℕ) (store : Nodes) → HoldsOnly [] bytes store → HoldsNeeded (SomeToRead bytes) store
only-needed bytes store only t there = elim (only t there) [ inl none ↦ no-square t none | inr it ↦ it ]

pub needed-only : (bytes : List ℕ) (store : Nodes) → HoldsNeeded (SomeToRead bytes) store → HoldsOnly [] bytes store
needed-only bytes store needed t there = inr (needed t there)

pub only-more : (bytes : List ℕ) (old new : Nodes) → HoldsOnly [] bytes old → AddsFile bytes old new → HoldsOnly [] bytes new
only-more bytes old new only adds t there = elim (adds.each t there) [ inl before ↦ only t before | inr own ↦ inr own ]

-- ---- a call that succeeds, and one that is refused

pub on-ok : {A P : Type 0} (result : Result A Fault) (x : A) → result ≡ Ok x → OnOk result P → P
on-ok {A} {P} result x was p = subst (λ (r : Result A Fault). OnOk r P) was p

pub if-ok : {A : Type 0} (P : A → Type 0) (result : Result A Fault) (x : A) → result ≡ Ok x → IfOk result P → P x
if-ok {A} P result x was p = subst (λ (r : Result A Fault). IfOk r P) was p

pub if-err : {A : Type 0} (P : Fault → Type 0) (result : Result A Fault) (fault : Fault) → result ≡ Err fault → IfErr result P → P fault
if-err {A} P result fault was p = subst (λ (r : Result A Fault). IfErr r P) was p

-- what holds of any answer that is an `Ok`
pub where-ok : {A P : Type 0} (result : Result A Fault) → P → OnOk result P
where-ok (Ok x) p = p
where-ok (Err fault) p = tt

-- ---- why a store is full

-- where a file is read
pub too-low : (bytes : List ℕ) (store : Nodes) → HoldsOnce store → HoldsNeeded (SomeToRead bytes) store → LacksFor MAX_LEVEL bytes store
    → store.limit < sufficient_for (length bytes) → length (stored_squares store) ≡ store.limit → IsTooLowFor bytes store.limit
too-low bytes store once needed lacks low full =
    (more-than-held (SomeToRead bytes) store once needed (find-file (IsNew store) (lines_of bytes) lacks) full, low)

pub file-low : {A : Type 0} (bytes : List ℕ) (old new : Nodes) (result : Result A Fault) (fault : Fault) → result ≡ Err fault → stored_squares old ≡ []
    → HoldsOnce new → ReadsInto bytes old new result → fault ≡ fault_of Full → length (stored_squares new) ≡ new.limit → IsTooLowFor bytes new.limit
file-low {A} bytes old new result fault was empty once reads full at =
    let is : result ≡ Err (fault_of Full) = was ∙ ap (λ (f : Fault). Err f) full in
    too-low bytes new once (from-empty (SomeToRead bytes) old new empty reads.adds) (reads.needed is)
    (tight (sufficient_for (length bytes)) old new empty reads.keeps.limit (reads.space is)) at

-- at the end of one that came in pieces
pub end-low : {A : Type 0} (bytes : List ℕ) (old new : Nodes) (result : Result A Fault) (fault : Fault) → result ≡ Err fault → HoldsOnly [] bytes old
    → HoldsOnce new → EndsInto bytes old new result → fault ≡ fault_of Full → length (stored_squares new) ≡ new.limit → IsTooLowFor bytes new.limit
end-low {A} bytes old new result fault was only once ends full at =
    let is : result ≡ Err (fault_of Full) = was ∙ ap (λ (f : Fault). Err f) full in
    too-low bytes new once (only-needed bytes new (only-more bytes old new only ends.adds)) (ends.needed is)
    (tight-alone (sufficient_for (length bytes)) old new ends.keeps.limit (ends.space is [] only)) at

-- with a piece
pub piece-low : {A : Type 0} (before piece : List ℕ) (old new : Nodes) (result : Result A Fault) (fault : Fault) → result ≡ Err fault
    → HoldsPrefix [] before old → HoldsPrefix [] (before ++ piece) new → HoldsOnce new → FeedsInto before piece old new result
    → fault ≡ fault_of Full → length (stored_squares new) ≡ new.limit → IsTooLowForPrefix (before ++ piece) new.limit
piece-low {A} before piece old new result fault was prefix only once feeds full at =
    let is : result ≡ Err (fault_of Full) = was ∙ ap (λ (f : Fault). Err f) full in
    let bytes = before ++ piece in
    let needed : HoldsNeeded (SomeOfPrefix bytes) new = λ t there. elim (only t there) [ inl none ↦ no-square t none | inr it ↦ it ] in (
      more-than-held (SomeOfPrefix bytes) new once needed (find-lines (IsNew new) (whole_lines bytes) (feeds.needed is)) at,
      tight-alone
          (sufficient_for (length bytes)) old new feeds.keeps.limit (feeds.space is [] prefix),
    )

-- ---- a file that was read

pub file-fits : (bytes : List ℕ) (limit : ℕ) (store : Nodes) (pattern : Pattern) → IsRead MAX_LEVEL bytes store pattern → HoldsFile bytes (stored_squares store)
    → store.limit ≡ squares_of_limit limit → Fits (SomeToRead bytes) limit
file-fits bytes limit store pattern read all is =
    subst (λ (most : ℕ). ¬ NeedsMore (SomeToRead bytes) most) is (enough (SomeToRead bytes) store read.is.known.1 all)
