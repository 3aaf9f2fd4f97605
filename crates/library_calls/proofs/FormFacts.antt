-- Patterns that were read into a store, and their forms.
use Rattle.std.proofs.Common.{◌≡◌, ◌⊎◌, inl, inr, ℕ, ◌+◌, ◌^◌, ◌<◌, List, [], length, sym, ap, ◌∙◌, subst, arith, ◌↔◌, IsTrue, Bool, Contains, min}
use Rattle.life_base.specs.Refusal.{OrMemory, fault_of}
use Rattle.life_base.specs.Text.{lines_of}
use Rattle.life_base.specs.Tree.{Tree}
use Rattle.life_base.specs.declared.cell.TheConstants.{MAX_LEVEL}
use Rattle.life_base.specs.declared.fault.Fault.{Fault}
use Rattle.life_base.specs.declared.kind.Kind.TheVariants.{Full}
use Rattle.life_quad.specs.Keeping.{AddsOnly}
use Rattle.life_quad.specs.Store.{Nodes, stored_squares}
use Rattle.life_pattern.specs.Files.{Accepted, Refuses}
use Rattle.life_writer.specs.Laws.{CanonicalIsLeast, TextsAreFiles}
use Rattle.life_pattern.specs.Laws.{FilesAreOnPlane, RefusalsHaveKinds}
use Rattle.life_writer.specs.Listing.{canonical_file}
use Rattle.life_pattern.specs.Store.{IsNew}
use Rattle.life_reader.specs.Needs.{LacksFor}
use Rattle.life_reader.specs.Space.{AddsFile, FewSquares, HoldsFile, HoldsOnly, LimitSuffices, sufficient_for}
use Rattle.life_pattern.specs.Store.{IsRead, IsShortageOf, RefusesIn}
use Rattle.life_writer.specs.Texts.{IsCanonical}
use Rattle.life_pattern.specs.declared.pattern.Pattern.{Pattern}
use Rattle.life_pattern.proofs.Found.{found-as}
use Rattle.life_reader.proofs.SpaceCount.{find-file}
use Rattle.pattern_forms.specs.InForm.{FileLacksForm, IsTextWithin, OneFileLacksForm, RefusesFormFor, most_of_form}
use Rattle.life_base.specs.declared.form.Form.{Form}
use Rattle.life_base.specs.declared.form.Form.TheVariants.{Placed, Moved, Turned, Phases}
use Rattle.life_mc.specs.Reading.{IsMacrocell}
use Rattle.library_calls.specs.Texts.{IsLeastCanonicalText, NeedsMore, RefusesWithin, SomeToRead, squares_of_limit}
use Rattle.library_calls.specs.ComparingInForm.{RefusesEitherInForm}
use Rattle.library_calls.specs.InForm.{squares_of_form, IsTextInForm, RefusesFormWithin}
use Rattle.library_calls.specs.Comparing.{IsTooLowForBoth, SomeToReadBoth}
use Rattle.library_calls.proofs.Answering.{not-full, tight, wanted}
use Rattle.library_calls.proofs.NeedFacts.{HoldsOnce, enough, from-empty, more-than-held, too-low}

pub accepted-it : (bytes : List ℕ) (store : Nodes) (pattern : Pattern) → IsRead MAX_LEVEL bytes store pattern → Accepted MAX_LEVEL bytes
accepted-it bytes store pattern read = (read.universe, read.reads)

-- ---- texts

-- the canonical text of a file has the fewest node lines
canonical : FilesAreOnPlane MAX_LEVEL → TextsAreFiles MAX_LEVEL → CanonicalIsLeast MAX_LEVEL → (bytes text : List ℕ) → IsCanonical MAX_LEVEL bytes text
    → IsLeastCanonicalText bytes text
canonical plane files least bytes text h =
    let on = plane bytes h.universe h.reads in
    let file = files h.universe on in (
      h,
      record {
        universe = h.universe;
        reads = h.reads;
        file = canonical_file MAX_LEVEL h.universe;
        says = subst (λ t. IsMacrocell MAX_LEVEL t (canonical_file MAX_LEVEL h.universe)) (sym h.is) file.0;
        same = file.1;
        least = least h.universe on;
      },
    )

-- the text of a pattern in a form, in a store with this limit
pub form-text : FilesAreOnPlane MAX_LEVEL → TextsAreFiles MAX_LEVEL → CanonicalIsLeast MAX_LEVEL → (form : Form) (limit : ℕ) (store : Nodes)
    (bytes text : List ℕ) → store.limit ≡ squares_of_limit limit → IsTextWithin form MAX_LEVEL (most_of_form store) bytes text
    → IsTextInForm form limit bytes text
form-text plane files least Placed limit store bytes text space is = canonical plane files least bytes text is
form-text plane files least Moved limit store bytes text space is =
    subst (λ (n : ℕ). IsTextWithin Moved MAX_LEVEL (min (2 ^ 21) n) bytes text) space is
form-text plane files least Turned limit store bytes text space is =
    subst (λ (n : ℕ). IsTextWithin Turned MAX_LEVEL (min (2 ^ 21) n) bytes text) space is
form-text plane files least (Phases generations) limit store bytes text space is =
    subst (λ (n : ℕ). IsTextWithin (Phases generations) MAX_LEVEL (min (2 ^ 21) n) bytes text) space is

-- why there is none
pub within-form : (form : Form) (limit : ℕ) (bytes : List ℕ) (fault : Fault) → RefusesWithin limit bytes fault → RefusesFormWithin form limit bytes fault
within-form Placed limit bytes fault why = why
within-form Moved limit bytes fault why = inl why
within-form Turned limit bytes fault why = inl why
within-form (Phases generations) limit bytes fault why = inl why

lacks-form : (form : Form) (limit : ℕ) (bytes : List ℕ) (fault : Fault)
    → RefusesFormFor form (FileLacksForm form MAX_LEVEL (squares_of_form limit) bytes) fault → RefusesFormWithin form limit bytes fault
lacks-form Placed limit bytes fault why = absurd why.1.2
lacks-form Moved limit bytes fault why = inr why
lacks-form Turned limit bytes fault why = inr why
lacks-form (Phases generations) limit bytes fault why = inr why

pub form-fault : (form : Form) (limit : ℕ) (store : Nodes) (bytes : List ℕ) (fault : Fault) → store.limit ≡ squares_of_limit limit
    → OrMemory fault (RefusesFormFor form (FileLacksForm form MAX_LEVEL (most_of_form store) bytes) fault) → RefusesFormWithin form limit bytes fault
form-fault form limit store bytes fault space (inl memory) = within-form form limit bytes fault (inr (inl memory))
form-fault form limit store bytes fault space (inr why) =
    lacks-form form limit bytes fault (subst (λ (n : ℕ). RefusesFormFor form (FileLacksForm form MAX_LEVEL (min (2 ^ 21) n) bytes) fault) space why)

-- ---- two files

-- a store that is full has as many squares as its limit
full-has : RefusalsHaveKinds MAX_LEVEL → (bytes : List ℕ) (store : Nodes) (fault : Fault) → RefusesIn MAX_LEVEL bytes store fault → fault ≡ fault_of Full
    → length (stored_squares store) ≡ store.limit
full-has kinds bytes store fault (inl refuses) full =
    let line : fault.place.line ≡ 0 = ap (λ (f : Fault). f.place.line) full in
    let least = (kinds (lines_of bytes) fault refuses).1 in
    absurd (omega (arith, line, least))
full-has kinds bytes store fault (inr (inl memory)) full = not-full fault memory full
full-has kinds bytes store fault (inr (inr stored)) full = stored.1

-- the first of two files needs more than a store that was empty may hold
pub first-low : RefusalsHaveKinds MAX_LEVEL → (first second : List ℕ) (old new : Nodes) (fault : Fault) → stored_squares old ≡ [] → HoldsOnce new
    → AddsFile first old new → new.limit ≡ old.limit → LacksFor MAX_LEVEL first new → old.limit < length (stored_squares old) + sufficient_for (length first)
    → RefusesIn MAX_LEVEL first new fault → fault ≡ fault_of Full → IsTooLowForBoth first second new.limit
first-low kinds first second old new fault empty once adds same lacks low why full =
    let alone = tight (sufficient_for (length first)) old new empty same low in
    let at = full-has kinds first new fault why full in (
      inl (too-low first new once (from-empty (SomeToRead first) old new empty adds) lacks alone at).0,
      omega
          (arith, alone),
    )

-- what the first needs is needed to read both
pub first-read : (first second : List ℕ) (old new : Nodes) → AddsFile first old new → AddsOnly stored_squares (SomeToReadBoth first second) old new
first-read first second old new adds =
    record { each = λ t there. elim (adds.each t there) [ inl before ↦ inl before | inr own ↦ inr (inl own) ] }

-- what the two need that were read into a store that was empty, one after the other
pub read-both : (first second : List ℕ) (old mid new : Nodes) → AddsFile first old mid → AddsFile second mid new
    → AddsOnly stored_squares (SomeToReadBoth first second) old new
read-both first second old mid new one other =
    record {
      each = λ t there. elim (other.each t there) [
        | inl before ↦ elim (one.each t before) [ inl there ↦ inl there | inr own ↦ inr (inl own) ]
        | inr own ↦ inr (inr own)
      ];
    }

-- so may the second, with the first
pub second-low : RefusalsHaveKinds MAX_LEVEL → FewSquares → LimitSuffices → (first second : List ℕ) (old mid new : Nodes) (fault : Fault) → stored_squares old
    ≡ []
    → HoldsOnce new → Accepted MAX_LEVEL first → AddsFile first old mid → AddsFile second mid new
    → LacksFor MAX_LEVEL second new → RefusesIn MAX_LEVEL second new fault → fault ≡ fault_of Full → IsTooLowForBoth first second new.limit
second-low kinds few suffices first second old mid new fault empty once accepted one other lacks why full =
    let base = few first in
    let needed = from-empty (SomeToReadBoth first second) old new empty (read-both first second old mid new one other) in
    let only : HoldsOnly base.0 second new = λ t there. elim (needed t there) [
      | inl own ↦ inl (base.2 t (once.live t there) own)
      | inr own ↦ inr own
    ] in
    let less = suffices second base.0 new once.distinct once.live only lacks in
    let most = base.1 in
    let at = full-has kinds second new fault why full in
    let lack = found-as (λ Q k. inr k) (find-file (IsNew new) (lines_of second) lacks) in
    (inr (accepted, more-than-held (SomeToReadBoth first second) new once needed lack at), omega (arith, less, most, at))

-- the two are read into a store that holds all that they need
pub both-fit : (first second : List ℕ) (mid new : Nodes) (pattern : Pattern) → IsRead MAX_LEVEL second new pattern → HoldsFile first (stored_squares mid)
    → ((t : Tree) → Contains (stored_squares mid) t → Contains (stored_squares new) t) → HoldsFile second (stored_squares new)
    → ¬ NeedsMore (SomeToReadBoth first second) new.limit
both-fit first second mid new pattern read one stay other =
    enough (SomeToReadBoth first second) new read.is.known.1
    (λ t live needed. elim needed [ inl s ↦ stay t (one t live s) | inr s ↦ other t live s ])

-- one of two files isn't read, or the store is full or memory is refused for it
pub either-unread : (form : Form) (limit : ℕ) (first second : List ℕ) (store : Nodes) (fault : Fault) → store.limit ≡ squares_of_limit limit
    → Refuses MAX_LEVEL first fault ⊎ (Accepted MAX_LEVEL first × Refuses MAX_LEVEL second fault) ⊎ IsShortageOf store fault
    → (fault ≡ fault_of Full → IsTooLowForBoth first second store.limit) → RefusesEitherInForm form limit first second fault
either-unread form limit first second store fault space (inl refuses) low = inl (inl refuses)
either-unread form limit first second store fault space (inr (inl refuses)) low = inl (inr (inl refuses))
either-unread form limit first second store fault space (inr (inr want)) low =
    inl (inr (inr (wanted (IsTooLowForBoth first second) limit store fault space want (λ full at. low full))))

-- two files that aren't compared, of which one may have no text in the form
pub either-unformed : (form : Form) (limit : ℕ) (first second : List ℕ) (store : Nodes) (fault : Fault) → store.limit ≡ squares_of_limit limit
    → OrMemory fault (RefusesFormFor form (OneFileLacksForm form MAX_LEVEL (most_of_form store) first second) fault)
    → RefusesEitherInForm form limit first second fault
either-unformed form limit first second store fault space (inl memory) = inl (inr (inr (inl memory)))
either-unformed form limit first second store fault space (inr why) =
    inr (subst (λ (n : ℕ). RefusesFormFor form (OneFileLacksForm form MAX_LEVEL (min (2 ^ 21) n) first second) fault) space why)

-- two that were compared have texts in the form
pub both-small : (form : Form) (limit : ℕ) (first second : List ℕ) (store : Nodes) → store.limit ≡ squares_of_limit limit
    → ¬ OneFileLacksForm form MAX_LEVEL (most_of_form store) first second
    → ¬ OneFileLacksForm form MAX_LEVEL (squares_of_form limit) first second
both-small form limit first second store space small =
    subst (λ (n : ℕ). ¬ OneFileLacksForm form MAX_LEVEL (min (2 ^ 21) n) first second) space small
