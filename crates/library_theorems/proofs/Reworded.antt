-- What the calls of the library tell, in the words of the formats.
use Rattle.std.proofs.Common.{◌≡◌, ◌⊎◌, inl, inr, ℕ, ◌+◌, ◌<◌, List, [], ◌∷◌, ◌++◌, length, take, drop, refl, ap, ◌∙◌, sym, subst, arith, ◌≢◌, Ok, Err, IsOk}
use Rattle.life_base.specs.Kinds.{kind_number}
use Rattle.life_base.specs.Refusal.{OrMemory}
use Rattle.life_base.specs.Text.{lines_of}
use Rattle.life_base.specs.declared.fault.Fault.{Fault}
use Rattle.life_base.specs.declared.kind.Kind.TheVariants.{Memory}
use Rattle.life_pattern.specs.Files.{Accepted}
use Rattle.life_writer.specs.Laws.{CanonicalIsLeast, TextsAreFiles, TextsKeepPatterns}
use Rattle.life_pattern.specs.Laws.{FilesAreOnPlane, FilesAreUnique}
use Rattle.life_writer.specs.Least.{IsLeastText}
use Rattle.life_writer.specs.Listing.{canon_text, canonical_file}
use Rattle.life_writer.specs.Texts.{IsCanonical, IsShownText}
use Rattle.life_table.specs.Grammar.{IsPlainTable}
use Rattle.life_table.specs.Reading.{RefusesTable, AreTable}
use Rattle.life_table.specs.declared.table.Table.{Table as LayerTable}
use Rattle.claims.specs.ByTable.{IsClaimedStepBy, IsUnsteppedBy}
use Rattle.claims.specs.Counting.{claimed_node_lines, IsCanonicalText}
use Rattle.claims.specs.Files.{pattern_of, IsShortage, SayOnePattern, claimed_fault_of}
use Rattle.claims.specs.Generation.{IsUnstepped}
use Rattle.claims.specs.Pattern.{Pattern}
use Rattle.claims.specs.Shown.{IsClaimedShown as AreLines}
use Rattle.claims.specs.Table.{Table, table_of}
use Rattle.claims.specs.TableLaws.{TablesDecide, TablesRead, TablesRefuse}
use Rattle.claims.specs.Tables.{IsTable}
use Rattle.theorems.proofs.CanonicalLaw.{canonical_so}
use Rattle.theorems.proofs.CellsLaw.{few_cells, says_more}
use Rattle.theorems.proofs.FileLaw.{same_from, same_to, rle_format}
use Rattle.theorems.proofs.RefusalLaw.{accepted_is_ok, refuses_agree}
use Rattle.theorems.proofs.ShownLaw.{shown_is}
use Rattle.theorems.proofs.TextLaw.{rle_of_file}
use Rattle.theorems.proofs.StreamLaw.{one_text}
use Rattle.theorems.proofs.StepLaw.{unstepped_is}
use Rattle.generation_theorems.specs.ManyGenerations.{IsNotAdvanced}
use Rattle.generation_theorems.proofs.FurtherLaw.{reason-of}
use Rattle.theorems.proofs.StepBy.{next_by_is_fixed, stepped_is, unstepped_is as unstepped_by_is}
use Rattle.library_calls.specs.Texts.{IsTooLowFor, NeedsMore, IsLimitShortage, RefusesWithin, RefusesRleWithin, IsLeastCanonicalText as LayerText, IsRleText as LayerRle}
use Rattle.library_calls.specs.declared.compared.Compared.{Compared}
use Rattle.library_calls.specs.Comparing.{ComparesWithin, by_answer, IsAnswerOf, IsTooLowForBoth, RefusesEither}
use Rattle.library_calls.specs.Comparing as comparing
use Rattle.library_calls.specs.Outputs.{IsOutputText, RefusesTextOf}
use Rattle.library_calls.specs.declared.texts.Output.{Output}
use Rattle.life_step.specs.Refusals.{SomeOfStep, SomeOfStepBy}
use Rattle.library_calls.specs.Stepping.{RefusesLater, RefusesStepWithin, RefusesStepByWithin, StepsByTable, by_table, by_no_table}
use Rattle.library_calls.specs.declared.reported.Reported.{Reported}
use Rattle.library_calls.specs.Reported.{Copies, LacksTextSpace, ReturnsText, ReturnsFault, Returns, by_text, by_fault}
use Rattle.library_theorems.specs.Answered.{IsClaimedRleText, AreFiveLines, IsClaimedUnread, IsUnreadWithin, IsUnwritten, IsShortageBelow, squares_for}
use Rattle.library_theorems.specs.Ending.{IsEndFault}
use Rattle.library_calls.proofs.Numbered.{IsOfText, no_text}

-- the same is reported by what texts and faults imply
pub reworded : {IsText IsOther : List ℕ → Type 0} {IsFault IsOtherFault : Fault → Type 0} {before after : List ℕ} {reported : Reported}
    → Returns IsText IsFault before after reported → ((text : List ℕ) → IsText text → IsOther text) → ((fault : Fault) → IsFault fault → IsOtherFault fault)
    → Returns IsOther IsOtherFault before after reported
reworded (by_text t is gives none) text fault = by_text t (text t is) gives none
reworded (by_fault f why tells) text fault = by_fault f (fault f why) tells

-- what is reported for this output is reported for that one, which it is
pub of_form : {output that : Output} {IsFault : Fault → Type 0} {before after : List ℕ} {reported : Reported} → output ≡ that → (limit : ℕ) (file : List ℕ)
    → Returns (IsOutputText output limit file) IsFault before after reported → Returns (IsOutputText that limit file) IsFault before after reported
of_form {IsFault = IsFault} {before = before} {after = after} {reported = reported} is limit file =
    subst (λ (f : Output). Returns (IsOutputText f limit file) IsFault before after reported) is

-- the end of a stream for that output tells what its texts and its faults imply
pub ended_so : {output that : Output} {IsOther : List ℕ → Type 0} {IsOtherFault : Fault → Type 0} {before after : List ℕ} {reported : Reported} → output ≡ that
    → (limit : ℕ) (file : List ℕ) → Returns (IsOutputText output limit file) (IsEndFault output limit file) before after reported
    → ((text : List ℕ) → IsOutputText that limit file text → IsOther text) → ((fault : Fault) → IsUnreadWithin limit file fault → IsOtherFault fault)
    → ((fault : Fault) → RefusesTextOf that limit file fault → IsOtherFault fault) → Returns IsOther IsOtherFault before after reported
ended_so {before = before} {after = after} {reported = reported} is limit file answers text unread refused =
    reworded (subst (λ (f : Output). Returns (IsOutputText f limit file) (IsEndFault f limit file) before after reported) is answers) text
    (λ fault why. elim why [ inl u ↦ unread fault u | inr r ↦ refused fault r ])

-- ---- texts

pub canonical_to : FilesAreOnPlane 62 → TextsAreFiles 62 → TextsKeepPatterns 62 → (file text : List ℕ) → LayerText file text → IsCanonicalText file text
canonical_to on_plane files keep file text c = canonical_so on_plane files keep file text c.0 c.1

pub rle_so : (file text : List ℕ) → LayerRle file text → IsClaimedRleText file text
rle_so file text r = record { is = rle_of_file file text r.0; same = same_to file text r.1; format = rle_format file text r.0; few = few_cells file text r.0 }

pub lines_so : CanonicalIsLeast 62 → FilesAreOnPlane 62 → FilesAreUnique 62 → TextsAreFiles 62 → TextsKeepPatterns 62 → (file text : List ℕ)
    → IsShownText 62 file text → AreFiveLines file text
lines_so least on_plane unique files keep file text s =
    let u = s.universe in
    let on = on_plane file u s.reads in
    let written = files u on in
    let canonical : IsCanonical 62 file (canon_text 62 u) = record { universe = u; reads = s.reads; is = refl } in
    let fewest : IsLeastText 62 file (canon_text 62 u) = record {
      universe = u;
      reads = s.reads;
      file = canonical_file 62 u;
      says = written.0;
      same = written.1;
      least = least u on;
    } in
    let shown = shown_is on_plane unique files file text (canon_text 62 u) s canonical in
    record {
      pattern = shown.0;
      is = shown.1;
      canonical = canon_text 62 u;
      is_canonical = canonical_so on_plane files keep file (canon_text 62 u) canonical fewest;
      shown = shown.2;
    }

-- ---- why there is none

-- a limit that was too low is below the space
pub want_below : (IsTooLow : ℕ → Type 0) (space limit : ℕ) (fault : Fault) → ((most : ℕ) → IsTooLow most → most < space) → IsLimitShortage IsTooLow limit fault
    → IsShortageBelow space limit fault
want_below IsTooLow space limit fault tight (inl memory) = inr memory
want_below IsTooLow space limit fault tight (inr full) = inl (full.0, tight _ full.1)

-- memory is refused, or the store is full
wanted : (IsTooLow : ℕ → Type 0) (limit : ℕ) (fault : Fault) → IsLimitShortage IsTooLow limit fault → IsShortage fault
wanted IsTooLow limit fault (inl memory) = inr memory
wanted IsTooLow limit fault (inr full) = inl full.0

pub unread : (limit : ℕ) (file : List ℕ) (fault : Fault) → RefusesWithin limit file fault → IsUnreadWithin limit file fault
unread limit file fault (inl refuses) = inl (refuses_agree file fault refuses)
unread limit file fault (inr w) = inr (want_below (IsTooLowFor file) (squares_for file) limit fault (λ most low. low.1) w)

-- whatever the limit
pub unread_at_all : (limit : ℕ) (file : List ℕ) (fault : Fault) → IsUnreadWithin limit file fault → IsClaimedUnread file fault
unread_at_all limit file fault (inl bad) = inl bad
unread_at_all limit file fault (inr (inl full)) = inr (inl full.0)
unread_at_all limit file fault (inr (inr memory)) = inr (inr memory)

pub unwritten : (limit : ℕ) (file : List ℕ) (fault : Fault) → RefusesRleWithin limit file fault → IsUnwritten limit file fault
unwritten limit file fault (inl refuses) = inl (unread limit file fault refuses)
unwritten limit file fault (inr many) = inr (many.0, says_more file many.1)

pub unstepped : FilesAreOnPlane 62 → (limit : ℕ) (file : List ℕ) (fault : Fault) → RefusesStepWithin limit file fault
    → IsClaimedUnread file fault ⊎ IsUnstepped file fault
unstepped on_plane limit file fault (inl refuses) = inl (inl (refuses_agree file fault refuses))
unstepped on_plane limit file fault (inr (inl w)) = inl (inr (wanted (NeedsMore (λ P. SomeOfStep P file)) limit fault w))
unstepped on_plane limit file fault (inr (inr h)) = inr (unstepped_is on_plane file h.0 fault h.1 h.2)

pub not_advanced : FilesAreOnPlane 62 → (n : ℕ) (file : List ℕ) (fault : Fault) → RefusesLater n file fault
    → IsClaimedUnread file fault ⊎ IsNotAdvanced n file fault
not_advanced on_plane n file fault (inl refuses) = inl (inl (refuses_agree file fault refuses))
not_advanced on_plane n file fault (inr (inl w)) = inl (inr w)
not_advanced on_plane n file fault (inr (inr h)) = inr (reason-of on_plane n file h.0 fault h.1 h.2)

-- ---- by a table

unstepped_by : TablesDecide → (layer : LayerTable) (table : Table) → IsTable layer table → (limit : ℕ) (file : List ℕ) (fault : Fault)
    → RefusesStepByWithin layer limit file fault → IsClaimedUnread file fault ⊎ IsUnsteppedBy table file fault
unstepped_by decide layer table is limit file fault (inl refuses) = inl (inl (refuses_agree file fault refuses))
unstepped_by decide layer table is limit file fault (inr (inl w)) =
    inl (inr (wanted (NeedsMore (λ P. SomeOfStepBy P layer file)) limit fault w))
unstepped_by decide layer table is limit file fault (inr (inr h)) = inr (unstepped_by_is decide layer table is file h.0 h.1 fault h.2)

-- what is reported of a step by a table
abbrev pub ReportedByTable : (file rules : List ℕ) (in_table : ℕ) (before after : List ℕ) → Reported → Type 0
ReportedByTable file rules in_table before after reported =
    ((in_table ≡ 0) × ((table : Table) × (table_of rules ≡ Ok table)
    × Returns (IsClaimedStepBy table file) (λ fault. IsClaimedUnread file fault ⊎ IsUnsteppedBy table file fault) before after reported))
    ⊎ ((in_table ≡ 1) × ((fault : Fault) × ((table_of rules ≡ Err fault) ⊎ (fault ≡ claimed_fault_of Memory)) × ReturnsFault fault before after reported))

untabled : TablesRefuse → (rules : List ℕ) (fault : Fault) → OrMemory fault (RefusesTable (lines_of rules) fault)
    → (table_of rules ≡ Err fault) ⊎ (fault ≡ claimed_fault_of Memory)
untabled refuse rules fault (inl memory) = inr memory
untabled refuse rules fault (inr refuses) = inl ((refuse rules fault).0 refuses)

pub by_table_so : FilesAreOnPlane 62 → TablesRead → TablesRefuse → TablesDecide
    → ((lines : List (List ℕ)) (layer : LayerTable) → IsPlainTable lines layer → AreTable lines layer)
    → (limit : ℕ) (file rules : List ℕ) (in_table : ℕ) (before after : List ℕ) (reported : Reported)
    → StepsByTable limit file rules in_table before after reported
    → ReportedByTable file rules in_table before after reported
by_table_so on_plane read refuse decide agree limit file rules in_table before after reported (by_table layer is zero answers) =
    let t = (read rules).0 layer (agree (lines_of rules) layer is) in
    inl (
      zero,
      (
        t.0,
        t.1,
        reworded answers (stepped_is decide layer t.0 t.2 on_plane file) (unstepped_by decide layer t.0 t.2 limit file),
      ),
    )
by_table_so on_plane read refuse decide agree limit file rules in_table before after reported (by_no_table fault why one tells) =
    inr (one, (fault, untabled refuse rules fault why, tells))

-- ---- two files

answer_so : FilesAreOnPlane 62 → (first second : List ℕ) → Accepted 62 first → Accepted 62 second → (is_same : ℕ) → IsAnswerOf first second is_same
    → ((is_same ≡ 1) × SayOnePattern first second) ⊎ ((is_same ≡ 0) × (SayOnePattern first second → ⊥))
answer_so on_plane first second a b is_same (inl h) = inl (h.0, same_to first second h.1)
answer_so on_plane first second a b is_same (inr h) = inr (h.0, λ s. h.1 (same_from on_plane first second a.0 b.0 a.1 b.1 s))

uncompared : (limit : ℕ) (first second : List ℕ) (fault : Fault) → RefusesEither limit first second fault
    → (pattern_of first ≡ Err fault)
    ⊎ ((IsOk (pattern_of first) × (pattern_of second ≡ Err fault)) ⊎ IsShortageBelow (squares_for first + squares_for second) limit fault)
uncompared limit first second fault (inl refuses) = inl (refuses_agree first fault refuses)
uncompared limit first second fault (inr (inl h)) = inr (inl (accepted_is_ok first h.0, refuses_agree second fault h.1))
uncompared limit first second fault (inr (inr w)) = inr (inr (want_below (IsTooLowForBoth first second) (squares_for first + squares_for second) limit fault
    (λ most low. low.1) w))

pub compared_so : FilesAreOnPlane 62 → (limit : ℕ) (first second : List ℕ) (reported : Compared) → ComparesWithin limit first second reported
    → reported.status ≡ 0
    → (reported.line ≡ 0) × IsOk (pattern_of first) × IsOk (pattern_of second)
    × (((reported.is_same ≡ 1) × SayOnePattern first second) ⊎ ((reported.is_same ≡ 0) × (SayOnePattern first second → ⊥)))
compared_so on_plane limit first second reported (by_answer status line a b answer) ok =
    (line, accepted_is_ok first a, accepted_is_ok second b, answer_so on_plane first second a b reported.is_same answer)
compared_so on_plane limit first second reported (comparing.by_fault fault status line none why) ok = no_text reported.status fault.kind status (inl ok)

pub uncompared_so : (limit : ℕ) (first second : List ℕ) (reported : Compared) → ComparesWithin limit first second reported → reported.status ≢ 0
    → (reported.is_same ≡ 0) × ((fault : Fault) × (reported.status ≡ kind_number fault.kind) × (reported.line ≡ fault.place.line)
    × ((pattern_of first ≡ Err fault)
    ⊎ ((IsOk (pattern_of first) × (pattern_of second ≡ Err fault)) ⊎ IsShortageBelow (squares_for first + squares_for second) limit fault)))
uncompared_so limit first second reported (by_answer status line a b answer) not = absurd (not status)
uncompared_so limit first second reported (comparing.by_fault fault status line none why) not =
    (none, (fault, status, line, uncompared limit first second fault why))

-- ---- which text

-- a status that is no fault's is that of the canonical text
pub text_so : FilesAreUnique 62 → (file text : List ℕ) {IsFault : Fault → Type 0} (before after : List ℕ) (reported : Reported) → IsCanonical 62 file text
    → Returns (LayerText file) IsFault before after reported → IsOfText reported.status → ReturnsText text before after reported
text_so unique file text before after reported c (by_text t is gives none) ok =
    subst (λ (it : List ℕ). ReturnsText it before after reported) (one_text unique file t text is.0 c) gives
text_so unique file text before after reported c (by_fault fault why tells) ok = no_text reported.status fault.kind tells.status ok

-- the lines count the node lines of the canonical text
pub counted_so : FilesAreOnPlane 62 → FilesAreUnique 62 → TextsAreFiles 62 → (file text : List ℕ) {IsFault : Fault → Type 0}
    (before after : List ℕ) (reported : Reported) → IsCanonical 62 file text → Returns (IsShownText 62 file) IsFault before after reported
    → IsOfText reported.status
    → (lines : List ℕ) × ReturnsText lines before after reported
    × ((pattern : Pattern) × (pattern_of file ≡ Ok pattern) × AreLines pattern (claimed_node_lines text) lines)
counted_so on_plane unique files file text before after reported c (by_text lines is gives none) ok =
    (lines, gives, shown_is on_plane unique files file lines text is c)
counted_so on_plane unique files file text before after reported c (by_fault fault why tells) ok = no_text reported.status fault.kind tells.status ok

-- ---- a text in the memory

take_prefix : (xs ys : List ℕ) → take (length xs) (xs ++ ys) ≡ xs
take_prefix [] ys = refl
take_prefix (x ∷ xs) ys = ap (λ (t : List ℕ). x ∷ t) (take_prefix xs ys)

-- the memory has one text of the length that is reported
one_copy : (s t before after : List ℕ) (reported : Reported) → ReturnsText s before after reported → ReturnsText t before after reported → reported.status ≡ 0
    → s ≡ t
one_copy s t before after reported g h ok = by g.1 h.1
  where
    lengths : length s ≡ length t
    lengths = sym g.0 ∙ h.0

    by : Copies s before after reported ⊎ LacksTextSpace s before after reported → Copies t before after reported ⊎ LacksTextSpace t before after reported
        → s ≡ t
    by (inl c) (inl d) =
        sym (take_prefix s (drop (length s) before)) ∙ ap (λ (b : List ℕ). take (length s) b) (sym c.copied ∙ d.copied)
        ∙ ap (λ n. take n (t ++ drop (length t) before)) lengths ∙ take_prefix t (drop (length t) before)
    by (inl c) (inr l) = let e : 0 ≡ 64 = sym ok ∙ l.status in absurd (omega (arith, e))
    by (inr l) d = let e : 0 ≡ 64 = sym ok ∙ l.status in absurd (omega (arith, e))

-- a text that is its own canonical text is so where it stands in the memory
pub fixed_so : {IsText : List ℕ → Type 0} {IsFault : Fault → Type 0} (text again : List ℕ) (before after : List ℕ) (reported : Reported)
    → ((it : List ℕ) → IsText it → IsCanonical 62 it again → it ≡ again) → Returns IsText IsFault before after reported → reported.status ≡ 0
    → ReturnsText text before after reported → IsCanonical 62 text again → again ≡ text
fixed_so text again before after reported fixed (by_text it is gives none) ok here c =
    let same : it ≡ text = one_copy it text before after reported gives here ok in
    sym (fixed it is (subst (λ (bytes : List ℕ). IsCanonical 62 bytes again) (sym same) c)) ∙ same
fixed_so text again before after reported fixed (by_fault fault why tells) ok here c = no_text reported.status fault.kind tells.status (inl ok)

pub fixed_by_so : FilesAreUnique 62 → (limit : ℕ) (file rules text again : List ℕ) (in_table : ℕ) (before after : List ℕ) (reported : Reported)
    → StepsByTable limit file rules in_table before after reported → reported.status ≡ 0 → ReturnsText text before after reported → IsCanonical 62 text again
    → again ≡ text
fixed_by_so unique limit file rules text again in_table before after reported (by_table layer is zero answers) ok here c =
    fixed_so text again before after reported (λ it stepped. next_by_is_fixed unique layer file it again stepped) answers ok here c
fixed_by_so unique limit file rules text again in_table before after reported (by_no_table fault why one tells) ok here c =
    no_text reported.status fault.kind tells.status (inl ok)
