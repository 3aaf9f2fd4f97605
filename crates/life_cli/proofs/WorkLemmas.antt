-- From the parts of a task to what it did, or why it is refused.
use Rattle.std.proofs.Common.{min, ◌≡◌, ◌≢◌, ◌<◌, ◌+◌, Contains, AllPairs, arith, ℕ, suc, ◌^◌, ◌⊎◌, inl, inr, List, [], Bool, true, false, Option, Some, None, IfSome, Result, Ok, Err, IfErr, IfOk, OnOk, IsErrAnd, ap, refl, IsTrue, ◌↔◌, subst, sym, ◌∙◌}
use Rattle.std.specs.Option.{option_map_or}
use Rattle.std.specs.Io.KnownBytes.{Appends}
use Rattle.life_base.specs.DeviceRuns.{SourceRun, SinkRun}
use Rattle.life_base.specs.Inputs.{ReadAll}
use Rattle.life_base.specs.Refusal.{fault_of, OrMemory}
use Rattle.life_base.specs.Text.{lines_of}
use Rattle.life_base.specs.Tree.{Tree, is_blank_tree}
use Rattle.life_base.specs.declared.cell.TheConstants.{MAX_LEVEL}
use Rattle.life_base.specs.declared.fault.Fault.{Fault}
use Rattle.life_base.specs.declared.kind.Kind.{Kind}
use Rattle.life_base.specs.declared.kind.Kind.TheVariants.{Full, Memory, OutOfPlane, TooManyCells, ReadFault, InputTooLong, WriteFault}
use Rattle.life_base.specs.declared.rule.Rule.{Rule}
use Rattle.life_quad.specs.Keeping.{AddsOnly}
use Rattle.life_quad.specs.Store.{Nodes, stored_squares}
use Rattle.life_pattern.specs.Files.{Accepted, Reads, Refuses, is_file_kind}
use Rattle.life_pattern.specs.Laws.{RefusalsHaveKinds}
use Rattle.life_pattern.specs.Store.{IsNew}
use Rattle.life_reader.specs.ReadWhole.{ReadsWhole}
use Rattle.life_reader.specs.Space.{IsSquareOfFile}
use Rattle.life_reader.specs.Reading.{AddsForRead, HasRead, ReadRefuses, ReadsPattern, ReadsSource}
use Rattle.life_reader.specs.Reading as reading
use Rattle.life_pattern.specs.Store.{IsRead, IsShortageOf, content}
use Rattle.life_writer.specs.Texts.{FileHasMoreCells, IsRleOf, IsShownText}
use Rattle.life_pattern.specs.Universe.{Universe, whole}
use Rattle.life_pattern.specs.declared.pattern.Pattern.{Pattern}
use Rattle.life_table.specs.Grammar.{IsPlainTable}
use Rattle.life_table.specs.Reading.{RefusesTable}
use Rattle.life_table.specs.declared.table.Table.{Table}
use Rattle.pattern_forms.specs.Words.{FaultOfTwo}
use Rattle.life_base.specs.declared.form.Form.{Form}
use Rattle.life_base.specs.declared.form.Form.TheVariants.{Placed, Moved, Turned, Phases}
use Rattle.command_line.specs.declared.plans.Task.{Task}
use Rattle.command_line.specs.declared.plans.Task.TheVariants.{Canon, Convert, Same, Show, ShowPeriod, Step, StepTable, Later, LaterTable}
use Rattle.command_line.specs.declared.plans.Target.TheVariants.{Rle, Mc}
use Rattle.pattern_sources.specs.declared.refusals.Refusal.{Refusal}
use Rattle.life_cli.specs.declared.jobs.Made.{Made}
use Rattle.life_cli.specs.declared.jobs.Made.TheVariants.{Comparison, Text}
use Rattle.pattern_sources.specs.Faults.{refusal_of}
use Rattle.pattern_forms.specs.InForm.{AreSameIn, ForEachTwoFiles, IsFirstToLack, OneFileLacksForm, RefusesFormFor, most_of_form}
use Rattle.pattern_sources.specs.Forms.{IsTextIn}
use Rattle.command_line.specs.Plans.{HasSecond}
use Rattle.life_cli.specs.Jobs.{WritesPlacedText, AreUncompared, IsUncompared, by_first, by_second, by_first_file, by_second_file, by_form, by_first_shortage, by_second_shortage, Compares, made_text, made_status, HasAnswer, TaskMakes, TaskWrites, Worked, IsWrittenInPart, FileRefuses, by_comparing, by_reading, by_writing, by_telling, HasTextLaterByTable, IsSteppedTimes, MadeOf, RefusesFor, RefusesLifeStep, RefusesGenerations, HasTable, HasNoTable, table_by_input, table_by_lines, table_by_memory, CanonRefuses, IsPatternIn, OfFile, OfOneFile, TaskRan, TaskRefuses, refusal_in}
use Rattle.life_generations.specs.Later.{IsTextLater}
use Rattle.life_periods.specs.OfFile.{IsShownWithPeriod, RefusesPeriod, RefusesPeriodOfFile}
use Rattle.life_step.specs.Refusals.{RefusesFile, RefusesPattern}
use Rattle.life_step.specs.Stepped.{IsStepped, IsSteppedBy}
use Rattle.pattern_sources.specs.Sources.{InputRefuses, by_length, by_source, HasNoText, by_input, by_file, by_want, RefusesInForm, AreOfInput, IsTooSmallFor, IsTooSmallToMake, IsShortageFor, IsCallShortage, RefusesMany, HasText, ComesOf}
use Rattle.pattern_sources.proofs.SourceLemmas.{holds_more, holds_one}
use Rattle.life_step.proofs.NeedFacts.{step-lacks}

-- no text for lack of memory, or with too many cells
pub refused_lines : {X : Type 0} (source : SourceRun) (r : Result X Fault) → IfErr r (λ fault. fault ≡ fault_of Memory)
    → IfErr r (HasNoText (Refuses MAX_LEVEL) source)
refused_lines source (Ok x) h = tt
refused_lines source (Err fault) h = by_want (inl h)

pub refused_rle : {X : Type 0} (source : SourceRun) (store : Nodes) (pattern : Pattern) (r : Result X Fault)
    → HasRead MAX_LEVEL (2 ^ 30) store source pattern
    → IfErr r (λ fault. (fault ≡ fault_of Memory)
    ⊎ ((fault ≡ fault_of TooManyCells) × ((b : List ℕ) → IsRead MAX_LEVEL b store pattern → FileHasMoreCells MAX_LEVEL b (2 ^ 20))))
    → IfErr r (HasNoText RefusesMany source)
refused_rle source store pattern (Ok x) has h = tt
refused_rle source store pattern (Err fault) has (inl memory) = by_want (inl memory)
refused_rle source store pattern (Err fault) has (inr many) = by_file has.bytes has.read (inr (many.0, many.1 has.bytes has.is))

-- a fault of a kind that isn't a file's is none of a file
pub no_file : (base : List Tree) (source : SourceRun) (store : Nodes) (fault : Fault) → RefusalsHaveKinds MAX_LEVEL → ReadRefuses MAX_LEVEL
    (2 ^ 30) store source fault
    → (fault ≡ fault_of Full → IsTooSmallFor base source store)
    → (fault.kind ≡ ReadFault) ⊎ ((fault.kind ≡ InputTooLong) ⊎ ((fault.kind ≡ Full) ⊎ (fault.kind ≡ Memory)))
    → InputRefuses source fault ⊎ IsShortageFor base source store fault
no_file base source store fault law (reading.by_file bytes read h) lacks k = absurd (other fault.kind (law (lines_of bytes) fault h).0 k)
  where
    other : (kind : Kind) → is_file_kind kind ≡ true → (kind ≡ ReadFault) ⊎ ((kind ≡ InputTooLong) ⊎ ((kind ≡ Full) ⊎ (kind ≡ Memory))) → ⊥
    other kind is (inl e) = let n : is_file_kind ReadFault ≡ true = subst (λ (k : Kind). is_file_kind k ≡ true) e is in cc
    other kind is (inr (inl e)) = let n : is_file_kind InputTooLong ≡ true = subst (λ (k : Kind). is_file_kind k ≡ true) e is in cc
    other kind is (inr (inr (inl e))) = let n : is_file_kind Full ≡ true = subst (λ (k : Kind). is_file_kind k ≡ true) e is in cc
    other kind is (inr (inr (inr e))) = let n : is_file_kind Memory ≡ true = subst (λ (k : Kind). is_file_kind k ≡ true) e is in cc
no_file base source store fault law (reading.by_want want) lacks k = inr (want, lacks)
no_file base source store fault law (reading.by_length is came) lacks k = inl (by_length is came)
no_file base source store fault law (reading.by_source is failed) lacks k = inl (by_source is failed)

-- a test that answers no
pub not_so : (answer : Bool) (P : Type 0) → IsTrue answer ↔ P → answer ≡ false → ¬ P
not_so true P is fails holds = absurd cc
not_so false P is fails holds = let bad : false ≡ true = is.1 holds in absurd cc

-- any other fault is one of the file
pub no_pattern : (of_second : Bool) (old store : Nodes) (source : SourceRun) (fault : Fault) → ReadRefuses MAX_LEVEL (2 ^ 30) store source fault
    → ¬ ((fault.kind ≡ ReadFault) ⊎ ((fault.kind ≡ InputTooLong) ⊎ ((fault.kind ≡ Full) ⊎ (fault.kind ≡ Memory))))
    → IsPatternIn of_second old store source (Err (refusal_in of_second fault))
no_pattern of_second old store source fault (reading.by_file bytes read h) other =
    record { bytes = bytes; read = read; pattern = tt; adds = tt; fault = (refl, (refl, h)) }
no_pattern of_second old store source fault (reading.by_want (inl memory)) other = absurd (other (inr (inr (inr (ap (λ (f : Fault). f.kind) memory)))))
no_pattern of_second old store source fault (reading.by_want (inr full)) other = absurd (other (inr (inr (inl (ap (λ (f : Fault). f.kind) full.0)))))
no_pattern of_second old store source fault (reading.by_length is came) other = absurd (other (inr (inl (ap (λ (f : Fault). f.kind) is))))
no_pattern of_second old store source fault (reading.by_source is failed) other = absurd (other (inl (ap (λ (f : Fault). f.kind) is)))

-- two files aren't compared
pub no_first_input : (form : Form) (first second : SourceRun) (store : Nodes) (refusal : Refusal) → store.limit ≡ 2 ^ 31
    → OfOneFile false (λ fault. InputRefuses first fault ⊎ IsShortageFor [] first store fault) refusal → IsUncompared form first second refusal
no_first_input form first second store refusal limit h = (h.1.0, by h.1.1)
  where
    by : InputRefuses first refusal.fault ⊎ IsShortageFor [] first store refusal.fault → AreUncompared form first second refusal.of_second refusal.fault
    by (inl unread) = by_first h.0 unread
    by (inr want) = by_first_shortage (inr (store, limit, want))

pub no_second_input : (form : Form) (first second : SourceRun) (a : List ℕ) (stored : List Tree) (store : Nodes) (refusal : Refusal)
    → ReadAll (2 ^ 30) first.before first.after a → AreOfInput [] first.before stored → store.limit ≡ 2 ^ 31
    → OfOneFile true (λ fault. InputRefuses second fault ⊎ IsShortageFor stored second store fault) refusal → IsUncompared form first second refusal
no_second_input form first second a stored store refusal read are limit h = (h.1.0, by h.1.1)
  where
    by : InputRefuses second refusal.fault ⊎ IsShortageFor stored second store refusal.fault
        → AreUncompared form first second refusal.of_second refusal.fault
    by (inl unread) = by_second h.0 a read unread
    by (inr want) = by_second_shortage a stored read are (inr (store, limit, want))

-- one of them is no file
pub no_first_file : (form : Form) (first second : SourceRun) (a b : List ℕ) (refusal : Refusal) → ReadAll (2 ^ 30) first.before first.after a
    → ReadAll (2 ^ 30) second.before second.after b → OfOneFile false (Refuses MAX_LEVEL a) refusal → IsUncompared form first second refusal
no_first_file form first second a b refusal one two h = (h.1.0, by_first_file h.0 a b one two h.1.1)

pub no_second_file : (form : Form) (first second : SourceRun) (a b : List ℕ) (refusal : Refusal) → ReadAll (2 ^ 30) first.before first.after a
    → ReadAll (2 ^ 30) second.before second.after b → Accepted MAX_LEVEL a → OfOneFile true (Refuses MAX_LEVEL b) refusal
    → IsUncompared form first second refusal
no_second_file form first second a b refusal one two is h = (h.1.0, by_second_file h.0 a b one two is h.1.1)

below_none : (k : ℕ) → k < 0 → ⊥
below_none k lt = omega (arith, lt)

-- no squares are those of an input
no_squares : (source : SourceRun) (bytes : List ℕ) → ReadAll (2 ^ 30) source.before source.after bytes → AreOfInput [] source.before []
no_squares source bytes read = record {
  bytes = bytes;
  left = source.after;
  came = read.consumed;
  distinct = λ i j d before within. absurd (below_none j within);
  not_blank = λ t is. absurd (below_none is.0 is.1);
  needed = λ t is. absurd (below_none is.0 is.1);
}

-- what a comparison answers is its status and its line
answers : (form : Form) (a b : List ℕ) (answer : Bool) → IsTrue answer ↔ AreSameIn form MAX_LEVEL a b
    → Compares form a b (made_status (Comparison answer)) (made_text (Comparison answer))
answers form a b true is = inl (refl, is.0 refl, refl)
answers form a b false is = inr (refl, (λ same. let bad : false ≡ true = is.1 same in absurd cc), refl)

compared_files : (form : Form) (first second : SourceRun) (a b : List ℕ) (answer : Bool) → ReadAll (2 ^ 30) first.before first.after a
    → ReadAll (2 ^ 30) second.before second.after b → Accepted MAX_LEVEL a → Accepted MAX_LEVEL b → ¬ OneFileLacksForm form MAX_LEVEL (2 ^ 21) a b
    → IsTrue answer ↔ AreSameIn form MAX_LEVEL a b → TaskMakes (Same form) first second (Comparison answer)
compared_files form first second a b answer one two first_is second_is have is = record {
  first_bytes = a;
  second_bytes = b;
  first_read = one;
  second_read = λ _. two;
  writes = (first_is, second_is, have, answers form a b answer is);
}

-- two files were read into one store of 2^31 squares, and their patterns compared in a form, or not
module _ (form : Form) (first second : SourceRun) (store : Nodes) (a b : List ℕ) (p q : Pattern) (limit : store.limit ≡ 2 ^ 31)
    (one : ReadAll (2 ^ 30) first.before first.after a) (two : ReadAll (2 ^ 30) second.before second.after b) (reads : IsRead MAX_LEVEL a store p)
    (others : IsRead MAX_LEVEL b store q) where
  pub compared_in : (r : Result Bool FaultOfTwo) (m : Result Made Refusal) → IfOk r (λ answer. m ≡ Ok (Comparison answer))
      → IfErr r (λ it. m ≡ Err (refusal_in it.of_second it.fault))
      → IfOk r (λ answer. ForEachTwoFiles store p q (λ f s. IsTrue answer ↔ AreSameIn form MAX_LEVEL f s))
      → OnOk r (ForEachTwoFiles store p q (λ f s. ¬ OneFileLacksForm form MAX_LEVEL (most_of_form store) f s))
      → IfOk m (TaskMakes (Same form) first second)
  compared_in (Ok answer) m made failed h have =
      subst (λ (v : Result Made Refusal). IfOk v (TaskMakes (Same form) first second)) (sym made)
      (compared_files form first second a b answer one two (reads.universe, reads.reads) (others.universe, others.reads)
      (subst (λ (n : ℕ). ¬ OneFileLacksForm form MAX_LEVEL (min (2 ^ 21) n) a b) limit (have a b reads others)) (h a b reads others))
  compared_in (Err it) m made failed h have = subst (λ (v : Result Made Refusal). IfOk v (TaskMakes (Same form) first second)) (sym failed) tt

  pub uncompared_in : (r : Result Bool FaultOfTwo) (m : Result Made Refusal) → IfOk r (λ answer. m ≡ Ok (Comparison answer))
      → IfErr r (λ it. m ≡ Err (refusal_in it.of_second it.fault))
      → IfErr r (λ it. OrMemory it.fault
      (ForEachTwoFiles store p q (λ f s. RefusesFormFor form (OneFileLacksForm form MAX_LEVEL (most_of_form store) f s) it.fault)))
      → IfErr r (λ it. it.fault ≡ fault_of OutOfPlane
      → ForEachTwoFiles store p q (λ f s. IsFirstToLack form MAX_LEVEL (most_of_form store) it.of_second f s))
      → IfErr m (IsUncompared form first second)
  uncompared_in (Ok answer) m made failed h whose = subst (λ (v : Result Made Refusal). IfErr v (IsUncompared form first second)) (sym made) tt
  uncompared_in (Err it) m made failed h whose =
      subst (λ (v : Result Made Refusal). IfErr v (IsUncompared form first second)) (sym failed) (refl, by h)
    where
      by : OrMemory it.fault (ForEachTwoFiles store p q (λ f s. RefusesFormFor form (OneFileLacksForm form MAX_LEVEL (most_of_form store) f s) it.fault))
          → AreUncompared form first second it.of_second it.fault
      by (inl memory) = by_second_shortage a [] one (no_squares first a one) (inl memory)
      by (inr refuses) =
          by_form a b one two (reads.universe, reads.reads) (others.universe, others.reads)
          (subst (λ (n : ℕ). RefusesFormFor form (OneFileLacksForm form MAX_LEVEL (min (2 ^ 21) n) a b) it.fault) limit (refuses a b reads others))
          (λ out. subst (λ (n : ℕ). IsFirstToLack form MAX_LEVEL (min (2 ^ 21) n) it.of_second a b) limit (whose out a b reads others))

-- Nothing comes of a pattern that isn't stepped. `Of` says of a property that a square has it which the step needs of a root under a rule.
module _ {X : Type 0} (Of : (Tree → Type 0) → Rule → Tree → Type 0) (refuses : List ℕ → Fault → Type 0) (source : SourceRun) (empty old new : Nodes)
    (pattern : Pattern) (none : stored_squares empty ≡ []) (has : ReadsWhole (2 ^ 30) empty old source pattern) (limit : new.limit ≡ 2 ^ 31)
    (distinct : AllPairs ◌≢◌ (stored_squares new)) (not_blank : (t : Tree) → Contains (stored_squares new) t → is_blank_tree t ≡ false)
    (adds : AddsOnly stored_squares (λ P. Of P pattern.rule (content old pattern.root)) old new) where
  pub refused_step : (r : Result X Fault)
      → IfErr r (λ fault. IsShortageOf new fault ⊎ ((bytes : List ℕ) → IsRead MAX_LEVEL bytes old pattern → refuses bytes fault))
      → (r ≡ Err (fault_of Full) → Of (IsNew new) pattern.rule (content old pattern.root))
      → IfErr r (HasNoText (λ bytes fault. Refuses MAX_LEVEL bytes fault
      ⊎ (IsCallShortage (IsSquareOfFile bytes) (λ P. (u : Universe) × Reads MAX_LEVEL bytes u × Of P u.rule (whole MAX_LEVEL u)) fault ⊎ refuses bytes fault))
      source)
  refused_step (Ok x) h needed = tt
  refused_step (Err fault) (inl want) needed =
      let to_file : (P : Tree → Type 0) → Of P pattern.rule (content old pattern.root)
      → (u : Universe) × Reads MAX_LEVEL has.bytes u × Of P u.rule (whole MAX_LEVEL u) = λ P s. step-lacks (Of P) has.bytes old pattern has.is s in
      let too_small : fault ≡ fault_of Full
      → IsTooSmallToMake (IsSquareOfFile has.bytes) (λ P. (u : Universe) × Reads MAX_LEVEL has.bytes u × Of P u.rule (whole MAX_LEVEL u)) new = λ full. record {
        distinct = distinct;
        not_blank = not_blank;
        needed = holds_more (IsSquareOfFile has.bytes) (λ P. Of P pattern.rule (content old pattern.root))
            (λ P. (u : Universe) × Reads MAX_LEVEL has.bytes u × Of P u.rule (whole MAX_LEVEL u)) old new
            (holds_one has.bytes empty old none has.adds) to_file adds;
        lacks = to_file (IsNew new) (needed (ap (λ (f : Fault). Err f) full));
      } in
      by_file has.bytes has.read (inr (inl (new, limit, want, too_small)))
  refused_step (Err fault) (inr step) needed = by_file has.bytes has.read (inr (inr (step has.bytes has.is)))

-- nothing comes of a pattern that isn't taken further
pub refused_pattern : {X : Type 0} (Reason : Universe → Option Fault → Type 0) (source : SourceRun) (empty old new : Nodes) (pattern : Pattern)
    → ReadsWhole (2 ^ 30) empty old source pattern → new.limit ≡ 2 ^ 31 → (r : Result X Fault) → IfErr r (RefusesPattern Reason pattern old new)
    → IfErr r (HasNoText (RefusesFor Reason) source)
refused_pattern Reason source empty old new pattern has limit (Ok x) h = tt
refused_pattern Reason source empty old new pattern has limit (Err fault) (inl want) = by_file has.bytes has.read (inr (inl (new, limit, want)))
refused_pattern Reason source empty old new pattern has limit (Err fault) (inr why) = by_file has.bytes has.read (inr (inr (why has.bytes has.is)))

-- nothing comes of a pattern whose period isn't found
pub refused_period : {X : Type 0} (most : ℕ) (source : SourceRun) (store : Nodes) (pattern : Pattern) (r : Result X Fault)
    → HasRead MAX_LEVEL (2 ^ 30) store source pattern → IfErr r (RefusesPeriod most store pattern) → IfErr r (HasNoText (RefusesPeriodOfFile most) source)
refused_period most source store pattern (Ok x) has h = tt
refused_period most source store pattern (Err fault) has (inl want) = by_file has.bytes has.read (inr (inl want))
refused_period most source store pattern (Err fault) has (inr why) = by_file has.bytes has.read (inr (inr (why has.bytes has.is)))

-- a text isn't stepped in a store of 2^31 squares
pub refused_for : (Reason : Universe → Option Fault → Type 0) (text : List ℕ) (store : Nodes) (fault : Fault) → store.limit ≡ 2 ^ 31
    → RefusesFile Reason text store fault → RefusesFor Reason text fault
refused_for Reason text store fault limit (inl refuses) = inl refuses
refused_for Reason text store fault limit (inr (inl want)) = inr (inl (store, limit, want))
refused_for Reason text store fault limit (inr (inr why)) = inr (inr why)

-- a pattern as it lies has a text
pub placed_refused : (source : SourceRun) (fault : Fault) → HasNoText (RefusesInForm Placed) source fault → HasNoText (Refuses MAX_LEVEL) source fault
placed_refused source fault (by_input h) = by_input h
placed_refused source fault (by_file bytes read (inl refuses)) = by_file bytes read refuses
placed_refused source fault (by_file bytes read (inr large)) = absurd large.1.2
placed_refused source fault (by_want want) = by_want want

-- one step more
pub steps_more : (table : Table) (n : ℕ) (bytes before text : List ℕ) → IsSteppedTimes table n bytes before → IsSteppedBy table before text
    → IsSteppedTimes table (n + 1) bytes text
steps_more table n bytes before text stepped step =
    let e : suc n ≡ n + 1 = omega arith in
    subst (λ (m : ℕ). IsSteppedTimes table m bytes text) e (before, stepped, step)

-- a file gives a table, or none
pub no_table_input : (source : SourceRun) (fault : Fault) → InputRefuses source fault ⊎ (fault ≡ fault_of Memory) → HasNoTable source fault
no_table_input source fault (inl unread) = table_by_input unread
no_table_input source fault (inr memory) = table_by_memory memory

of_table : (source : SourceRun) (bytes : List ℕ) (fault : Fault) → ReadAll (2 ^ 30) source.before source.after bytes
    → OrMemory fault (RefusesTable (lines_of bytes) fault) → HasNoTable source fault
of_table source bytes fault read (inl memory) = table_by_memory memory
of_table source bytes fault read (inr refuses) = table_by_lines bytes read refuses

pub refused_table : {X : Type 0} (source : SourceRun) (bytes : List ℕ) (r : Result X Fault) → ReadAll (2 ^ 30) source.before source.after bytes
    → IfErr r (λ fault. OrMemory fault (RefusesTable (lines_of bytes) fault)) → IfErr r (HasNoTable source)
refused_table source bytes (Ok x) read h = tt
refused_table source bytes (Err fault) read h = of_table source bytes fault read h

pub read_as_table : (source : SourceRun) (bytes : List ℕ) (r : Result Table Fault) → ReadAll (2 ^ 30) source.before source.after bytes
    → IfOk r (IsPlainTable (lines_of bytes)) → IfOk r (HasTable source)
read_as_table source bytes (Ok table) read is = record { bytes = bytes; read = read; is = is }
read_as_table source bytes (Err fault) read is = tt

-- a text that was made of the first file, and of what was read of the second one
made_of_file : (gives : List ℕ → List ℕ → Type 0) (task : Task) (first second : SourceRun) (others text : List ℕ)
    → HasText gives first text → (HasSecond task → ReadAll (2 ^ 30) second.before second.after others)
    → ((bytes : List ℕ) → gives bytes text → TaskWrites task bytes others 0 text) → HasAnswer task first second 0 text
made_of_file gives task first second others text has read is = record {
  first_bytes = has.bytes;
  second_bytes = others;
  first_read = has.read;
  second_read = read;
  writes = is has.bytes has.is;
}

-- a source that is absent, or works, has not failed
pub none_failed : {B : Type 0} (failures : B → ℕ) (o : Option B) → IfSome o (λ b. failures b ≡ 0) → option_map_or failures o 0 ≡ 0
none_failed failures None works = refl
none_failed failures (Some b) works = works

-- what comes of the text of a task over one file
pub made_of_text : {X : Type 0} (make : X → Made) (items : X → List ℕ) (gives : List ℕ → List ℕ → Type 0) (refuses : List ℕ → Fault → Type 0)
    (task : Task) (first second : SourceRun) (r : Result X Fault) (m : Result Made Refusal)
    → ((x : X) → (made_status (make x) ≡ 0) × (made_text (make x) ≡ items x)) → second.failures ≡ 0 → ¬ HasSecond task
    → ((bytes text : List ℕ) → gives bytes text → TaskWrites task bytes [] 0 text)
    → ((output : SinkRun) (refusal : Refusal) → OfFile (HasNoText refuses first) refusal → TaskRefuses task first second output refusal)
    → ComesOf items gives refuses first r → IfOk r (λ x. m ≡ Ok (make x)) → IfErr r (λ f. m ≡ Err (refusal_of f)) → MadeOf task first second m
made_of_text make items gives refuses task first second (Ok x) m is works alone writes refused comes made failed =
    let answer = made_of_file gives task first second [] (items x) comes.ok (λ has. absurd (alone has)) (λ bytes. writes bytes (items x)) in
    let reported = subst (HasAnswer task first second 0) (sym (is x).1) answer in
    subst (MadeOf task first second) (sym made) (record {
      ok = subst (λ n. HasAnswer task first second n (made_text (make x))) (sym (is x).0) reported;
      err = tt;
      reported = λ e. elim e [
        | inl f ↦ absurd (comes.reported f)
        | inr f ↦ let bad : 0 ≡ 1 = sym works ∙ f in absurd cc
      ];
    })
made_of_text make items gives refuses task first second (Err fault) m is works alone writes refused comes made failed =
    subst (MadeOf task first second) (sym failed) (record {
      ok = tt;
      err = λ output. refused output (refusal_of fault) (refl, comes.err);
      reported = λ e. elim e [
        | inl f ↦ comes.reported f
        | inr f ↦ let bad : 0 ≡ 1 = sym works ∙ f in absurd cc
      ];
    })

-- of a comparison
pub made_of_comparison : (form : Form) (first second : SourceRun) (m : Result Made Refusal) → IfOk m (TaskMakes (Same form) first second)
    → IfErr m (IsUncompared form first second)
    → ((first.failures ≡ 1) ⊎ (second.failures ≡ 1) → IsErrAnd m (λ refusal. refusal.fault.kind ≡ ReadFault)) → MadeOf (Same form) first second m
made_of_comparison form first second (Ok made) makes refuses reported = record { ok = makes; err = tt; reported = reported }
made_of_comparison form first second (Err refusal) makes refuses reported =
    record { ok = tt; err = λ output. (refuses.0, by_comparing refuses.1); reported = reported }

-- of a task by a table, where `gives` relates the bytes of a file to its text by a table
pub made_of_step : {X : Type 0} (make : X → Made) (items : X → List ℕ) (gives : Table → List ℕ → List ℕ → Type 0) (refuses : Refusal → Type 0)
    (task : Task) (first second : SourceRun) (r : Result X Refusal) (m : Result Made Refusal)
    → ((x : X) → (made_status (make x) ≡ 0) × (made_text (make x) ≡ items x))
    → ((table : Table) (bytes others text : List ℕ) → IsPlainTable (lines_of others) table → gives table bytes text → TaskWrites task bytes others 0 text)
    → ((output : SinkRun) (refusal : Refusal) → refuses refusal → TaskRefuses task first second output refusal)
    → IfOk r (λ x. (table : Table) × HasTable second table × HasText (gives table) first (items x)) → IfErr r refuses
    → ((first.failures ≡ 1) ⊎ (second.failures ≡ 1) → IsErrAnd r (λ refusal. refusal.fault.kind ≡ ReadFault))
    → IfOk r (λ x. m ≡ Ok (make x)) → IfErr r (λ refusal. m ≡ Err refusal) → MadeOf task first second m
made_of_step make items gives refuses task first second (Ok x) m is writes refused has none reported made failed =
    let answer = made_of_file (gives has.0) task first second has.1.bytes (items x) has.2 (λ _. has.1.read)
    (λ bytes stepped. writes has.0 bytes has.1.bytes (items x) has.1.is stepped) in
    let text = subst (HasAnswer task first second 0) (sym (is x).1) answer in
    subst (MadeOf task first second) (sym made) (record {
      ok = subst (λ n. HasAnswer task first second n (made_text (make x))) (sym (is x).0) text;
      err = tt;
      reported = λ e. absurd (reported e);
    })
made_of_step make items gives refuses task first second (Err refusal) m is writes refused has none reported made failed =
    subst (MadeOf task first second) (sym failed) (record { ok = tt; err = λ output. refused output refusal none; reported = reported })

-- what was made is written: the task is done
worked : (task : Task) (first second : SourceRun) (output : SinkRun) (made : Made) → TaskMakes task first second made
    → Appends output.before output.after (made_text made) → Worked task (made_status made) first second output
worked task first second output made makes written = record { text = made_text made; answer = makes; written = written }

-- it could not be written
broken_text : (gives : List ℕ → List ℕ → Type 0) (refuses : List ℕ → Fault → Type 0) (source : SourceRun) (output : SinkRun) (bytes text : List ℕ)
    (fault : Fault) → ReadAll (2 ^ 30) source.before source.after bytes → gives bytes text → IsWrittenInPart output text fault
    → FileRefuses gives refuses source output fault
broken_text gives refuses source output bytes text fault read is broken = by_writing text (record { bytes = bytes; read = read; is = is }) broken

unwritten : (task : Task) (first second : SourceRun) (output : SinkRun) (made : Made) (refusal : Refusal) → ¬ WritesPlacedText task
    → TaskMakes task first second made → OfFile (IsWrittenInPart output (made_text made)) refusal → TaskRefuses task first second output refusal
unwritten (Canon Placed) first second output made refusal other makes broken = absurd (other tt)
unwritten (Canon Moved) first second output made refusal other makes broken =
    (broken.0, broken_text (IsTextIn Moved MAX_LEVEL) (RefusesInForm Moved) first output _ _ refusal.fault makes.first_read makes.writes.1 broken.1)
unwritten (Canon Turned) first second output made refusal other makes broken =
    (broken.0, broken_text (IsTextIn Turned MAX_LEVEL) (RefusesInForm Turned) first output _ _ refusal.fault makes.first_read makes.writes.1 broken.1)
unwritten (Canon (Phases most)) first second output made refusal other makes broken = (
  broken.0,
  broken_text (IsTextIn (Phases most) MAX_LEVEL) (RefusesInForm (Phases most)) first output _ _ refusal.fault makes.first_read makes.writes.1
      broken.1,
)
unwritten (Convert Rle) first second output made refusal other makes broken =
    (broken.0, broken_text (IsRleOf MAX_LEVEL (2 ^ 20)) RefusesMany first output _ _ refusal.fault makes.first_read makes.writes.1 broken.1)
unwritten (Convert Mc) first second output made refusal other makes broken = absurd (other tt)
unwritten (Same form) first second output made refusal other makes broken = (broken.0, by_telling _ _ makes broken.1)
unwritten Show first second output made refusal other makes broken =
    (broken.0, broken_text (IsShownText MAX_LEVEL) (Refuses MAX_LEVEL) first output _ _ refusal.fault makes.first_read makes.writes.1 broken.1)
unwritten (ShowPeriod most) first second output made refusal other makes broken =
    (broken.0, broken_text (IsShownWithPeriod most) (RefusesPeriodOfFile most) first output _ _ refusal.fault makes.first_read makes.writes.1 broken.1)
unwritten Step first second output made refusal other makes broken =
    (broken.0, broken_text IsStepped RefusesLifeStep first output _ _ refusal.fault makes.first_read makes.writes.1 broken.1)
unwritten StepTable first second output made refusal other makes broken =
    let table = makes.writes.1.0 in
    let has : HasTable second table = record { bytes = makes.second_bytes; read = makes.second_read tt; is = makes.writes.1.1 } in
    let stepped : HasText (IsSteppedBy table) first (made_text made) =
    record { bytes = makes.first_bytes; read = makes.first_read; is = makes.writes.1.2 } in
    inr (broken.0, (made_text made, (table, has, stepped), broken.1))
unwritten (Later n) first second output made refusal other makes broken =
    (broken.0, broken_text (IsTextLater n) (RefusesGenerations n) first output _ _ refusal.fault makes.first_read makes.writes.1 broken.1)
unwritten (LaterTable n) first second output made refusal other makes broken =
    let table = makes.writes.1.0 in
    let has : HasTable second table = record { bytes = makes.second_bytes; read = makes.second_read tt; is = makes.writes.1.1 } in
    let stepped : HasText (IsSteppedTimes table n) first (made_text made) =
    record { bytes = makes.first_bytes; read = makes.first_read; is = makes.writes.1.2 } in
    inr (broken.0, (made_text made, (table, has, stepped), broken.1))

-- nothing comes of a pattern in a form
pub refused_form : (form : Form) (first second : SourceRun) (output : SinkRun) (refusal : Refusal) → ¬ WritesPlacedText (Canon form)
    → OfFile (HasNoText (RefusesInForm form) first) refusal → TaskRefuses (Canon form) first second output refusal
refused_form Placed first second output refusal other h = absurd (other tt)
refused_form Moved first second output refusal other h = (h.0, by_reading h.1)
refused_form Turned first second output refusal other h = (h.0, by_reading h.1)
refused_form (Phases most) first second output refusal other h = (h.0, by_reading h.1)

-- a task that writes the canonical text of its file's pattern as that lies
canonical_as : (task : Task) (first second : SourceRun) (output : SinkRun) → WritesPlacedText task → Worked (Canon Placed) 0 first second output
    → Worked task 0 first second output
canonical_as (Canon Placed) first second output is done = done
canonical_as (Canon Moved) first second output is done = absurd is
canonical_as (Canon Turned) first second output is done = absurd is
canonical_as (Canon (Phases most)) first second output is done = absurd is
canonical_as (Convert Rle) first second output is done = absurd is
canonical_as (Convert Mc) first second output is done = record {
  text = done.text;
  answer = record {
    first_bytes = done.answer.first_bytes;
    second_bytes = done.answer.second_bytes;
    first_read = done.answer.first_read;
    second_read = done.answer.second_read;
    writes = done.answer.writes;
  };
  written = done.written;
}
canonical_as (Same form) first second output is done = absurd is
canonical_as Show first second output is done = absurd is
canonical_as (ShowPeriod most) first second output is done = absurd is
canonical_as Step first second output is done = absurd is
canonical_as StepTable first second output is done = absurd is
canonical_as (Later n) first second output is done = absurd is
canonical_as (LaterTable n) first second output is done = absurd is

worked_canonical : (task : Task) (first second : SourceRun) (output : SinkRun) (r : Result ℕ Refusal) → WritesPlacedText task
    → IfOk r (λ status. status ≡ 0) → OnOk r ((second : SourceRun) → Worked (Canon Placed) 0 first second output)
    → IfOk r (λ status. Worked task status first second output)
worked_canonical task first second output (Ok status) is zero done =
    let P : ℕ → Type 0 = λ n. Worked task n first second output in subst P (sym zero) (canonical_as task first second output is (done second))
worked_canonical task first second output (Err refusal) is zero done = tt

-- and its refusal
canonical_refused : (task : Task) (first second : SourceRun) (output : SinkRun) (refusal : Refusal) → WritesPlacedText task
    → OfFile (CanonRefuses first output) refusal → TaskRefuses task first second output refusal
canonical_refused (Canon Placed) first second output refusal is refused = refused
canonical_refused (Canon Moved) first second output refusal is refused = absurd is
canonical_refused (Canon Turned) first second output refusal is refused = absurd is
canonical_refused (Canon (Phases most)) first second output refusal is refused = absurd is
canonical_refused (Convert Rle) first second output refusal is refused = absurd is
canonical_refused (Convert Mc) first second output refusal is refused = refused
canonical_refused (Same form) first second output refusal is refused = absurd is
canonical_refused Show first second output refusal is refused = absurd is
canonical_refused (ShowPeriod most) first second output refusal is refused = absurd is
canonical_refused Step first second output refusal is refused = absurd is
canonical_refused StepTable first second output refusal is refused = absurd is
canonical_refused (Later n) first second output refusal is refused = absurd is
canonical_refused (LaterTable n) first second output refusal is refused = absurd is

small_status : (made : Made) → made_status made < 2
small_status (Text text) = omega arith
small_status (Comparison true) = omega arith
small_status (Comparison false) = omega arith

-- what became of a task that writes that text
pub ran_canonical : (task : Task) (first second : SourceRun) (output : SinkRun) (r : Result ℕ Refusal) → WritesPlacedText task → second.failures ≡ 0
    → IfOk r (λ status. status ≡ 0) → OnOk r ((second : SourceRun) → Worked (Canon Placed) 0 first second output)
    → IfErr r (OfFile (CanonRefuses first output)) → (first.failures ≡ 1 → IsErrAnd r (λ refusal. refusal.fault.kind ≡ ReadFault))
    → ((output.failures ≡ 1) ⊎ (output.stalled ≡ true) → IsErrAnd r (λ refusal. refusal.fault.kind ≡ WriteFault))
    → TaskRan task first second output r
ran_canonical task first second output (Ok status) is works zero done refused reported broken = record {
  done = (omega (arith, zero), worked_canonical task first second output (Ok status) is zero done);
  refused = tt;
  read_reported = λ e. elim e [
    | inl f ↦ absurd (reported f)
    | inr f ↦ let bad : 0 ≡ 1 = sym works ∙ f in absurd cc
  ];
  write_reported = broken;
}
ran_canonical task first second output (Err refusal) is works zero done refused reported broken = record {
  done = tt;
  refused = canonical_refused task first second output refusal is refused;
  read_reported = λ e. elim e [
    | inl f ↦ reported f
    | inr f ↦ let bad : 0 ≡ 1 = sym works ∙ f in absurd cc
  ];
  write_reported = broken;
}

-- of one that made nothing
pub ran_unmade : (task : Task) (first second : SourceRun) (output : SinkRun) (refusal : Refusal) → MadeOf task first second (Err refusal)
    → output.failures ≡ 0 → output.stalled ≡ false → TaskRan task first second output (Err refusal)
ran_unmade task first second output refusal makes works takes = record {
  done = tt;
  refused = makes.err output;
  read_reported = makes.reported;
  write_reported = λ e. elim e [
    | inl f ↦ let bad : 0 ≡ 1 = sym works ∙ f in absurd cc
    | inr f ↦ let bad : false ≡ true = sym takes ∙ f in absurd cc
  ];
}

-- of one whose text could not be written
pub ran_unwritten : (task : Task) (first second : SourceRun) (output : SinkRun) (made : Made) (refusal : Refusal) → ¬ WritesPlacedText task
    → MadeOf task first second (Ok made) → OfFile (IsWrittenInPart output (made_text made)) refusal → TaskRan task first second output (Err refusal)
ran_unwritten task first second output made refusal other makes broken = record {
  done = tt;
  refused = unwritten task first second output made refusal other makes.ok broken;
  read_reported = λ e. absurd (makes.reported e);
  write_reported = λ e. ap (λ (fault : Fault). fault.kind) broken.1.is;
}

-- of one that was done
pub ran_done : (task : Task) (first second : SourceRun) (output : SinkRun) (made : Made) → MadeOf task first second (Ok made)
    → Appends output.before output.after (made_text made) → ((output.failures ≡ 1) ⊎ (output.stalled ≡ true) → ⊥)
    → TaskRan task first second output (Ok (made_status made))
ran_done task first second output made makes written works = record {
  done = (small_status made, worked task first second output made makes.ok written);
  refused = tt;
  read_reported = λ e. absurd (makes.reported e);
  write_reported = works;
}
