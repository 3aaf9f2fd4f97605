-- Why a task is refused, in the words of the claims.
use Rattle.std.proofs.Common.{◌≡◌, ℕ, ◌^◌, List, [], ◌++◌, take, Bool, true, false, refl, ap, ◌∙◌, sym, subst, ◌⊎◌, inl, inr, codes, Option, Some, None, Ok, Err, IsOk, IfSome, IsSomeAnd}
use Rattle.std.specs.Option.{option_map_or}
use Rattle.life_base.specs.DeviceRuns.{SourceRun, SinkRun}
use Rattle.life_base.specs.Inputs.{ReadAll, CameBeyond}
use Rattle.life_base.specs.Kinds.{kind_name}
use Rattle.life_base.specs.Text.{lines_of}
use Rattle.life_base.specs.Writing.{WritesPrefix}
use Rattle.life_base.specs.Tree.{Tree}
use Rattle.life_base.specs.declared.fault.Fault.{Fault}
use Rattle.life_base.specs.declared.kind.Kind.{Kind}
use Rattle.life_base.specs.declared.kind.Kind.TheVariants as kinds
use Rattle.life_quad.specs.Store.{Nodes}
use Rattle.life_table.specs.Reading.{is_table_kind}
use Rattle.life_table.specs.declared.table.Table.{Table as LayerTable}
use Rattle.life_pattern.specs.Files.{Refuses as LayerRefuses, is_file_kind}
use Rattle.life_canon.specs.Running.{RunRefuses}
use Rattle.life_reader.specs.Reading.{ReadRefuses}
use Rattle.life_canon.specs.Running as running
use Rattle.life_reader.specs.Reading as reading
use Rattle.life_writer.specs.Texts.{IsCanonical, IsRleOf, IsShownText as LayerShown}
use Rattle.life_generations.specs.Later.{IsTextLater}
use Rattle.life_periods.specs.OfFile.{IsShownWithPeriod, RefusesPeriodOfFile}
use Rattle.life_step.specs.Stepped.{IsStepped as LayerStepped}
use Rattle.pattern_sources.specs.Faults.{is_of_table, place_text, Reports, fault_line as layer_line, status_of as layer_status}
use Rattle.life_cli.specs.Jobs as layer
use Rattle.pattern_sources.specs.Sources as sources
use Rattle.command_line.specs.Plans.{HasSecond as LayerSecond}
use Rattle.pattern_forms.specs.InForm.{RefusesFormFor}
use Rattle.pattern_sources.specs.Forms.{IsTextIn as LayerTextIn, LacksForm}
use Rattle.life_base.specs.declared.form.Form.{Form}
use Rattle.life_base.specs.declared.form.Form.TheVariants.{Placed, Moved, Turned, Phases}
use Rattle.command_line.specs.declared.plans.Task.{Task}
use Rattle.command_line.specs.declared.plans.Task.TheVariants as tasks
use Rattle.command_line.specs.declared.plans.Target.TheVariants.{Rle, Mc}
use Rattle.pattern_sources.specs.declared.refusals.Refusal.{Refusal}
use Rattle.claims.specs.Pattern.{Pattern}
use Rattle.claims.specs.Files.{pattern_of, claimed_fault_of, IsShortage}
use Rattle.claims.specs.Generation.{SaysMoreCells, IsUnstepped, IsFirstReason}
use Rattle.claims.specs.Generation as steps
use Rattle.claims.specs.Table.{Table, table_of}
use Rattle.claims.specs.ByTable.{IsUnsteppedBy, IsFirstReasonBy}
use Rattle.claims.specs.ByTable as table_steps
use Rattle.generation_theorems.specs.ManyGenerations.{IsFirstReasonWithin, IsNotAdvanced}
use Rattle.generation_theorems.specs.ManyGenerations as many
use Rattle.generation_theorems.proofs.FurtherLaw.{reason-of}
use Rattle.theorems.proofs.CellsLaw.{says_more}
use Rattle.theorems.proofs.FileLaw.{files_agree}
use Rattle.theorems.proofs.RefusalLaw.{refuses_agree, want_as, accepted_is_ok}
use Rattle.theorems.proofs.StreamLaw.{all_read, appended, beyond}
use Rattle.theorems.proofs.StepBy as by_table
use Rattle.claims.specs.Tables.{IsTable}
use Rattle.theorems.proofs.StepLaw.{unstepped_is}
use Rattle.program_theorems.proofs.AnswerLaw.{own_times, times}
use Rattle.program_theorems.proofs.FormLaw.{related_to}
use Rattle.program_theorems.proofs.PatternLaw.{said}
use Rattle.program_theorems.proofs.PeriodLaw.{period-reason_of}
use Rattle.program_theorems.proofs.PhaseLaw.{either-to, lacks-to}
use Rattle.program_theorems.specs.Jobs.{AreClaimedSteps, HasClaimedSecond, IsShortFile, RefusesTask, RefusesClaimedMany, IsReason, of_files, of_want, of_length, of_source, of_sink, DeviceHolds}
use Rattle.program_theorems.specs.Forms.{FileLacksClaimedForm, OneFileLacksClaimedForm}
use Rattle.program_theorems.specs.Layers.{LayersAgree}
use Rattle.program_theorems.specs.Periods.{HasNoClaimedPeriod, IsPeriodReason, no_table_for_period, leaves_from_middle}
use Rattle.program_theorems.specs.Faults.{claimed_fault_line, claimed_status_of}

-- ---- kinds

file_line : (k : Kind) → is_file_kind k ≡ true → is_of_table false k ≡ false
file_line kinds.NoRuleLine h = cc
file_line kinds.NoTable h = cc
file_line kinds.BadDescriptor h = cc
file_line kinds.UnsupportedNeighborhood h = cc
file_line kinds.UnsupportedSymmetry h = cc
file_line kinds.BadVariable h = cc
file_line kinds.BadTransition h = cc
file_line kinds.UnboundOutput h = cc
file_line kinds.NotQuiet h = cc
file_line kinds.Ambiguous h = cc
file_line _ h = refl

table_line : (k : Kind) → is_table_kind k ≡ true → is_of_table true k ≡ true
table_line kinds.LineTooLong h = refl
table_line kinds.Ambiguous h = refl
table_line _ h = h

no_write_in : (p : Kind → Bool) (k : Kind) → p kinds.WriteFault ≡ false → p k ≡ true → k ≡ kinds.WriteFault → ⊥
no_write_in p k other h e = let n : true ≡ false = sym h ∙ ap p e ∙ other in cc

other_kind : (fault : Fault) (k : Kind) → fault ≡ claimed_fault_of k → (k ≡ kinds.WriteFault → ⊥) → fault.kind ≡ kinds.WriteFault → ⊥
other_kind fault k is other e = other (sym (ap (λ (f : Fault). f.kind) is) ∙ e)

-- a fault of no line, whose kind isn't that of a sink
record IsPlaceless (fault : Fault) : Type 0 where
  pub line : fault.place.line ≡ 0
  pub kind : fault.kind ≡ kinds.WriteFault → ⊥

placeless_reason : (now : Pattern) (fault : Fault) → IsFirstReason now fault → IsPlaceless fault
placeless_reason now _ (steps.no_table name r) = record { line = refl; kind = λ e. cc }
placeless_reason now _ (steps.last_generation n b s r g) = record { line = refl; kind = λ e. cc }
placeless_reason now _ (steps.many_cells n b s r g m) = record { line = refl; kind = λ e. cc }
placeless_reason now _ (steps.leaves_plane n b s r g f l) = record { line = refl; kind = λ e. cc }

placeless_later : (n : ℕ) (now : Pattern) (fault : Fault) → IsFirstReasonWithin n now fault → IsPlaceless fault
placeless_later n now _ (many.no_table_for name r some) = record { line = refl; kind = λ e. cc }
placeless_later n now _ (many.beyond_last_generation m b s r large) = record { line = refl; kind = λ e. cc }
placeless_later n now _ (many.leaves_plane_within m b s r small leaves) = record { line = refl; kind = λ e. cc }

placeless_period : (most : ℕ) (now : Pattern) (fault : Fault) → IsPeriodReason most now fault → IsPlaceless fault
placeless_period most now _ (no_table_for_period name r) = record { line = refl; kind = λ e. cc }
placeless_period most now _ (leaves_from_middle n b s r leaves) = record { line = refl; kind = λ e. cc }

-- a fault of no line or of one of a table, whose kind isn't that of a sink
record IsOfTable (fault : Fault) : Type 0 where
  pub line : (is_of_table false fault.kind ≡ true) ⊎ (fault.place.line ≡ 0)
  pub kind : fault.kind ≡ kinds.WriteFault → ⊥

table_reason : (table : Table) (now : Pattern) (fault : Fault) → IsFirstReasonBy table now fault → IsOfTable fault
table_reason table now _ (table_steps.rule_differs r) = record { line = inr refl; kind = λ e. cc }
table_reason table now _ (table_steps.last_generation r g) = record { line = inr refl; kind = λ e. cc }
table_reason table now _ (table_steps.many_cells r g m) = record { line = inr refl; kind = λ e. cc }
table_reason table now _ (table_steps.state_beyond r g m s) = record { line = inr refl; kind = λ e. cc }
table_reason table now _ (table_steps.two_states r g m s line a) = record { line = inl refl; kind = λ e. cc }
table_reason table now _ (table_steps.leaves_plane r g m s a l) = record { line = inr refl; kind = λ e. cc }

-- ---- lines

line_of : (refusal : Refusal) (of_table : Bool) → is_of_table refusal.in_table refusal.fault.kind ≡ of_table
    → layer_line refusal ≡ claimed_fault_line of_table refusal.fault
line_of refusal of_table e = ap (λ (v : Bool). claimed_fault_line v refusal.fault) e

line_of_none : (refusal : Refusal) (of_table : Bool) → refusal.fault.place.line ≡ 0 → layer_line refusal ≡ claimed_fault_line of_table refusal.fault
line_of_none refusal of_table e =
    ap (λ (t : List ℕ). t ++ kind_name refusal.fault.kind ++ codes "\n")
    (same_place (is_of_table refusal.in_table refusal.fault.kind) of_table refusal.fault.place.line e)
  where
    same_place : (v w : Bool) (n : ℕ) → n ≡ 0 → place_text v n ≡ place_text w n
    same_place v w n e = subst (λ (k : ℕ). place_text v k ≡ place_text w k) (sym e) refl

-- ---- where a refusal comes from

pub data Origin (task : Task) (first second : SourceRun) (output : SinkRun) (refusal : Refusal) : Type 0 where
  from_files : (of_table : Bool)
      → ((file other : List ℕ) → first.before ≡ Some file → (HasClaimedSecond task → second.before ≡ Some other)
      → RefusesTask task file other of_table refusal.fault)
      → (refusal.fault.kind ≡ kinds.WriteFault → ⊥) → layer_line refusal ≡ claimed_fault_line of_table refusal.fault → Origin task first second output refusal
  from_want : IsShortage refusal.fault → Origin task first second output refusal
  from_length : refusal.fault ≡ claimed_fault_of kinds.InputTooLong
      → CameBeyond (2 ^ 30) first.before first.after ⊎ (HasClaimedSecond task × CameBeyond (2 ^ 30) second.before second.after)
      → Origin task first second output refusal
  from_source : refusal.fault ≡ claimed_fault_of kinds.ReadFault → (first.failures ≡ 1) ⊎ (second.failures ≡ 1) → Origin task first second output refusal
  from_sink : refusal.fault ≡ claimed_fault_of kinds.WriteFault → (status : ℕ) (text : List ℕ) → layer.HasAnswer task first second status text
      → WritesPrefix output.before output.after text → (output.failures ≡ 1) ⊎ (output.stalled ≡ true) → Origin task first second output refusal

wanted : (base : List Tree) (source : SourceRun) (fault : Fault) → sources.IsSourceShortage base source fault → IsShortage fault
wanted base source fault (inl e) = inr e
wanted base source fault (inr h) = want_as h.0 fault h.2.0

-- bytes that were read are those of the file, and so is why they are none
read_as : (before after : Option (List ℕ)) (bytes file : List ℕ) (fault : Fault) → ReadAll (2 ^ 30) before after bytes → before ≡ Some file
    → LayerRefuses 62 bytes fault → IsShortFile file × (pattern_of file ≡ Err fault)
read_as before after bytes file fault read e h =
    let same = all_read (2 ^ 30) before after file bytes read e in
    (subst IsShortFile same read.within, subst (λ (b : List ℕ). pattern_of b ≡ Err fault) same (refuses_agree bytes fault h))

short : (before after : Option (List ℕ)) (bytes file : List ℕ) → ReadAll (2 ^ 30) before after bytes → before ≡ Some file → IsShortFile file
short before after bytes file read e = subst IsShortFile (all_read (2 ^ 30) before after file bytes read e) read.within

module _ (laws : LayersAgree) (task : Task) (first second : SourceRun) (output : SinkRun) (refusal : Refusal) where
  abbrev Comes : Type 0
  Comes = Origin task first second output refusal

  abbrev Reported : Bool → Type 0
  Reported of_table =
      (file other : List ℕ) → first.before ≡ Some file → (HasClaimedSecond task → second.before ≡ Some other)
      → RefusesTask task file other of_table refusal.fault

  of_first_input : sources.InputRefuses first refusal.fault → Comes
  of_first_input (sources.by_length is came) = from_length is (inl came)
  of_first_input (sources.by_source is failed) = from_source is (inl failed)

  of_second_input : HasClaimedSecond task → sources.InputRefuses second refusal.fault → Comes
  of_second_input has (sources.by_length is came) = from_length is (inr (has, came))
  of_second_input has (sources.by_source is failed) = from_source is (inr failed)

  -- a file has a fault
  of_pattern : refusal.in_table ≡ false → (bytes : List ℕ) → LayerRefuses 62 bytes refusal.fault → Reported false → Comes
  of_pattern e bytes h reported =
      let kind = (laws.kinds (lines_of bytes) refusal.fault h).0 in
      from_files false reported (no_write_in is_file_kind refusal.fault.kind refl kind)
      (line_of refusal false (ap (λ (v : Bool). is_of_table v refusal.fault.kind) e ∙ file_line refusal.fault.kind kind))

  -- a pattern has a fault of no line
  of_none : (of_table : Bool) → IsPlaceless refusal.fault → Reported of_table → Comes
  of_none of_table none reported = from_files of_table reported none.kind (line_of_none refusal of_table none.line)

  -- the canonical text of a file
  module _ (writes : (bytes other text : List ℕ) → IsCanonical 62 bytes text → layer.TaskWrites task bytes other 0 text) (alone : LayerSecond task → ⊥)
      (e : refusal.in_table ≡ false)
      (reported : (file other : List ℕ) → IsShortFile file × (pattern_of file ≡ Err refusal.fault) → RefusesTask task file other false refusal.fault)
      (store : Nodes) where
    of_reading : ReadRefuses 62 (2 ^ 30) store first refusal.fault → Comes
    of_reading (reading.by_file bytes read h) = of_pattern e bytes h (λ file other f g. reported file other (read_as _ _ bytes file _ read f h))
    of_reading (reading.by_want want) = from_want (want_as store refusal.fault want)
    of_reading (reading.by_length is came) = from_length is (inl came)
    of_reading (reading.by_source is failed) = from_source is (inl failed)

    of_canon : RunRefuses 62 (2 ^ 30) store first output refusal.fault → Comes
    of_canon (running.by_reading h) = of_reading h
    of_canon (running.by_writing is h) =
        from_sink is 0 h.wrote.text
        (record {
          first_bytes = h.wrote.bytes;
          second_bytes = [];
          first_read = h.wrote.read;
          second_read = λ has. absurd (alone has);
          writes = writes h.wrote.bytes [] h.wrote.text h.wrote.canonical;
        })
        h.wrote.written h.cause

  -- another text of a file
  module _ (gives : List ℕ → List ℕ → Type 0) (refuses : List ℕ → Fault → Type 0)
      (writes : (bytes other text : List ℕ) → gives bytes text → layer.TaskWrites task bytes other 0 text) (alone : LayerSecond task → ⊥)
      (by : (bytes : List ℕ) → ReadAll (2 ^ 30) first.before first.after bytes → refuses bytes refusal.fault → Comes) where
    of_no_text : sources.HasNoText refuses first refusal.fault → Comes
    of_no_text (sources.by_input h) = of_first_input h
    of_no_text (sources.by_file bytes read h) = by bytes read h
    of_no_text (sources.by_want want) = from_want (wanted [] first refusal.fault want)

    of_file : layer.FileRefuses gives refuses first output refusal.fault → Comes
    of_file (layer.by_reading h) = of_no_text h
    of_file (layer.by_writing text has breaks) =
        from_sink breaks.is 0 text
        (record {
          first_bytes = has.bytes;
          second_bytes = [];
          first_read = has.read;
          second_read = λ h. absurd (alone h);
          writes = writes has.bytes [] text has.is;
        })
        breaks.written breaks.cause

-- ---- forms

-- why a pattern has no text in a form: for want, or because it leaves the plane
no_text : LayersAgree → (form : Form) (bytes : List ℕ) (fault : Fault) → RefusesFormFor form (LacksForm form 62 bytes) fault
    → IsShortage fault ⊎ ((fault ≡ claimed_fault_of kinds.OutOfPlane) × FileLacksClaimedForm form bytes)
no_text laws Placed bytes fault h = inl (inl h.0)
no_text laws Moved bytes fault h = inl (inl h.0)
no_text laws Turned bytes fault h = inl (inl h.0)
no_text laws (Phases most) bytes fault (inr full) = inl (inl full)
no_text laws (Phases most) bytes fault (inl h) =
    let u = h.1.0 in
    let p = files_agree bytes u h.1.1 in
    inr (h.0, (p.pattern, p.is, lacks-to p.pattern u (said bytes u p) (laws.on_plane bytes u h.1.1).rule most h.1.2))

-- why two files aren't compared in a form
no_comparison : LayersAgree → (form : Form) (a b : List ℕ) (fault : Fault) → layer.RefusesSame form a b fault
    → IsShortage fault ⊎ ((fault ≡ claimed_fault_of kinds.OutOfPlane) × OneFileLacksClaimedForm form a b)
no_comparison laws Placed a b fault h = inl (inl h.0)
no_comparison laws Moved a b fault h = inl (inl h.0)
no_comparison laws Turned a b fault h = inl (inl h.0)
no_comparison laws (Phases most) a b fault (inr full) = inl (inl full)
no_comparison laws (Phases most) a b fault (inl h) = inr (h.0, related_to laws.on_plane (either-to most) a b h.1)

-- ---- each task

module _ (laws : LayersAgree) (first second : SourceRun) (output : SinkRun) (refusal : Refusal) where
  too_many : refusal.fault ≡ claimed_fault_of kinds.TooManyCells → IsPlaceless refusal.fault
  too_many is = record { line = ap (λ (f : Fault). f.place.line) is; kind = other_kind refusal.fault kinds.TooManyCells is (λ n. cc) }

  -- a file whose cells are listed
  of_many : (task : Task) → ((file other : List ℕ) → RefusesClaimedMany file false refusal.fault → RefusesTask task file other false refusal.fault)
      → refusal.in_table ≡ false → (bytes : List ℕ) → ReadAll (2 ^ 30) first.before first.after bytes → sources.RefusesMany bytes refusal.fault
      → Origin task first second output refusal
  of_many task to e bytes read (inl h) =
      of_pattern laws task first second output refusal e bytes h
      (λ file other f g. let r = read_as _ _ bytes file _ read f h in to file other (r.0, refl, inl r.1))
  of_many task to e bytes read (inr m) =
      of_none laws task first second output refusal false (too_many m.0)
      (λ file other f g. to file other (
        short _ _ bytes file read f,
        refl,
        inr (m.0, subst (SaysMoreCells (2 ^ 20)) (all_read (2 ^ 30) first.before first.after file bytes read f) (says_more bytes m.1)),
      ))

  out_of_plane : refusal.fault ≡ claimed_fault_of kinds.OutOfPlane → IsPlaceless refusal.fault
  out_of_plane is = record { line = ap (λ (f : Fault). f.place.line) is; kind = other_kind refusal.fault kinds.OutOfPlane is (λ n. cc) }

  -- a file whose pattern is taken in a form
  of_form_text : (form : Form) → refusal.in_table ≡ false → (bytes : List ℕ) → ReadAll (2 ^ 30) first.before first.after bytes
      → sources.RefusesInForm form bytes refusal.fault → Origin (tasks.Canon form) first second output refusal
  of_form_text form e bytes read (inl h) =
      of_pattern laws (tasks.Canon form) first second output refusal e bytes h
      (λ file other f g. let r = read_as _ _ bytes file _ read f h in (r.0, refl, inl r.1))
  of_form_text form e bytes read (inr h) = by (no_text laws form bytes refusal.fault h)
    where
      by : IsShortage refusal.fault ⊎ ((refusal.fault ≡ claimed_fault_of kinds.OutOfPlane) × FileLacksClaimedForm form bytes)
          → Origin (tasks.Canon form) first second output refusal
      by (inl want) = from_want want
      by (inr k) =
          of_none laws (tasks.Canon form) first second output refusal false (out_of_plane k.0)
          (λ file other f g. (
            short _ _ bytes file read f,
            refl,
            inr (k.0, subst (FileLacksClaimedForm form) (all_read (2 ^ 30) first.before first.after file bytes read f) k.1),
          ))

  of_step : refusal.in_table ≡ false → (bytes : List ℕ) → ReadAll (2 ^ 30) first.before first.after bytes → layer.RefusesLifeStep bytes refusal.fault
      → Origin tasks.Step first second output refusal
  of_step e bytes read (inl h) =
      of_pattern laws tasks.Step first second output refusal e bytes h
      (λ file other f g. let r = read_as _ _ bytes file _ read f h in (r.0, refl, inl r.1))
  of_step e bytes read (inr (inl want)) = from_want (want_as want.0 refusal.fault want.2)
  of_step e bytes read (inr (inr h)) =
      let un = unstepped_is laws.on_plane bytes h.0 refusal.fault h.1 h.2 in
      of_none laws tasks.Step first second output refusal false (placeless_reason un.0 refusal.fault un.2)
      (λ file other f g. (
        short _ _ bytes file read f,
        refl,
        inr (subst (λ (b : List ℕ). IsUnstepped b refusal.fault) (all_read (2 ^ 30) first.before first.after file bytes read f) un),
      ))

  of_later : (n : ℕ) → refusal.in_table ≡ false → (bytes : List ℕ) → ReadAll (2 ^ 30) first.before first.after bytes
      → layer.RefusesGenerations n bytes refusal.fault → Origin (tasks.Later n) first second output refusal
  of_later n e bytes read (inl h) =
      of_pattern laws (tasks.Later n) first second output refusal e bytes h
      (λ file other f g. let r = read_as _ _ bytes file _ read f h in (r.0, refl, inl r.1))
  of_later n e bytes read (inr (inl want)) = from_want (want_as want.0 refusal.fault want.2)
  of_later n e bytes read (inr (inr h)) =
      let un = reason-of laws.on_plane n bytes h.0 refusal.fault h.1 h.2 in
      of_none laws (tasks.Later n) first second output refusal false (placeless_later n un.0 refusal.fault un.2)
      (λ file other f g. (
        short _ _ bytes file read f,
        refl,
        inr (subst (λ (b : List ℕ). IsNotAdvanced n b refusal.fault) (all_read (2 ^ 30) first.before first.after file bytes read f) un),
      ))

  of_period : (most : ℕ) → refusal.in_table ≡ false → (bytes : List ℕ) → ReadAll (2 ^ 30) first.before first.after bytes
      → RefusesPeriodOfFile most bytes refusal.fault → Origin (tasks.ShowPeriod most) first second output refusal
  of_period most e bytes read (inl h) =
      of_pattern laws (tasks.ShowPeriod most) first second output refusal e bytes h
      (λ file other f g. let r = read_as _ _ bytes file _ read f h in (r.0, refl, inl r.1))
  of_period most e bytes read (inr (inl (inl memory))) = from_want (inr memory)
  of_period most e bytes read (inr (inl (inr full))) = from_want (inl full)
  of_period most e bytes read (inr (inr h)) =
      let un = period-reason_of laws.on_plane most bytes h.0 refusal.fault h.1 h.2 in
      of_none laws (tasks.ShowPeriod most) first second output refusal false (placeless_period most un.0 refusal.fault un.2)
      (λ file other f g. (
        short _ _ bytes file read f,
        refl,
        inr (subst (λ (b : List ℕ). HasNoClaimedPeriod most b refusal.fault) (all_read (2 ^ 30) first.before first.after file bytes read f) un),
      ))

  -- two files
  of_files_compared : (form : Form) → refusal.in_table ≡ false → layer.AreUncompared form first second refusal.of_second refusal.fault
      → Origin (tasks.Same form) first second output refusal
  of_files_compared form e (layer.by_first whose h) = of_first_input laws (tasks.Same form) first second output refusal h
  of_files_compared form e (layer.by_second whose a read h) = of_second_input laws (tasks.Same form) first second output refusal tt h
  of_files_compared form e (layer.by_form a b one two p q h whose) = by (no_comparison laws form a b refusal.fault h)
    where
      by : IsShortage refusal.fault ⊎ ((refusal.fault ≡ claimed_fault_of kinds.OutOfPlane) × OneFileLacksClaimedForm form a b)
          → Origin (tasks.Same form) first second output refusal
      by (inl want) = from_want want
      by (inr k) =
          of_none laws (tasks.Same form) first second output refusal false (out_of_plane k.0)
          (λ file other f g. (
            short _ _ a file one f,
            short _ _ b other two (g tt),
            refl,
            inr (inr (
              k.0,
              subst (λ (s : List ℕ). OneFileLacksClaimedForm form s other) (all_read (2 ^ 30) first.before first.after file a one f)
                  (subst (OneFileLacksClaimedForm form a) (all_read (2 ^ 30) second.before second.after other b two (g tt)) k.1),
            )),
          ))
  of_files_compared form e (layer.by_first_file whose a b one two h) =
      of_pattern laws (tasks.Same form) first second output refusal e a h
      (λ file other f g. let r = read_as _ _ a file _ one f h in (r.0, short _ _ b other two (g tt), refl, inl r.1))
  of_files_compared form e (layer.by_second_file whose a b one two is h) =
      of_pattern laws (tasks.Same form) first second output refusal e b h
      (λ file other f g. let r = read_as _ _ b other _ two (g tt) h in (
        short _ _ a file one f,
        r.0,
        refl,
        inr (inl (
          subst (λ (s : List ℕ). IsOk (pattern_of s)) (all_read (2 ^ 30) first.before first.after file a one f) (accepted_is_ok a is),
          r.1,
        )),
      ))
  of_files_compared form e (layer.by_first_shortage want) = from_want (wanted [] first refusal.fault want)
  of_files_compared form e (layer.by_second_shortage a stored read are want) = from_want (wanted stored second refusal.fault want)

  of_same : (form : Form) → refusal.in_table ≡ false → layer.SameRefuses form first second output refusal.of_second refusal.fault
      → Origin (tasks.Same form) first second output refusal
  of_same form e (layer.by_comparing h) = of_files_compared form e h
  of_same form e (layer.by_telling status text answer breaks) = from_sink breaks.is status text answer breaks.written breaks.cause

  -- a file and a rule table
  of_no_table : (task : Task) → HasClaimedSecond task
      → ((file other : List ℕ) → IsShortFile other → table_of other ≡ Err refusal.fault → RefusesTask task file other true refusal.fault)
      → refusal.in_table ≡ true → layer.HasNoTable second refusal.fault → Origin task first second output refusal
  of_no_table task has to e (layer.table_by_input h) = of_second_input laws task first second output refusal has h
  of_no_table task has to e (layer.table_by_lines bytes read h) =
      let kind = laws.table_kinds (lines_of bytes) refusal.fault h in
      from_files true
      (λ file other f g.
      let same = all_read (2 ^ 30) second.before second.after other bytes read (g has) in
      to file other (short _ _ bytes other read (g has))
      (subst (λ (b : List ℕ). table_of b ≡ Err refusal.fault) same ((laws.refuse bytes refusal.fault).0 h)))
      (no_write_in is_table_kind refusal.fault.kind refl kind)
      (line_of refusal true (ap (λ (v : Bool). is_of_table v refusal.fault.kind) e ∙ table_line refusal.fault.kind kind))
  of_no_table task has to e (layer.table_by_memory is) = from_want (inr is)

  module _ (e : refusal.in_table ≡ false) (table : LayerTable) (has : layer.HasTable second table) where
    found : (t : Table) × (table_of has.bytes ≡ Ok t) × IsTable table t
    found = (laws.read has.bytes).0 table ((laws.grammars (lines_of has.bytes) table).0 has.is)

    second_is : (other : List ℕ) → second.before ≡ Some other → table_of other ≡ Ok found.0
    second_is other g =
        subst (λ (b : List ℕ). table_of b ≡ Ok found.0) (all_read (2 ^ 30) second.before second.after other has.bytes has.read g) found.1

    of_step_by : (bytes : List ℕ) → ReadAll (2 ^ 30) first.before first.after bytes → layer.RefusesStepBy table bytes refusal.fault
        → Origin tasks.StepTable first second output refusal
    of_step_by bytes read (inl h) =
        of_pattern laws tasks.StepTable first second output refusal e bytes h
        (λ file other f g. let r = read_as _ _ bytes file _ read f h in (
          short _ _ has.bytes other has.read (g tt),
          inr (r.0, (found.0, second_is other (g tt), inl (refl, r.1))),
        ))
    of_step_by bytes read (inr (inl want)) = from_want (want_as want.0 refusal.fault want.2)
    of_step_by bytes read (inr (inr h)) =
        let un : IsUnsteppedBy found.0 bytes refusal.fault = by_table.unstepped_is laws.decide table found.0 found.2 bytes h.0 h.1 refusal.fault h.2 in
        let reason = table_reason found.0 un.0 refusal.fault un.2 in
        from_files true
        (λ file other f g. (
          short _ _ has.bytes other has.read (g tt),
          inr (
            short _ _ bytes file read f,
            (
              found.0,
              second_is other (g tt),
              inr (refl, subst (λ (b : List ℕ). IsUnsteppedBy found.0 b refusal.fault) (all_read (2 ^ 30) first.before first.after file bytes read f) un),
            ),
          ),
        ))
        reason.kind
        (elim reason.line [
          | inl of_table ↦ line_of refusal true (ap (λ (v : Bool). is_of_table v refusal.fault.kind) e ∙ of_table)
          | inr none ↦ line_of_none refusal true none
        ])

    of_table_text : sources.HasNoText (layer.RefusesStepBy table) first refusal.fault → Origin tasks.StepTable first second output refusal
    of_table_text (sources.by_input h) = of_first_input laws tasks.StepTable first second output refusal h
    of_table_text (sources.by_file bytes read h) = of_step_by bytes read h
    of_table_text (sources.by_want want) = from_want (wanted [] first refusal.fault want)

    -- one of many steps isn't made
    of_times : (n : ℕ) (bytes : List ℕ) → ReadAll (2 ^ 30) first.before first.after bytes → layer.RefusesTimes table n bytes refusal
        → Origin (tasks.LaterTable n) first second output refusal
    of_times n bytes read h = by h.1.2
      where
        text : List ℕ
        text = h.1.0

        claimed : AreClaimedSteps found.0 refusal.made bytes text
        claimed = times laws table found.0 found.2 refusal.made bytes text h.1.1

        -- a canonical text is a file
        no_fault : LayerRefuses 62 text refusal.fault → ⊥
        no_fault refuses =
            let c = own_times laws table refusal.made bytes text h.1.1 in
            let is = (files_agree text c.universe c.reads).is in
            let bad = sym is ∙ refuses_agree text refusal.fault refuses in
            absurd cc

        by : layer.RefusesStepOf table text refusal.fault → Origin (tasks.LaterTable n) first second output refusal
        by (inl refuses) = absurd (no_fault refuses)
        by (inr (inl want)) = from_want (want_as want.0 refusal.fault want.2)
        by (inr (inr k)) =
            let un : IsUnsteppedBy found.0 text refusal.fault = by_table.unstepped_is laws.decide table found.0 found.2 text k.0 k.1 refusal.fault k.2 in
            let reason = table_reason found.0 un.0 refusal.fault un.2 in
            from_files true
            (λ file other f g.
            let same = all_read (2 ^ 30) first.before first.after file bytes read f in (
              short _ _ has.bytes other has.read (g tt),
              inr (
                short _ _ bytes file read f,
                (
                  found.0,
                  second_is other (g tt),
                  inr (refl, (refusal.made, h.0, (text, subst (λ (b : List ℕ). AreClaimedSteps found.0 refusal.made b text) same claimed, un))),
                ),
              ),
            ))
            reason.kind
            (elim reason.line [
              | inl of_table ↦ line_of refusal true (ap (λ (v : Bool). is_of_table v refusal.fault.kind) e ∙ of_table)
              | inr none ↦ line_of_none refusal true none
            ])

    of_no_later : (n : ℕ) → sources.HasNoText (LayerRefuses 62) first refusal.fault → Origin (tasks.LaterTable n) first second output refusal
    of_no_later n (sources.by_input h) = of_first_input laws (tasks.LaterTable n) first second output refusal h
    of_no_later n (sources.by_file bytes read h) =
        of_pattern laws (tasks.LaterTable n) first second output refusal e bytes h
        (λ file other f g. let r = read_as _ _ bytes file _ read f h in (
          short _ _ has.bytes other has.read (g tt),
          inr (r.0, (found.0, second_is other (g tt), inl (refl, r.1))),
        ))
    of_no_later n (sources.by_want want) = from_want (wanted [] first refusal.fault want)

    of_later_text : (n : ℕ) → layer.HasNoTextLater table n first refusal → Origin (tasks.LaterTable n) first second output refusal
    of_later_text n (inl h) = of_no_later n h
    of_later_text n (inr h) = of_times n h.0 h.1 h.2

  of_later_by_table : (n : ℕ) → layer.TaskRefuses (tasks.LaterTable n) first second output refusal → Origin (tasks.LaterTable n) first second output refusal
  of_later_by_table n (inl (inl h)) = of_no_table (tasks.LaterTable n) tt (λ file other s r. (s, inl (refl, r))) h.0.0 h.0.1
  of_later_by_table n (inl (inr h)) = of_later_text h.0 h.1.0 h.1.1 n h.1.2
  of_later_by_table n (inr h) =
      let made = h.1.1 in
      let breaks = h.1.2 in
      from_sink breaks.is 0 h.1.0
      (record {
        first_bytes = made.2.bytes;
        second_bytes = made.1.bytes;
        first_read = made.2.read;
        second_read = λ _. made.1.read;
        writes = (refl, (made.0, made.1.is, made.2.is));
      })
      breaks.written breaks.cause

  of_table_task : layer.TaskRefuses tasks.StepTable first second output refusal → Origin tasks.StepTable first second output refusal
  of_table_task (inl (inl h)) = of_no_table tasks.StepTable tt (λ file other s r. (s, inl (refl, r))) h.0.0 h.0.1
  of_table_task (inl (inr h)) = of_table_text h.0 h.1.0 h.1.1 h.1.2
  of_table_task (inr h) =
      let made = h.1.1 in
      let breaks = h.1.2 in
      from_sink breaks.is 0 h.1.0
      (record {
        first_bytes = made.2.bytes;
        second_bytes = made.1.bytes;
        first_read = made.2.read;
        second_read = λ _. made.1.read;
        writes = (refl, (made.0, made.1.is, made.2.is));
      })
      breaks.written breaks.cause

pub origin_of : LayersAgree → (task : Task) (first second : SourceRun) (output : SinkRun) (refusal : Refusal)
    → layer.TaskRefuses task first second output refusal
    → Origin task first second output refusal
origin_of laws (tasks.Canon Placed) first second output refusal h =
    of_canon laws (tasks.Canon Placed) first second output refusal (λ bytes other text c. (refl, c)) (λ has. has) h.0
    (λ file other r. (r.0, refl, inl r.1)) h.1.0 h.1.2
origin_of laws (tasks.Convert Mc) first second output refusal h =
    of_canon laws (tasks.Convert Mc) first second output refusal (λ bytes other text c. (refl, c)) (λ has. has) h.0 (λ file other r. (r.0, refl, r.1)) h.1.0
    h.1.2
origin_of laws (tasks.Canon Moved) first second output refusal h =
    of_file laws (tasks.Canon Moved) first second output refusal (LayerTextIn Moved 62) (sources.RefusesInForm Moved) (λ bytes other text is. (refl, is))
    (λ has. has) (of_form_text laws first second output refusal Moved h.0) h.1
origin_of laws (tasks.Canon Turned) first second output refusal h =
    of_file laws (tasks.Canon Turned) first second output refusal (LayerTextIn Turned 62) (sources.RefusesInForm Turned) (λ bytes other text is. (refl, is))
    (λ has. has) (of_form_text laws first second output refusal Turned h.0) h.1
origin_of laws (tasks.Canon (Phases most)) first second output refusal h =
    of_file laws (tasks.Canon (Phases most)) first second output refusal (LayerTextIn (Phases most) 62) (sources.RefusesInForm (Phases most))
    (λ bytes other text is. (refl, is)) (λ has. has) (of_form_text laws first second output refusal (Phases most) h.0) h.1
origin_of laws (tasks.Convert Rle) first second output refusal h =
    of_file laws (tasks.Convert Rle) first second output refusal (IsRleOf 62 (2 ^ 20)) sources.RefusesMany (λ bytes other text is. (refl, is)) (λ has. has)
    (of_many laws first second output refusal (tasks.Convert Rle) (λ file other h. h) h.0) h.1
origin_of laws (tasks.Same form) first second output refusal h = of_same laws first second output refusal form h.0 h.1
origin_of laws tasks.Show first second output refusal h =
    of_file laws tasks.Show first second output refusal (LayerShown 62) (LayerRefuses 62) (λ bytes other text is. (refl, is)) (λ has. has)
    (λ bytes read r. of_pattern laws tasks.Show first second output refusal h.0 bytes r
    (λ file other f g. let k = read_as _ _ bytes file _ read f r in (k.0, refl, k.1))) h.1
origin_of laws (tasks.ShowPeriod most) first second output refusal h =
    of_file laws (tasks.ShowPeriod most) first second output refusal (IsShownWithPeriod most) (RefusesPeriodOfFile most) (λ bytes other text is. (refl, is))
    (λ has. has) (of_period laws first second output refusal most h.0) h.1
origin_of laws tasks.Step first second output refusal h =
    of_file laws tasks.Step first second output refusal LayerStepped layer.RefusesLifeStep (λ bytes other text is. (refl, is)) (λ has. has)
    (of_step laws first second output refusal h.0) h.1
origin_of laws tasks.StepTable first second output refusal h = of_table_task laws first second output refusal h
origin_of laws (tasks.Later n) first second output refusal h =
    of_file laws (tasks.Later n) first second output refusal (IsTextLater n) (layer.RefusesGenerations n) (λ bytes other text is. (refl, is)) (λ has. has)
    (of_later laws first second output refusal n h.0) h.1
origin_of laws (tasks.LaterTable n) first second output refusal h = of_later_by_table laws first second output refusal n h

-- ---- what the origin tells

-- the reason, and the line that tells it
pub record Reason (task : Task) (file other : List ℕ) (is_unread is_unwritten : Type 0) (refusal : Refusal) : Type 0 where
  pub of_table : Bool
  pub reason : IsReason task file other is_unread is_unwritten of_table refusal.fault
  pub line : layer_line refusal ≡ claimed_fault_line of_table refusal.fault

module _ (task : Task) (first second : SourceRun) (output : SinkRun) (refusal : Refusal) (file other : List ℕ) (e : first.before ≡ Some file)
    (f : HasClaimedSecond task → second.before ≡ Some other) (is_unread : Type 0) (unread : (first.failures ≡ 1) ⊎ (second.failures ≡ 1) → is_unread) where
  abbrev Unwritten : Type 0
  Unwritten = (output.failures ≡ 1) ⊎ (output.stalled ≡ true)

  of_no_file : (fault : Fault) → refusal.fault ≡ fault → fault.place.line ≡ 0 → IsReason task file other is_unread Unwritten false fault
      → Reason task file other is_unread Unwritten refusal
  of_no_file fault is line reason = record {
    of_table = false;
    reason = subst (IsReason task file other is_unread Unwritten false) (sym is) reason;
    line = line_of_none refusal false (ap (λ (f : Fault). f.place.line) is ∙ line);
  }

  want_line : (fault : Fault) → IsShortage fault → fault.place.line ≡ 0
  want_line fault (inl is) = ap (λ (f : Fault). f.place.line) is
  want_line fault (inr is) = ap (λ (f : Fault). f.place.line) is

  pub reason_of : Origin task first second output refusal → Reason task file other is_unread Unwritten refusal
  reason_of (from_files of_table reported kind line) =
      record { of_table = of_table; reason = of_files of_table refusal.fault (reported file other e f); line = line }
  reason_of (from_want want) = of_no_file refusal.fault refl (want_line refusal.fault want) (of_want refusal.fault want)
  reason_of (from_length is (inl came)) =
      of_no_file (claimed_fault_of kinds.InputTooLong) is refl (of_length (inl (beyond (2 ^ 30) first.before first.after file came e)))
  reason_of (from_length is (inr h)) =
      of_no_file (claimed_fault_of kinds.InputTooLong) is refl (of_length (inr (h.0, beyond (2 ^ 30) second.before second.after other h.1 (f h.0))))
  reason_of (from_source is failed) = of_no_file (claimed_fault_of kinds.ReadFault) is refl (of_source (unread failed))
  reason_of (from_sink is status text answer written cause) = of_no_file (claimed_fault_of kinds.WriteFault) is refl (of_sink cause)

-- the only refusal whose kind is that of a sink comes from one
pub record IsCut (task : Task) (first second : SourceRun) (output : SinkRun) : Type 0 where
  pub status : ℕ
  pub text : List ℕ
  pub answer : layer.HasAnswer task first second status text
  pub written : WritesPrefix output.before output.after text
  pub cause : (output.failures ≡ 1) ⊎ (output.stalled ≡ true)

no_want : (fault : Fault) → IsShortage fault → fault.kind ≡ kinds.WriteFault → ⊥
no_want fault (inl is) e = other_kind fault kinds.Full is (λ n. cc) e
no_want fault (inr is) e = other_kind fault kinds.Memory is (λ n. cc) e

pub cut_of : (task : Task) (first second : SourceRun) (output : SinkRun) (refusal : Refusal) → Origin task first second output refusal
    → refusal.fault.kind ≡ kinds.WriteFault → IsCut task first second output
cut_of task first second output refusal (from_files of_table reported kind line) e = absurd (kind e)
cut_of task first second output refusal (from_want want) e = absurd (no_want refusal.fault want e)
cut_of task first second output refusal (from_length is h) e = absurd (other_kind refusal.fault kinds.InputTooLong is (λ n. cc) e)
cut_of task first second output refusal (from_source is h) e = absurd (other_kind refusal.fault kinds.ReadFault is (λ n. cc) e)
cut_of task first second output refusal (from_sink is status text answer written cause) e =
    record { status = status; text = text; answer = answer; written = written; cause = cause }

-- a sink that works has neither failed nor stalled
pub no_cause : (failures : ℕ) (stalled : Bool) → (failures ≡ 1) ⊎ (stalled ≡ true) → failures ≡ 0 → stalled ≡ false → ⊥
no_cause failures stalled (inl h) e f = cc
no_cause failures stalled (inr h) e f = cc

-- ---- devices

-- what was reported comes after what the device held
pub held_by : (output : SinkRun) (heard text : List ℕ) → Reports output text → output.before ≡ Some heard
    → DeviceHolds heard text ((output.failures ≡ 1) ⊎ (output.stalled ≡ true)) output.after
held_by output heard text (inl h) e = inl (appended output.before output.after heard text h e)
held_by output heard text (inr h) e = inr (h.1, (h.0.count, appended output.before output.after heard (take h.0.count text) h.0.written e))

pub some_failed : {B : Type 0} (failures : B → ℕ) (new : Option B) → option_map_or failures new 0 ≡ 1 → IsSomeAnd new (λ b. failures b ≡ 1)
some_failed failures None e = cc
some_failed failures (Some b) e = e

pub reported_of_some : {B : Type 0} (failures : B → ℕ) (new : Option B) (P : Type 0) → IfSome new (λ b. failures b ≡ 1 → P)
    → IsSomeAnd new (λ b. failures b ≡ 1) → P
reported_of_some failures None P h is = absurd is
reported_of_some failures (Some b) P h is = h is

pub same_status : (k : Kind) → claimed_status_of k ≡ layer_status k
same_status kinds.ReadFault = refl
same_status kinds.WriteFault = refl
same_status kinds.Full = refl
same_status kinds.Memory = refl
same_status _ = refl
