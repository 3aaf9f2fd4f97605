-- What runs over a stream take and write, one piece after another.
use Rattle.std.proofs.Common.{◌≡◌, ◌⊎◌, ◌↔◌, ◌∙◌, ◌+◌, ◌-◌, ◌<◌, ◌≤◌, ◌^◌, ◌==◌, ℕ, zero, suc, max, Bool, true, false, nat_lt, List, [], ◌∷◌, ◌++◌, length, take, drop, map, flat_map, slice_index, decimal, Option, Some, None, Result, Ok, Err, IsTrue, OnOk, IfOk, MatchOption, cond, refl, sym, ap, ap₂, subst, subst₂, arith, inl, inr, append_assoc, append-nil, length-append, length-drop, take_all, add-one, eqb-true}
use Rattle.std.proofs.lemmas.Bool.{false_from_ne_true}
use Rattle.std.proofs.lemmas.Grind.{flat_map-append}
use Rattle.std.proofs.lemmas.List.{map-append}
use Rattle.std.specs.IoError.{error_kind}
use Rattle.std.specs.Io.KnownBytes.{Appends, Consumes, IsAtEnd, Keeps}
use Rattle.std.specs.declared.io.Error.{Error as IoError}
use Rattle.std.proofs.KnownBytes.{Consumes-trans}
use Rattle.file_hints.specs.declared.warnings.Warning.{Warning}
use Rattle.life_base.specs.DeviceRuns.{sink_run, source_run, SourceRun}
use Rattle.life_base.specs.Inputs.{CameBeyond}
use Rattle.life_base.specs.Refusal.{fault_of}
use Rattle.life_base.specs.Text.{onto_first}
use Rattle.life_base.specs.Writing.{WritesPrefix, WritesText}
use Rattle.life_base.proofs.LineEnds.{all_behind}
use Rattle.life_base.specs.declared.kind.Kind.{Kind}
use Rattle.life_base.specs.declared.kind.Kind.TheVariants as kinds
use Rattle.pattern_sources.specs.Faults.{fault_line, refusal_of, status_of, Reports}
use Rattle.command_line.specs.Origins.{OpenerGives}
use Rattle.command_line.specs.declared.origins.Origin.{Origin}
use Rattle.command_line.specs.declared.plans.KeyForm.{KeyForm}
use Rattle.command_line.specs.declared.plans.StreamPlan.{StreamPlan}
use Rattle.file_keys.specs.Keys.{IsStatus, pieces_of}
use Rattle.file_keys.specs.KeyRuns.{bytes_of_name, greatest_status, IsReportedAs, Listed, outcome_status, output_line, output_of, report_line, style_by, Processed, TellsOn, Word, WritesFiles}
use Rattle.file_keys.specs.Stream.{AreEntriesFrom, BeginsWith, BreaksStream, broken, broken_off, CanTakePieces, done, PatternEntry, entry_lines, entry_report, entry_reports, entry_status, fault_entry, IsEntryOf, IsOutcomeOfPiece, LacksNul, partly, patterns_of, StreamRan, TakesPieces, TellsStreamEnd, TellsGiven, TellsSource, TellsStream, through, unopened_entry, warning_line, warning_with, whole, WritesEntries, WritesEntry}
use Rattle.file_keys.specs.declared.keys.outcome.Outcome.{Outcome}
use Rattle.file_keys.specs.declared.keys.outcome.Outcome.TheVariants.{Key, Refused, Unopened}
use Rattle.file_keys.specs.declared.keys.outputs.Outputs.{Outputs}
use Rattle.file_keys.specs.declared.keys.refusal.OpenedFile.{OpenedFile}
use Rattle.file_keys.specs.declared.keys.style.Style.{Style}
use Rattle.file_keys.specs.declared.stream.runs.StreamRun.{StreamRun}
use Rattle.file_keys.proofs.KeyRunLemmas.{appends_kept, broken_tells, from_none, greatest_is, greatest_then, one_line, tells_all, tells_none, writes_none, writes_then}
use Rattle.file_keys.proofs.StreamLemmas.{lacks_both}

-- ---- pieces

-- the bytes before the first NUL, and those after it
pub nul_at : (list : List ℕ) (k : ℕ) → k < length list → ((j : ℕ) → 0 ≤ j → j < k → ¬ ((slice_index list j == 0) ≡ true))
    → (slice_index list k == 0) ≡ true → LacksNul (take k list) × (list ≡ take k list ++ 0 ∷ drop (suc k) list)
nul_at [] k lt none is = absurd (omega arith)
nul_at (b ∷ list) zero lt none is = (tt, ap (λ x. x ∷ list) (eqb-true b 0 is))
nul_at (b ∷ list) (suc k) lt none is =
    let here : (b == 0) ≡ false = false_from_ne_true (b == 0) (none 0 (omega arith) (omega arith)) in
    let rest = nul_at list k (omega (arith, lt)) (λ j low high. none (suc j) (omega arith) (omega (arith, high))) is in
    ((here, rest.0), ap (λ l. b ∷ l) rest.1)

-- bytes none of which is NUL
pub no_nul : (list : List ℕ) → ((j : ℕ) → 0 ≤ j → j < length list → ¬ ((slice_index list j == 0) ≡ true)) → LacksNul list
no_nul [] none = tt
no_nul (b ∷ list) none =
    let here : (b == 0) ≡ false = false_from_ne_true (b == 0) (none 0 (omega arith) (omega arith)) in
    (here, no_nul list (λ j low high. none (suc j) (omega arith) (omega (arith, high))))

-- a piece that ends, and what follows
piece_ended : (piece more : List ℕ) → LacksNul piece → patterns_of (piece ++ 0 ∷ more) ≡ piece ∷ patterns_of more
piece_ended [] more none = refl
piece_ended (b ∷ piece) more none =
    ap (λ v. cond v ([] ∷ patterns_of (piece ++ 0 ∷ more)) (onto_first b (patterns_of (piece ++ 0 ∷ more)))) none.0
    ∙ ap (onto_first b) (piece_ended piece more none.1)

-- and one that doesn't
piece_unended : (piece : List ℕ) → LacksNul piece → ¬ (piece ≡ []) → patterns_of piece ≡ piece ∷ []
piece_unended [] none some = absurd (some refl)
piece_unended (b ∷ []) none some = ap (λ v. cond v ([] ∷ []) ((b ∷ []) ∷ [])) none.0
piece_unended (b ∷ (c ∷ piece)) none some =
    ap (λ v. cond v ([] ∷ patterns_of (c ∷ piece)) (onto_first b (patterns_of (c ∷ piece)))) none.0
    ∙ ap (onto_first b) (piece_unended (c ∷ piece) none.1 (λ is. cc))

-- what follows the end of a piece, as a slice
behind_is : (rest : List ℕ) (k : ℕ) → take (length rest - (k + 1)) (drop (k + 1) rest) ≡ drop (suc k) rest
behind_is rest k = all_behind rest (k + 1) ∙ ap (λ n. drop n rest) (add-one k)

pub split_next : (chunk prefix rest : List ℕ) (k : ℕ) → chunk ≡ prefix ++ rest → rest ≡ take k rest ++ 0 ∷ drop (suc k) rest
    → chunk ≡ (prefix ++ (take k rest ++ 0 ∷ [])) ++ take (length rest - (k + 1)) (drop (k + 1) rest)
split_next chunk prefix rest k is split =
    is ∙ ap (λ l. prefix ++ l) (split ∙ sym (append_assoc (take k rest) (0 ∷ []) (drop (suc k) rest)))
    ∙ sym (append_assoc prefix (take k rest ++ 0 ∷ []) (drop (suc k) rest))
    ∙ ap (λ l. (prefix ++ (take k rest ++ 0 ∷ [])) ++ l) (sym (behind_is rest k))

pub within_next : (rest : List ℕ) (k n m most : ℕ) → k < length rest → m ≡ n + 1 → n + length rest ≤ most
    → m + length (take (length rest - (k + 1)) (drop (k + 1) rest)) ≤ most
within_next rest k n m most lt is le =
    subst (λ j. m + j ≤ most) (sym (ap length (behind_is rest k) ∙ length-drop (suc k) rest)) (at (length rest) lt le)
  where
    at : (l : ℕ) → k < l → n + l ≤ most → m + (l - suc k) ≤ most
    at l lt le = omega (arith, lt, le, is)

-- a run goes on as long as standard output takes what is written
pub goes_on : {A : Type 0} (run : StreamRun) (result : Result A Kind) (o e : ℕ) → OnOk result (o ≡ 0) → (run.outputs.tells ≡ true → e ≡ 0)
    → OnOk result (CanTakePieces run o e)
goes_on run (Ok a) o e works hears = record { works = works; hears = hears }
goes_on run (Err k) o e works hears = tt

-- bytes that came, and then none
pub consumes_none : (a b c : Option (List ℕ)) (bytes more : List ℕ) → length more ≡ 0 → Consumes a b bytes → Consumes b c more → Consumes a c bytes
consumes_none a b c bytes [] none p q = subst (Consumes a c) (append-nil bytes) (Consumes-trans a b c bytes [] p q)
consumes_none a b c bytes (x ∷ more) none p q = absurd (omega (arith, none))

-- too many came
pub came_beyond : (a b c : Option (List ℕ)) (bytes more : List ℕ) (left : ℕ) → length bytes + left ≡ 2 ^ 64 - 2 → left < length more → Consumes a b bytes
    → Consumes b c more → CameBeyond (2 ^ 64 - 2) a c
came_beyond a b c bytes more left is lt p q = record {
  bytes = bytes ++ more;
  consumed = Consumes-trans a b c bytes more p q;
  long = subst (λ n. 2 ^ 64 - 2 < n) (sym (length-append bytes more)) (at (length bytes) (length more) is lt);
}
  where
    at : (n m : ℕ) → n + left ≡ 2 ^ 64 - 2 → left < m → 2 ^ 64 - 2 < n + m
    at n m is lt = omega (arith, is, lt)

-- how many came, and how many may follow
pub came_further : (bytes more : List ℕ) (left count rest : ℕ) → length bytes + left ≡ 2 ^ 64 - 2 → length more ≡ count → count ≤ left → rest ≡ left - count
    → length (bytes ++ more) + rest ≡ 2 ^ 64 - 2
came_further bytes more left count rest is of le next =
    ap (λ n. n + rest) (length-append bytes more) ∙ at (length bytes) (length more) is of le next
  where
    at : (n m : ℕ) → n + left ≡ 2 ^ 64 - 2 → m ≡ count → count ≤ left → rest ≡ left - count → n + m + rest ≡ 2 ^ 64 - 2
    at n m is of le next = omega (arith, is, of, le, next)

pub counted_within : (n m k left count most : ℕ) → m ≤ n + k → k ≡ count → count ≤ left → n + left ≤ most → m + (left - count) ≤ most
counted_within n m k left count most few is le within = omega (arith, few, is, le, within)

-- ---- entries

-- those of pieces, and then of further ones
entries_then : (form : KeyForm) (n m : ℕ) (ps qs : List (List ℕ)) (es fs : List PatternEntry) → m ≡ n + length ps → AreEntriesFrom form n ps es
    → AreEntriesFrom form m qs fs → AreEntriesFrom form n (ps ++ qs) (es ++ fs)
entries_then form n m [] qs [] fs is p q = subst (λ k. AreEntriesFrom form k qs fs) (at n m is) q
  where
    at : (n m : ℕ) → m ≡ n + 0 → m ≡ n
    at n m is = omega (arith, is)
entries_then form n m [] qs (e ∷ es) fs is p q = absurd p
entries_then form n m (piece ∷ ps) qs [] fs is p q = absurd p
entries_then form n m (piece ∷ ps) qs (e ∷ es) fs is p q = (p.0, entries_then form (n + 1) m ps qs es fs (at n m (length ps) is) p.1 q)
  where
    at : (n m k : ℕ) → m ≡ n + suc k → m ≡ n + 1 + k
    at n m k is = omega (arith, is)

-- that of the last piece, which doesn't end
pub last_piece : (form : KeyForm) (n : ℕ) (begun : List ℕ) (e : PatternEntry) → LacksNul begun → ¬ (begun ≡ []) → IsEntryOf form n begun e
    → AreEntriesFrom form n (patterns_of begun) (e ∷ [])
last_piece form n begun e none some is = subst (λ ps. AreEntriesFrom form n ps (e ∷ [])) (sym (piece_unended begun none some)) (is, tt)

-- and none where nothing is after the last NUL
pub none_left : (form : KeyForm) (n : ℕ) (begun : List ℕ) → begun ≡ [] → AreEntriesFrom form n (patterns_of begun) []
none_left form n begun is = subst (λ l. AreEntriesFrom form n (patterns_of l) []) (sym is) tt

lines_then : (style : Style) (es fs : List PatternEntry) → entry_lines style (es ++ fs) ≡ entry_lines style es ++ entry_lines style fs
lines_then style es fs =
    ap (output_of style) (map-append (λ (e : PatternEntry). e.file) es fs)
    ∙ flat_map-append (λ (t : Processed). output_line style (bytes_of_name t.name) t.outcome) (map (λ (e : PatternEntry). e.file) es)
    (map (λ (e : PatternEntry). e.file) fs)

status_then : (es fs : List PatternEntry) → entry_status (es ++ fs) ≡ max (entry_status es) (entry_status fs)
status_then es fs = ap greatest_status (map-append (λ (e : PatternEntry). e.file) es fs)
    ∙ greatest_then (map (λ (e : PatternEntry). e.file) es) (map (λ (e : PatternEntry). e.file) fs)

module _ {W E : Type 0} (held : W → Option (List ℕ)) (contents : E → Option (List ℕ)) (failures : E → ℕ) (stalled : E → Bool) where
  -- what was written of entries, and then of further ones
  pub written_then : (u v w : W) (x y z : E) (a b c : Outputs) (result : Result (Unit {0}) Kind) (es fs : List PatternEntry) → b.style ≡ a.style
      → WritesEntries held contents failures stalled u v x y a b (Ok tt) es → WritesEntries held contents failures stalled v w y z b c result fs
      → WritesEntries held contents failures stalled u w x z a c result (es ++ fs)
  written_then u v w x y z a b c result es fs same p q =
      let here = subst (λ s. WritesFiles held contents failures stalled v w y z b c result (entry_lines s fs) (entry_reports s fs) (entry_status fs)) same q in
      let all = writes_then held contents failures stalled u v w x y z a b c result _ _ _ _ _ _ p here in
      rw (lines_then a.style es fs, flat_map-append (entry_report a.style) es fs, status_then es fs) all

  pub written_none : (out : W) (err : E) (outputs : Outputs) → (outputs.tells ≡ true → failures err ≡ 0)
      → WritesEntries held contents failures stalled out out err err outputs outputs (Ok tt) []
  written_none out err outputs hears = writes_none held contents failures stalled out err outputs hears

  -- which error it is doesn't count
  pub written_err : (u v : W) (x y : E) (a b : Outputs) (k k' : Kind) (es : List PatternEntry)
      → WritesEntries held contents failures stalled u v x y a b (Err k) es → WritesEntries held contents failures stalled u v x y a b (Err k') es
  written_err u v x y a b k k' es p = record { written = p.written; reported = p.reported; status = p.status }

  -- a flush hands on what was written, or fails, and then all of it was written
  pub written_flushed : (u v w : W) (x y : E) (a b : Outputs) (result : Result (Unit {0}) Kind) (es : List PatternEntry)
      → WritesEntries held contents failures stalled u v x y a b (Ok tt) es → Keeps (held v) (held w)
      → WritesEntries held contents failures stalled u w x y a b result es
  written_flushed u v w x y a b result es p keeps =
      record { written = at _ result (appends_kept _ _ _ _ p.written keeps); reported = p.reported; status = p.status }
    where
      at : (s : List ℕ) (r : Result (Unit {0}) Kind) → Appends (held u) (held w) s → WritesText (held u) (held w) s r
      at s (Ok ended) all = all
      at s (Err kind) all = record {
        count = length s;
        within = omega arith;
        written = subst (Appends (held u) (held w)) (sym (take_all (length s) s (omega arith))) all;
      }

  -- what is reported of one piece or of the stream
  pub one_written : (u v : W) (x z : E) (a b : Outputs) (result : Result (Unit {0}) Kind) (name : List ℕ) (e : PatternEntry) → name ≡ bytes_of_name e.file.name
      → WritesFiles held contents failures stalled u v x z a b result (output_line a.style name e.file.outcome)
      (warning_line name e.warning ++ report_line a.style name e.file.outcome) (outcome_status e.file.outcome)
      → WritesEntries held contents failures stalled u v x z a b result (e ∷ [])
  one_written u v x z a b result name e is writes =
      let own = subst (λ n. WritesFiles held contents failures stalled u v x z a b result (output_line a.style n e.file.outcome)
      (warning_line n e.warning ++ report_line a.style n e.file.outcome) (outcome_status e.file.outcome)) is writes in record {
        written = subst (λ l. WritesText (held u) (held v) l result) (one_line (output_line a.style (bytes_of_name e.file.name) e.file.outcome)) own.written;
        reported = subst (TellsOn contents failures stalled a.tells b.tells x z) (one_line (entry_report a.style e)) own.reported;
        status = at b.status a.status (outcome_status e.file.outcome) own.status;
      }
    where
      at : (m n s : ℕ) → m ≡ max n s → m ≡ max n (max s 0)
      at m n s is = omega (arith, is)

  pub entry_of : (u v : W) (x z : E) (a b : Outputs) (result : Result (Unit {0}) Kind) (form : KeyForm) (number : ℕ) (piece name : List ℕ) (came : Outcome)
      (warning : Option Warning) → name ≡ decimal number → IsOutcomeOfPiece form piece came → warning ≡ warning_with came piece
      → WritesEntry held contents failures stalled u v x z a b result name came warning
      → (e : PatternEntry) × IsEntryOf form number piece e × WritesEntries held contents failures stalled u v x z a b result (e ∷ [])
  entry_of u v x z a b result form number piece name came warning is comes warned wrote =
      let e : PatternEntry = record { file = record { name = Listed (decimal number); outcome = wrote.reported }; warning = warning } in (
        e,
        record { name = refl; came = came; comes = comes; reported = wrote.how; warning = warned },
        one_written u v x z a b result name e is wrote.writes,
      )

  -- ---- pieces that are processed

  -- no byte came yet
  pub pieces_none : (form : KeyForm) (n : ℕ) (begun : List ℕ) (u : W) (x : E) (a : Outputs) → (a.tells ≡ true → failures x ≡ 0)
      → TakesPieces held contents failures stalled form n n begun [] begun u u x x a a (Ok tt)
  pieces_none form n begun u x a hears = record {
    pieces = [];
    entries = [];
    split = λ more. refl;
    are = tt;
    count = omega arith;
    few = omega arith;
    writes = written_none u x a hears;
  }

  pub pieces_start : (form : KeyForm) (n : ℕ) (begun : List ℕ) (u : W) (x : E) (a : Outputs) → n ≡ 0 → (a.tells ≡ true → failures x ≡ 0)
      → TakesPieces held contents failures stalled form 0 n begun [] begun u u x x a a (Ok tt)
  pieces_start form n begun u x a none hears =
      subst (λ k. TakesPieces held contents failures stalled form 0 k begun [] begun u u x x a a (Ok tt)) (sym none) (pieces_none form 0 begun u x a hears)

  -- further bytes, of the piece that is begun
  pieces_rest : (form : KeyForm) (n m : ℕ) (begun prefix left bytes : List ℕ) (u v : W) (x y : E) (a b : Outputs) (result : Result (Unit {0}) Kind)
      → TakesPieces held contents failures stalled form n m begun prefix left u v x y a b result
      → TakesPieces held contents failures stalled form n m begun (prefix ++ bytes) (left ++ bytes) u v x y a b result
  pieces_rest form n m begun prefix left bytes u v x y a b result p = record {
    pieces = p.pieces;
    entries = p.entries;
    split = λ more. ap (λ l. patterns_of (begun ++ l)) (append_assoc prefix bytes more) ∙ p.split (bytes ++ more)
        ∙ ap (λ l. p.pieces ++ patterns_of l) (sym (append_assoc left bytes more));
    are = p.are;
    count = p.count;
    few = subst (λ k. length p.pieces ≤ k) (sym (length-append prefix bytes)) (at (length p.pieces) (length prefix) (length bytes) p.few);
    writes = p.writes;
  }
    where
      at : (i j k : ℕ) → i ≤ j → i ≤ j + k
      at i j k le = omega (arith, le)

  -- the same, where these are all bytes
  pub pieces_all : (form : KeyForm) (n m : ℕ) (begun prefix left bytes chunk : List ℕ) (u v : W) (x y : E) (a b : Outputs) (result : Result (Unit {0}) Kind)
      → chunk ≡ prefix ++ bytes → TakesPieces held contents failures stalled form n m begun prefix left u v x y a b result
      → TakesPieces held contents failures stalled form n m begun chunk (left ++ bytes) u v x y a b result
  pieces_all form n m begun prefix left bytes chunk u v x y a b result is p =
      subst (λ l. TakesPieces held contents failures stalled form n m begun l (left ++ bytes) u v x y a b result) (sym is)
      (pieces_rest form n m begun prefix left bytes u v x y a b result p)

  -- pieces, and then further ones of the bytes that follow
  pieces_then : (form : KeyForm) (n m k : ℕ) (begun prefix back left last : List ℕ) (u v w : W) (x y z : E) (a b c : Outputs)
      (result : Result (Unit {0}) Kind) → b.style ≡ a.style → TakesPieces held contents failures stalled form n m begun prefix left u v x y a b (Ok tt)
      → TakesPieces held contents failures stalled form m k left back last v w y z b c result
      → TakesPieces held contents failures stalled form n k begun (prefix ++ back) last u w x z a c result
  pieces_then form n m k begun prefix back left last u v w x y z a b c result same p q = record {
    pieces = p.pieces ++ q.pieces;
    entries = p.entries ++ q.entries;
    split = λ more. ap (λ l. patterns_of (begun ++ l)) (append_assoc prefix back more) ∙ p.split (back ++ more)
        ∙ ap (λ l. p.pieces ++ l) (q.split more) ∙ sym (append_assoc p.pieces q.pieces (patterns_of (last ++ more)));
    are = entries_then form (n + 1) (m + 1) p.pieces q.pieces p.entries q.entries (next n m (length p.pieces) p.count) p.are q.are;
    count = subst (λ l. k ≡ n + l) (sym (length-append p.pieces q.pieces)) (sum n m k (length p.pieces) (length q.pieces) p.count q.count);
    few = subst₂ (λ i j. i ≤ j) (sym (length-append p.pieces q.pieces)) (sym (length-append prefix back))
        (both (length p.pieces) (length q.pieces) (length prefix) (length back) p.few q.few);
    writes = written_then u v w x y z a b c result p.entries q.entries same p.writes q.writes;
  }
    where
      next : (n m l : ℕ) → m ≡ n + l → m + 1 ≡ n + 1 + l
      next n m l is = omega (arith, is)

      sum : (n m k l j : ℕ) → m ≡ n + l → k ≡ m + j → k ≡ n + (l + j)
      sum n m k l j p q = omega (arith, p, q)

      both : (i j f b : ℕ) → i ≤ f → j ≤ b → i + j ≤ f + b
      both i j f b p q = omega (arith, p, q)

  pub pieces_on : (form form' : KeyForm) (n m k : ℕ) (begun prefix back left last : List ℕ) (u v w : W) (x y z : E) (a b c : Outputs)
      (result : Result (Unit {0}) Kind) → form' ≡ form → b.style ≡ a.style
      → TakesPieces held contents failures stalled form n m begun prefix left u v x y a b (Ok tt)
      → TakesPieces held contents failures stalled form' m k left back last v w y z b c result
      → TakesPieces held contents failures stalled form n k begun (prefix ++ back) last u w x z a c result
  pieces_on form form' n m k begun prefix back left last u v w x y z a b c result is same p q =
      pieces_then form n m k begun prefix back left last u v w x y z a b c result same p
      (subst (λ f. TakesPieces held contents failures stalled f m k left back last v w y z b c result) is q)

  -- a piece that ends
  piece_processed : (form : KeyForm) (n : ℕ) (begun bytes : List ℕ) (u v : W) (x y : E) (a b : Outputs) (result : Result (Unit {0}) Kind)
      → LacksNul begun → LacksNul bytes
      → (e : PatternEntry) × IsEntryOf form (n + 1) (begun ++ bytes) e × WritesEntries held contents failures stalled u v x y a b result (e ∷ [])
      → TakesPieces held contents failures stalled form n (n + 1) begun (bytes ++ 0 ∷ []) [] u v x y a b result
  piece_processed form n begun bytes u v x y a b result before none (e, is, writes) = record {
    pieces = (begun ++ bytes) ∷ [];
    entries = e ∷ [];
    split = λ more. ap (λ l. patterns_of (begun ++ l)) (append_assoc bytes (0 ∷ []) more) ∙ ap patterns_of (sym (append_assoc begun bytes (0 ∷ more)))
        ∙ piece_ended (begun ++ bytes) more (lacks_both begun bytes before none);
    are = (is, tt);
    count = refl;
    few = subst (λ k. 1 ≤ k) (sym (length-append bytes (0 ∷ []))) (omega arith);
    writes = writes;
  }

  -- pieces, and then the one that ends
  pub pieces_next : (form form' : KeyForm) (n m k : ℕ) (begun prefix left bytes back : List ℕ) (u v w : W) (x y z : E) (a b c : Outputs)
      (result : Result (Unit {0}) Kind) → form' ≡ form → k ≡ m + 1 → back ≡ bytes ++ 0 ∷ [] → b.style ≡ a.style → LacksNul left → LacksNul bytes
      → TakesPieces held contents failures stalled form n m begun prefix left u v x y a b (Ok tt)
      → (e : PatternEntry) × IsEntryOf form' (m + 1) (left ++ bytes) e × WritesEntries held contents failures stalled v w y z b c result (e ∷ [])
      → TakesPieces held contents failures stalled form n k begun (prefix ++ back) [] u w x z a c result
  pieces_next form form' n m k begun prefix left bytes back u v w x y z a b c result is_form is_next is_back same before none p entry =
      let one = subst (λ f. (e : PatternEntry) × IsEntryOf f (m + 1) (left ++ bytes) e
      × WritesEntries held contents failures stalled v w y z b c result (e ∷ [])) is_form entry in
      let here = piece_processed form m left bytes v w y z b c result before none one in
      pieces_then form n m k begun prefix back left [] u v w x y z a b c result same p
      (subst₂ (λ j l. TakesPieces held contents failures stalled form m j left l [] v w y z b c result) (sym is_next) (sym is_back) here)

  -- which error it is doesn't count
  pub pieces_err : (form : KeyForm) (n m : ℕ) (begun prefix left : List ℕ) (u v : W) (x y : E) (a b : Outputs) (k k' : Kind)
      → TakesPieces held contents failures stalled form n m begun prefix left u v x y a b (Err k)
      → TakesPieces held contents failures stalled form n m begun prefix left u v x y a b (Err k')
  pieces_err form n m begun prefix left u v x y a b k k' p = record {
    pieces = p.pieces;
    entries = p.entries;
    split = p.split;
    are = p.are;
    count = p.count;
    few = p.few;
    writes = written_err u v x y a b k k' p.entries p.writes;
  }

  -- ---- whole streams

  first_pieces : (form : KeyForm) (count : ℕ) (came left : List ℕ) (u v : W) (x y : E) (a b : Outputs) (result : Result (Unit {0}) Kind)
      → (p : TakesPieces held contents failures stalled form 0 count [] came left u v x y a b result) → BeginsWith came p.pieces
  first_pieces form count came left u v x y a b result p = λ more. (patterns_of (left ++ more), p.split more)

  -- a stream of which the output failed before its end
  pub partly_reported : (form : KeyForm) (source : SourceRun) (count : ℕ) (came left : List ℕ) (u v : W) (x y : E) (a b : Outputs) (k k' : Kind)
      → Consumes source.before source.after came → TakesPieces held contents failures stalled form 0 count [] came left u v x y a b (Err k)
      → (entries : List PatternEntry) × (is_all : Bool) × Unit {0} × TellsSource form source entries is_all
      × WritesEntries held contents failures stalled u v x y a b (Err k') entries
  partly_reported form source count came left u v x y a b k k' consumes p = (
    p.entries,
    false,
    tt,
    partly came p.pieces consumes (first_pieces form count came left u v x y a b (Err k) p) p.are refl,
    written_err u v x y a b k k' p.entries p.writes,
  )

  -- one that was read as far as it can be read
  pub stream_reported : (form form' : KeyForm) (source : SourceRun) (count : ℕ) (came left : List ℕ) (stop : Option Kind) (u v w : W) (x y z : E)
      (a b c : Outputs) (result : Result (Unit {0}) Kind) (entries : List PatternEntry) → form' ≡ form → b.style ≡ a.style
      → Consumes source.before source.after came → TakesPieces held contents failures stalled form 0 count [] came left u v x y a b (Ok tt)
      → MatchOption stop (IsAtEnd source.after × (source.failures ≡ 0)) (BreaksStream source) → TellsStreamEnd form' count stop left entries
      → WritesEntries held contents failures stalled v w y z b c result entries
      → (all : List PatternEntry) × (is_all : Bool) × OnOk result (is_all ≡ true) × TellsSource form source all is_all
      × WritesEntries held contents failures stalled u w x z a c result all
  stream_reported form form' source count came left None u v w x y z a b c result entries is same consumes p end tells writes =
      let all = sym (ap patterns_of (append-nil came)) ∙ p.split [] ∙ ap (λ l. p.pieces ++ patterns_of l) (append-nil left) in
      let are = entries_then form 1 (count + 1) p.pieces (patterns_of left) p.entries entries (at count (length p.pieces) p.count) p.are
      (subst (λ f. AreEntriesFrom f (count + 1) (patterns_of left) entries) is tells) in (
        p.entries ++ entries,
        true,
        of_any result,
        whole came consumes end.0 end.1 (subst (λ ps. AreEntriesFrom form 1 ps (p.entries ++ entries)) (sym all) are),
        written_then u v w x y z a b c result p.entries entries same p.writes writes,
      )
    where
      at : (m l : ℕ) → m ≡ 0 + l → m + 1 ≡ 1 + l
      at m l is = omega (arith, is)

      of_any : (r : Result (Unit {0}) Kind) → OnOk r (true ≡ true)
      of_any (Ok ended) = refl
      of_any (Err kind) = tt
  stream_reported form form' source count came left (Some kind) u v w x y z a b c result entries is same consumes p breaks tells writes = (
    p.entries ++ entries,
    true,
    of_any result,
    broken came p.pieces p.entries kind consumes (first_pieces form count came left u v x y a b (Ok tt) p) p.are breaks
        (ap (λ l. p.entries ++ l) (tells ∙ ap (λ n. fault_entry (n + 1) kind ∷ []) (at count (length p.pieces) p.count))),
    written_then u v w x y z a b c result p.entries entries same p.writes writes,
  )
    where
      at : (m l : ℕ) → m ≡ 0 + l → m ≡ l
      at m l is = omega (arith, is)

      of_any : (r : Result (Unit {0}) Kind) → OnOk r (true ≡ true)
      of_any (Ok ended) = refl
      of_any (Err kind) = tt

  reported_unopened : (kind : _) (reported : Outcome) → IsReportedAs (Unopened kind) reported → reported ≡ Unopened kind
  reported_unopened kind reported (inl is) = is
  reported_unopened kind reported (inr (key, is, wants)) = absurd cc

  -- one that can't be opened
  pub unopened_reported : (u v : W) (x y : E) (a b : Outputs) (result : Result (Unit {0}) Kind) (name : List ℕ) (error : IoError) (kind : _)
      → kind ≡ error_kind error → WritesEntry held contents failures stalled u v x y a b result name (Unopened kind) None
      → (entries : List PatternEntry) × (is_all : Bool) × OnOk result (is_all ≡ true) × (entries ≡ unopened_entry name error ∷ [])
      × WritesEntries held contents failures stalled u v x y a b result entries
  unopened_reported u v x y a b result name error kind is wrote =
      let reported = reported_unopened kind wrote.reported wrote.how ∙ ap Unopened is in (
        unopened_entry name error ∷ [],
        true,
        of_any result,
        refl,
        one_written u v x y a b result name (unopened_entry name error) refl
            (subst (λ o. WritesFiles held contents failures stalled u v x y a b result (output_line a.style name o)
            (warning_line name None ++ report_line a.style name o) (outcome_status o)) reported wrote.writes),
      )
    where
      of_any : (r : Result (Unit {0}) Kind) → OnOk r (true ≡ true)
      of_any (Ok ended) = refl
      of_any (Err kind) = tt

module _ {F R W E : Type 0} (step : F → Origin → Result (OpenedFile R) IoError → F → Type 0) (remaining : R → Option (List ℕ)) (reads_failed : R → ℕ)
    (held : W → Option (List ℕ)) (w-failures : W → ℕ) (w-stalled : W → Bool)
    (contents : E → Option (List ℕ)) (failures : E → ℕ) (stalled : E → Bool) where
  -- what is reported of the stream that a plan names
  pub stream_tells : (plan : StreamPlan) (opener after : F) (given : Result (OpenedFile R) IoError) (name : List ℕ) (entries : List PatternEntry)
      (is_all : Bool) → OpenerGives step plan.stream.now opener given after → name ≡ plan.stream.now
      → TellsGiven remaining reads_failed plan.form name given entries is_all → TellsStream step remaining reads_failed plan opener entries is_all
  stream_tells plan opener after given name entries is_all opened is tells = record {
    given = given;
    after = after;
    opened = opened;
    tells = subst (λ n. TellsGiven remaining reads_failed plan.form n given entries is_all) is tells;
  }

  -- a run that comes to its end
  pub stream_through : (plan : StreamPlan) (opener : F) (u v : W) (x y : E) (a b : Outputs) (flushed : Bool) (entries : List PatternEntry) (is_all : Bool)
      → a.style ≡ style_by plan.json plan.zero → a.tells ≡ true → a.status ≡ 0 → is_all ≡ true
      → TellsStream step remaining reads_failed plan opener entries is_all
      → WritesEntries held contents failures stalled u v x y a b (Ok tt) entries → flushed ≡ true
      → StreamRan step remaining reads_failed plan opener (sink_run held w-failures w-stalled u v) (sink_run contents failures stalled x y) flushed b.status
  stream_through plan opener u v x y a b flushed entries is_all is_style hears none all tells p is_flushed =
      through entries (subst (TellsStream step remaining reads_failed plan opener entries) all tells)
      (subst (λ s. Appends (held u) (held v) (entry_lines s entries)) is_style p.written) is_flushed
      (tells_all contents failures stalled b.tells x y (entry_reports (style_by plan.json plan.zero) entries)
      (subst (λ s. TellsOn contents failures stalled true b.tells x y (entry_reports s entries)) is_style
      (subst (λ t. TellsOn contents failures stalled t b.tells x y (entry_reports a.style entries)) hears p.reported)))
      (from_none a.status b.status (entry_status entries) p.status none)

  -- a run that is broken off
  pub stream_broken : (plan : StreamPlan) (opener : F) (u v : W) (x y z : E) (a b : Outputs) (flushed : Bool) (entries : List PatternEntry) (is_all : Bool)
      (kind : Kind) (status : ℕ) → a.style ≡ style_by plan.json plan.zero → a.tells ≡ true
      → TellsStream step remaining reads_failed plan opener entries is_all
      → WritesEntries held contents failures stalled u v x y a b (Err kind) entries → kind ≡ kinds.WriteFault
      → (w-failures v ≡ 1) ⊎ (w-stalled v ≡ true)
      → (b.tells ≡ true → Reports (sink_run contents failures stalled y z) (fault_line (refusal_of (fault_of kind)))) → (b.tells ≡ false → z ≡ y)
      → status ≡ status_of kind
      → StreamRan step remaining reads_failed plan opener (sink_run held w-failures w-stalled u v) (sink_run contents failures stalled x z) flushed status
  stream_broken plan opener u v x y z a b flushed entries is_all kind status is_style hears tells p is cause reported silent is_status =
      broken_off entries is_all tells (subst (λ s. WritesPrefix (held u) (held v) (entry_lines s entries)) is_style p.written) cause
      (subst (λ k. Reports (sink_run contents failures stalled x z) (entry_reports (style_by plan.json plan.zero) entries
      ++ fault_line (refusal_of (fault_of k)))) is
      (broken_tells contents failures stalled b.tells x y z (entry_reports (style_by plan.json plan.zero) entries) _
      (subst (λ s. TellsOn contents failures stalled true b.tells x y (entry_reports s entries)) is_style
      (subst (λ t. TellsOn contents failures stalled t b.tells x y (entry_reports a.style entries)) hears p.reported)) reported silent))
      (is_status ∙ ap status_of is)

  -- and the status of one that comes to its end
  pub stream_status : (u v : W) (x y : E) (a b : Outputs) (result : Result (Unit {0}) Kind) (entries : List PatternEntry) → a.status ≡ 0
      → WritesEntries held contents failures stalled u v x y a b result entries → IsStatus b.status
  stream_status u v x y a b result entries none p =
      subst IsStatus (sym (from_none a.status b.status (entry_status entries) p.status none)) (greatest_is (map (λ (e : PatternEntry). e.file) entries))
