-- What the texts tell, of patterns of the plane and of files.
use Rattle.std.proofs.Common.{◌≡◌, ℕ, ◌+◌, ◌≤◌, Bool, true, false, List, refl, sym, ◌∙◌, subst, lit≤}
use Rattle.life_base.specs.Sets.{OuterTotalistic}
use Rattle.life_base.specs.Text.{lines_of}
use Rattle.life_base.specs.declared.cell.TheConstants.{MAX_LEVEL}
use Rattle.life_base.specs.declared.fault.Fault.{Fault}
use Rattle.life_quad.specs.Store.{Nodes}
use Rattle.life_pattern.specs.Files.{Reads, as_macrocell}
use Rattle.life_pattern.specs.Laws.{FilesAreOnPlane, FilesAreUnique}
use Rattle.life_writer.specs.Laws.{TextsAreFiles, TextsTellUniverses}
use Rattle.life_writer.specs.Listing.{canon_text, canonical_file}
use Rattle.life_pattern.specs.Store.{ForEachFile}
use Rattle.life_pattern.specs.Universe.{Universe, IsOnPlane, macrocell_universe}
use Rattle.life_pattern.specs.declared.pattern.Pattern.{Pattern}
use Rattle.life_forms.specs.Forms.{IsTurnedShift}
use Rattle.life_forms.specs.Images.{IsTurnedText}
use Rattle.life_forms.proofs.LeastFacts.{turned-on-plane, turned-shift-sym, turned-texts}
use Rattle.life_forms.proofs.ShiftFacts.{same-refl, shift-trans, still}
use Rattle.life_phases.specs.declared.period.Period.{Period}
use Rattle.life_phase_forms.specs.Laws.{IsFileOfCourse, PhasesTextsAreFiles, PhasesTextsTellFiles}
use Rattle.life_phase_forms.specs.OfFile.{FileLeavesUnderway, IsPhasesTextOf, RefusesOneOfTwo, RefusesPhases, SayOneCourse}
use Rattle.life_phase_forms.specs.Phases.{AreOfOneCourse, HasPhases, IsPhasesText, LeavesUnderway, begun, in_one_phase, in_two_phases, of_pattern, of_phases, phase}
use Rattle.life_phase_forms.proofs.CourseLemmas.{comes-again, phase-adds, phase-turned, turned-of-shift, turned-trans}
use Rattle.life_phase_forms.proofs.PlaneLemmas.{IsMovedToPlane, begun-on-plane, phase-on-plane}
use Rattle.life_phase_forms.proofs.SameLemmas.{has-period, returns-of, same-rules, same-text}
use Rattle.life_phase_forms.proofs.TextLemmas.{turned-again}

some : 1 ≤ MAX_LEVEL
some = lit≤ tt

module _ (tells : TextsTellUniverses MAX_LEVEL) where
  -- patterns with one text, which may be moved to the plane
  texts-tell : (u v w z : Universe) (x y : List ℕ) → IsMovedToPlane u w → IsMovedToPlane v z → IsTurnedText MAX_LEVEL u x → IsTurnedText MAX_LEVEL v y
      → x ≡ y → IsTurnedShift u v
  texts-tell u v w z x y m n first second e =
      let there = turned-of-shift u w m.shift in
      let also = turned-of-shift v z n.shift in
      let h = turned-again MAX_LEVEL u w x there first in
      let k = turned-again MAX_LEVEL v z y also second in
      let t = (turned-texts MAX_LEVEL (canon_text MAX_LEVEL) tells some w z h.form k.form m.plane n.plane h.turned k.turned).0 (sym h.is ∙ e ∙ k.is) in
      turned-trans u w v there (turned-trans w z v t (turned-shift-sym v z also))

  module _ (most : ℕ) (u v : Universe) (p : IsOnPlane MAX_LEVEL u) (q : IsOnPlane MAX_LEVEL v) (stays : ¬ (LeavesUnderway most u))
      (keeps : ¬ (LeavesUnderway most v)) (x y : List ℕ) where
    here : (w : Universe) → IsOnPlane MAX_LEVEL w → IsMovedToPlane (begun w) (begun w)
    here w plane = record { shift = still _ _ (same-refl (begun w)); plane = begun-on-plane w plane }

    both-later : (rule : OuterTotalistic) (a b : Period) → HasPhases most u rule a → HasPhases most v rule b → (k l : ℕ)
        → IsTurnedShift (phase rule k u) (phase rule l v) → AreOfOneCourse most u v
    both-later rule a b h j k l t =
        let again = comes-again rule b.generations j.least.is.some v (returns-of most v rule b j) l in
        let m = again.0 in
        let there : IsTurnedShift (phase rule (m + k) u) (phase rule (m + l) v) =
        subst (λ w. IsTurnedShift w (phase rule (m + l) v)) (phase-adds rule m k u)
        (subst (IsTurnedShift (phase rule m (phase rule k u))) (phase-adds rule m l v) (phase-turned rule m _ _ t)) in
        in_two_phases rule a h (m + k) (turned-trans _ _ (begun v) there (turned-shift-sym (begun v) (phase rule (m + l) v) again.1))

    tell : x ≡ y → IsPhasesText MAX_LEVEL most u x → IsPhasesText MAX_LEVEL most v y → AreOfOneCourse most u v
    tell e (of_pattern none first) (of_pattern never second) =
        in_one_phase (texts-tell (begun u) (begun v) _ _ x y (here u p) (here v q) first second e)
    tell e (of_phases rule a h first) (of_pattern never second) =
        let m = phase-on-plane most u p rule a h stays first.number first.below in
        absurd (has-period most u v rule a h first.number (texts-tell _ (begun v) _ _ x y m.1 (here v q) first.is second e) never)
    tell e (of_pattern none first) (of_phases rule b j second) =
        let n = phase-on-plane most v q rule b j keeps second.number second.below in
        absurd (has-period most v u rule b j second.number (texts-tell _ (begun u) _ _ y x n.1 (here u p) second.is first (sym e)) none)
    tell e (of_phases rule a h first) (of_phases other b j second) =
        let m = phase-on-plane most u p rule a h stays first.number first.below in
        let n = phase-on-plane most v q other b j keeps second.number second.below in
        let t = texts-tell _ _ _ _ x y m.1 n.1 first.is second.is e in
        let same : other ≡ rule = sym (same-rules u v rule other t.shift.rule h.under j.under) in
        both-later rule a b h (subst (λ r. HasPhases most v r b) same j) first.number second.number
        (subst (λ r. IsTurnedShift (phase rule first.number u) (phase r second.number v)) same t)

  course-between : FilesAreUnique MAX_LEVEL → (most : ℕ) (a b : List ℕ) (u v : Universe) → Reads MAX_LEVEL a u → Reads MAX_LEVEL b v → SayOneCourse most a b
      → AreOfOneCourse most u v
  course-between unique most a b u v r s h =
      let first : h.first ≡ u = unique (lines_of a) h.first u h.reads_first r in
      let second : h.second ≡ v = unique (lines_of b) h.second v h.reads_second s in
      subst (AreOfOneCourse most u) second (subst (λ w. AreOfOneCourse most w h.second) first h.course)

  pub texts-tell-files : FilesAreOnPlane MAX_LEVEL → FilesAreUnique MAX_LEVEL → PhasesTextsTellFiles
  texts-tell-files on-plane unique most a b x y first second = (
    λ e. record {
      first = first.universe;
      second = second.universe;
      reads_first = first.reads;
      reads_second = second.reads;
      course = tell most first.universe second.universe (on-plane a first.universe first.reads) (on-plane b second.universe second.reads) first.stays
          second.stays x y e first.is second.is;
    },
    λ h. same-text most MAX_LEVEL first.universe second.universe x y
        (course-between unique most a b first.universe second.universe first.reads second.reads h) first.is second.is,
  )

  -- ---- the text is a file

  begun-turned : (u v : Universe) → IsTurnedShift u v → IsTurnedShift (begun u) (begun v)
  begun-turned u v t = let s = t.shift in record {
    turn = t.turn;
    shift = record { rule = s.rule; generation = refl; columns = s.columns; rows = s.rows; cells = s.cells };
  }

  -- what the text of a pattern of the plane says as a file
  record IsFileOfTurned (u : Universe) (text : List ℕ) : Type 0 where
    file : Universe
    reads : Reads MAX_LEVEL text file
    turned : IsTurnedShift u file
    canonical : text ≡ canon_text MAX_LEVEL file

  module _ (on-plane : FilesAreOnPlane MAX_LEVEL) (are-files : TextsAreFiles MAX_LEVEL) where
    file-of : (u w : Universe) (text : List ℕ) → IsMovedToPlane u w → IsTurnedText MAX_LEVEL u text → IsFileOfTurned u text
    file-of u w text m h =
        let there = turned-of-shift u w m.shift in
        let k = turned-again MAX_LEVEL u w text there h in
        let form = k.form in
        let plane = turned-on-plane MAX_LEVEL (canon_text MAX_LEVEL) some w form m.plane k.turned in
        let file = macrocell_universe (canonical_file MAX_LEVEL form) in
        let says = are-files form plane in
        let reads : Reads MAX_LEVEL (canon_text MAX_LEVEL form) file = as_macrocell _ says.0 in
        let other = on-plane (canon_text MAX_LEVEL form) file reads in
        let t : IsTurnedShift w file = record { turn = k.turned.turn; shift = shift-trans _ _ _ k.turned.moved.shift (still form file says.1) } in
        record {
          file = file;
          reads = subst (λ s. Reads MAX_LEVEL s file) (sym k.is) reads;
          turned = turned-trans u w file there t;
          canonical = k.is ∙ (tells form file plane other).1 says.1;
        }

    course-of : (most : ℕ) (u : Universe) → IsOnPlane MAX_LEVEL u → ¬ (LeavesUnderway most u) → (text : List ℕ) → IsPhasesText MAX_LEVEL most u text
        → IsFileOfCourse most u text
    course-of most u plane stays text (of_pattern none h) =
        let f = file-of (begun u) (begun u) text (record { shift = still _ _ (same-refl (begun u)); plane = begun-on-plane u plane }) h in
        let course : AreOfOneCourse most u f.file = in_one_phase (begun-turned (begun u) f.file f.turned) in
        record {
          file = f.file;
          reads = f.reads;
          course = course;
          canonical = f.canonical;
          fixed = λ other is. sym (same-text most MAX_LEVEL u f.file text other course (of_pattern none h) is);
        }
    course-of most u plane stays text (of_phases rule period h least) =
        let m = phase-on-plane most u plane rule period h stays least.number least.below in
        let f = file-of (phase rule least.number u) m.0 text m.1 least.is in
        let course : AreOfOneCourse most u f.file =
        in_two_phases rule period h least.number (begun-turned (phase rule least.number u) f.file f.turned) in
        record {
          file = f.file;
          reads = f.reads;
          course = course;
          canonical = f.canonical;
          fixed = λ other is. sym (same-text most MAX_LEVEL u f.file text other course (of_phases rule period h least) is);
        }

    pub texts-are-files : PhasesTextsAreFiles
    texts-are-files most bytes text h = course-of most h.universe (on-plane bytes h.universe h.reads) h.stays text h.is

-- the pattern of a file that has a text doesn't leave the plane before its period is found
pub stays-of : FilesAreUnique MAX_LEVEL → (most : ℕ) (bytes text : List ℕ) → IsPhasesTextOf most bytes text → ¬ FileLeavesUnderway most bytes
stays-of unique most bytes text is leave =
    is.stays (subst (λ (u : Universe). LeavesUnderway most u) (unique (lines_of bytes) leave.0 is.universe leave.1 is.reads) leave.2)

-- two patterns aren't compared: the first has no text
pub of-first : (most : ℕ) (store : Nodes) (first second : Pattern) (of_second : Bool) (fault : Fault) → of_second ≡ false
    → RefusesPhases most store first fault → RefusesOneOfTwo most store first second of_second fault
of-first most store first second of_second fault is refuses =
    subst (λ (flag : Bool). RefusesOneOfTwo most store first second flag fault) (sym is) refuses

-- or the second has none
pub of-second : (most : ℕ) (store : Nodes) (first second : Pattern) (of_second : Bool) (fault : Fault) → of_second ≡ true
    → ForEachFile store first (λ bytes. ¬ FileLeavesUnderway most bytes) → RefusesPhases most store second fault
    → RefusesOneOfTwo most store first second of_second fault
of-second most store first second of_second fault is stays refuses =
    subst (λ (flag : Bool). RefusesOneOfTwo most store first second flag fault) (sym is) (stays, refuses)
