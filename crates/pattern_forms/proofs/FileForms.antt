-- From patterns in a store that are taken in a form to their files.
use Rattle.std.proofs.Common.{◌≡◌, ◌↔◌, ◌∙◌, ℕ, ◌⊎◌, inl, inr, ap, sym, subst, Bool, true, false, List, Result, Ok, Err, IfOk, IfErr, OnOk, IsTrue}
use Rattle.life_base.specs.Refusal.{OrMemory, fault_of}
use Rattle.life_base.specs.Rules.{IsRule}
use Rattle.life_base.specs.Text.{lines_of}
use Rattle.life_base.specs.declared.cell.TheConstants.{MAX_LEVEL}
use Rattle.life_base.specs.declared.fault.Fault.{Fault}
use Rattle.life_base.specs.declared.kind.Kind.{Kind}
use Rattle.life_base.specs.declared.kind.Kind.TheVariants.{Full, Memory, OutOfPlane}
use Rattle.life_quad.specs.Store.{Nodes}
use Rattle.life_pattern.specs.Files.{Reads}
use Rattle.life_pattern.specs.Laws.{FilesAreUnique, FilesAreOnPlane, PatternsFit}
use Rattle.life_pattern.specs.Store.{ForEachFile, IsOfFile, IsRead, IsTrimmed, universe_in}
use Rattle.life_pattern.specs.Universe.{Universe}
use Rattle.life_pattern.specs.declared.pattern.Pattern.{Pattern}
use Rattle.life_pattern.proofs.Sameness.{same-is_one}
use Rattle.life_phase_forms.specs.OfFile.{FileLeavesUnderway, IsPhasesTextOf, RefusesOneOfTwo, RefusesPhases, SayOneCourse}
use Rattle.life_phase_forms.specs.Phases.{AreOfOneCourse}
use Rattle.life_phase_forms.specs.declared.compare.FaultOfTwo.{FaultOfTwo}
use Rattle.pattern_forms.specs.InForm.{FileLacksForm, ForEachTwoFiles, IsFirstToLack, IsFormText, IsTextWithin, LacksFormIn, OneFileLacksForm, OneLacksFormIn, RefusesFormFor, SayRelated, of_two}
use Rattle.life_base.specs.declared.form.Form.{Form}
use Rattle.life_base.specs.declared.form.Form.TheVariants.{Placed, Moved, Turned, Phases}

-- neither of two, from what is known of each
pub neither : {P Q : Type 0} → ¬ P × ¬ Q → P ⊎ Q → ⊥
neither none (inl p) = none.0 p
neither none (inr q) = none.1 q

-- what holds in any case
pub in-any-case : {X P : Type 0} (r : Result X Fault) → P → OnOk r P
in-any-case (Ok x) p = p
in-any-case (Err fault) p = tt

-- a fault has one kind
kinds-differ : (fault : Fault) (one other : Kind) → fault ≡ fault_of one → fault ≡ fault_of other → one ≡ other
kinds-differ fault one other is was = ap (λ (f : Fault). f.kind) (sym is ∙ was)

-- what is known of an answer is known of the same answer whose fault is one of two patterns
module _ (r : Result Bool Fault) (m : Result Bool FaultOfTwo) (same : IfOk r (λ answer. m ≡ Ok answer)) (refused : IfErr r (λ fault. m ≡ Err (of_two fault)))
  where
    pub two-ok : (P : Bool → Type 0) → IfOk r P → IfOk m P
    two-ok P h = go r same refused h
      where
        go : (r : Result Bool Fault) → IfOk r (λ answer. m ≡ Ok answer) → IfErr r (λ fault. m ≡ Err (of_two fault)) → IfOk r P → IfOk m P
        go (Ok answer) is failed h = subst (λ (v : Result Bool FaultOfTwo). IfOk v P) (sym is) h
        go (Err fault) is failed h = subst (λ (v : Result Bool FaultOfTwo). IfOk v P) (sym failed) tt

    pub two-on : (P : Type 0) → OnOk r P → OnOk m P
    two-on P h = two-ok (λ _. P) h

    pub two-err : (P : Fault → Type 0) → IfErr r P → IfErr m (λ it. P it.fault)
    two-err P h = go r same refused h
      where
        go : (r : Result Bool Fault) → IfOk r (λ answer. m ≡ Ok answer) → IfErr r (λ fault. m ≡ Err (of_two fault)) → IfErr r P
            → IfErr m (λ it. P it.fault)
        go (Ok answer) is failed h = subst (λ (v : Result Bool FaultOfTwo). IfErr v (λ it. P it.fault)) (sym is) tt
        go (Err fault) is failed h = subst (λ (v : Result Bool FaultOfTwo). IfErr v (λ it. P it.fault)) (sym failed) h

    -- of a form whose patterns are refused for their squares alone
    pub two-full : (Reason : Fault → Type 0) (P : FaultOfTwo → Type 0) → IfErr r (λ fault. OrMemory fault (Reason fault))
        → ((fault : Fault) → Reason fault → fault ≡ fault_of Full) → IfErr m (λ it. it.fault ≡ fault_of OutOfPlane → P it)
    two-full Reason P h full = go r same refused h
      where
        Says : Result Bool FaultOfTwo → Type 0
        Says v = IfErr v (λ it. it.fault ≡ fault_of OutOfPlane → P it)

        none : (fault : Fault) → OrMemory fault (Reason fault) → fault ≡ fault_of OutOfPlane → ⊥
        none fault (inl memory) out = let bad : Memory ≡ OutOfPlane = kinds-differ fault Memory OutOfPlane memory out in absurd cc
        none fault (inr reason) out = let bad : Full ≡ OutOfPlane = kinds-differ fault Full OutOfPlane (full fault reason) out in absurd cc

        go : (r : Result Bool Fault) → IfOk r (λ answer. m ≡ Ok answer) → IfErr r (λ fault. m ≡ Err (of_two fault))
            → IfErr r (λ fault. OrMemory fault (Reason fault)) → Says m
        go (Ok answer) is failed h = subst Says (sym is) tt
        go (Err fault) is failed h = subst Says (sym failed) (λ out. absurd (none fault h out))

-- a refusal for one reason is one for another that follows from it
pub for-reason : {P Q : Type 0} (form : Form) (fault : Fault) → (P → Q) → RefusesFormFor form P fault → RefusesFormFor form Q fault
for-reason Placed fault to h = (h.0, to h.1)
for-reason Moved fault to h = (h.0, to h.1)
for-reason Turned fault to h = (h.0, to h.1)
for-reason (Phases generations) fault to (inl h) = inl (h.0, to h.1)
for-reason (Phases generations) fault to (inr full) = inr full

module _ (fit : PatternsFit MAX_LEVEL) (store : Nodes) where
  pub is-trimmed : (p : Pattern) → IsOfFile MAX_LEVEL store p → IsTrimmed store p
  is-trimmed p of = (fit of.0 store p of.1).0

  -- what a pattern in a store says is what its file says
  says : (p : Pattern) (bytes : List ℕ) → IsRead MAX_LEVEL bytes store p → Reads MAX_LEVEL bytes (universe_in store p)
  says p bytes read =
      subst (λ (u : Universe). Reads MAX_LEVEL bytes u) (same-is_one read.universe (universe_in store p) (fit bytes store p read).1) read.reads

  -- the rule of a file's pattern is one
  pub is-rule : FilesAreOnPlane MAX_LEVEL → (p : Pattern) → IsOfFile MAX_LEVEL store p → IsRule p.rule
  is-rule on_plane p of = (on_plane of.0 (universe_in store p) (says p of.0 of.1)).rule

  module _ (form : Form) (most : ℕ) (p : Pattern) where
    -- a text of the pattern is that of its file
    text-in : (text : List ℕ) → IsFormText form MAX_LEVEL (universe_in store p) text → ¬ LacksFormIn form most (universe_in store p)
        → ForEachFile store p (λ bytes. IsTextWithin form MAX_LEVEL most bytes text)
    text-in text is has bytes read = go form is has
      where
        u : Universe
        u = universe_in store p

        go : (f : Form) → IsFormText f MAX_LEVEL u text → ¬ LacksFormIn f most u → IsTextWithin f MAX_LEVEL most bytes text
        go Placed is has = record { universe = u; reads = says p bytes read; is = is }
        go Moved is has = record { universe = u; reads = says p bytes read; has = has; is = is }
        go Turned is has = record { universe = u; reads = says p bytes read; has = has; is = is }
        go (Phases generations) is has = record { universe = u; reads = says p bytes read; has = has; is = is }

    pub form-text : {X : Type 0} (items : X → List ℕ) (r : Result X Fault) → IfOk r (λ x. IsFormText form MAX_LEVEL (universe_in store p) (items x))
        → OnOk r (¬ LacksFormIn form most (universe_in store p))
        → IfOk r (λ x. ForEachFile store p (λ bytes. IsTextWithin form MAX_LEVEL most bytes (items x)))
    form-text items (Ok x) is small = text-in (items x) is small
    form-text items (Err fault) is small = tt

    -- why there is none
    pub form-fault : {X : Type 0} (r : Result X Fault)
        → IfErr r (λ fault. OrMemory fault (RefusesFormFor form (LacksFormIn form most (universe_in store p)) fault))
        → IfErr r (λ fault. OrMemory fault (ForEachFile store p (λ bytes. RefusesFormFor form (FileLacksForm form MAX_LEVEL most bytes) fault)))
    form-fault (Ok x) why = tt
    form-fault (Err fault) (inl memory) = inl memory
    form-fault (Err fault) (inr why) =
        inr (λ bytes read. for-reason form fault (λ lacks. (universe_in store p, says p bytes read, lacks)) why)

  -- what two patterns are to each other, their files are
  module _ (relates : Universe → Universe → Type 0) (p q : Pattern) where
    related : relates (universe_in store p) (universe_in store q) → ForEachTwoFiles store p q (λ a b. SayRelated relates MAX_LEVEL a b)
    related holds a b one other = record {
      first = universe_in store p;
      second = universe_in store q;
      reads_first = says p a one;
      reads_second = says q b other;
      related = holds;
    }

    are-related : FilesAreUnique MAX_LEVEL
        → ForEachTwoFiles store p q (λ a b. SayRelated relates MAX_LEVEL a b → relates (universe_in store p) (universe_in store q))
    are-related unique a b one other are =
        let u = unique (lines_of a) are.first (universe_in store p) are.reads_first (says p a one) in
        let v = unique (lines_of b) are.second (universe_in store q) are.reads_second (says q b other) in
        subst (λ (w : Universe). relates w (universe_in store q)) u (subst (relates are.first) v are.related)

    pub two-answers : FilesAreUnique MAX_LEVEL → (r : Result Bool Fault)
        → IfOk r (λ answer. IsTrue answer ↔ relates (universe_in store p) (universe_in store q))
        → IfOk r (λ answer. ForEachTwoFiles store p q (λ a b. IsTrue answer ↔ SayRelated relates MAX_LEVEL a b))
    two-answers unique (Ok answer) is =
        λ a b one other. (λ yes. related (is.0 yes) a b one other, λ are. is.1 (are-related unique a b one other are))
    two-answers unique (Err fault) is = tt

    pub two-small : FilesAreUnique MAX_LEVEL → (r : Result Bool Fault) → OnOk r (¬ relates (universe_in store p) (universe_in store q))
        → OnOk r (ForEachTwoFiles store p q (λ a b. ¬ SayRelated relates MAX_LEVEL a b))
    two-small unique (Ok answer) none = λ a b one other are. none (are-related unique a b one other are)
    two-small unique (Err fault) none = tt

    pub two-fault : (form : Form) (r : Result Bool Fault)
        → IfErr r (λ fault. OrMemory fault (RefusesFormFor form (relates (universe_in store p) (universe_in store q)) fault))
        → IfErr r (λ fault. OrMemory fault (ForEachTwoFiles store p q (λ a b. RefusesFormFor form (SayRelated relates MAX_LEVEL a b) fault)))
    two-fault form (Ok answer) why = tt
    two-fault form (Err fault) (inl memory) = inl memory
    two-fault form (Err fault) (inr why) = inr (λ a b one other. for-reason form fault (λ holds. related holds a b one other) why)

-- ---- for all phases

module _ (generations most : ℕ) where
  pub phases-text : (bytes text : List ℕ) → IsPhasesTextOf generations bytes text → IsTextWithin (Phases generations) MAX_LEVEL most bytes text
  phases-text bytes text is = record { universe = is.universe; reads = is.reads; has = is.stays; is = is.is }

  pub phases-fault : (store : Nodes) (p : Pattern) (fault : Fault) → RefusesPhases generations store p fault
      → OrMemory fault (ForEachFile store p (λ bytes. RefusesFormFor (Phases generations) (FileLacksForm (Phases generations) MAX_LEVEL most bytes) fault))
  phases-fault store p fault (inl (inl memory)) = inl memory
  phases-fault store p fault (inl (inr full)) = inr (λ bytes read. inr full)
  phases-fault store p fault (inr leaves) = inr (λ bytes read. let why = leaves bytes read in inl (why.kind, (why.universe, why.reads, why.leaves)))

  pub one-course : (a b : List ℕ) → SayOneCourse generations a b ↔ SayRelated (AreOfOneCourse generations) MAX_LEVEL a b
  one-course a b = (
    λ s. record { first = s.first; second = s.second; reads_first = s.reads_first; reads_second = s.reads_second; related = s.course },
    λ s. record { first = s.first; second = s.second; reads_first = s.reads_first; reads_second = s.reads_second; course = s.related },
  )

  pub both-stay : (a b : List ℕ) → ¬ (FileLeavesUnderway generations a ⊎ FileLeavesUnderway generations b)
      → ¬ OneFileLacksForm (Phases generations) MAX_LEVEL most a b
  both-stay a b stay lacks = elim lacks.related [
    | inl leaves ↦ stay (inl (lacks.first, lacks.reads_first, leaves))
    | inr leaves ↦ stay (inr (lacks.second, lacks.reads_second, leaves))
  ]

  module _ (fit : PatternsFit MAX_LEVEL) (store : Nodes) (p q : Pattern) where
    -- a pattern that leaves the plane
    leaves-plane : (r : Pattern) (fault : Fault) → RefusesPhases generations store r fault → fault ≡ fault_of OutOfPlane
        → ForEachFile store r (λ bytes. FileLacksForm (Phases generations) MAX_LEVEL most bytes)
    leaves-plane r fault (inl (inl memory)) out = let bad : Memory ≡ OutOfPlane = kinds-differ fault Memory OutOfPlane memory out in absurd cc
    leaves-plane r fault (inl (inr full)) out = let bad : Full ≡ OutOfPlane = kinds-differ fault Full OutOfPlane full out in absurd cc
    leaves-plane r fault (inr leaves) out = λ bytes read. let why = leaves bytes read in (why.universe, why.reads, why.leaves)

    either-phases-fault : (fault : Fault) → RefusesPhases generations store p fault ⊎ RefusesPhases generations store q fault
        → OrMemory fault (ForEachTwoFiles store p q (λ a b. RefusesFormFor (Phases generations)
        (OneFileLacksForm (Phases generations) MAX_LEVEL most a b) fault))
    either-phases-fault fault (inl (inl (inl memory))) = inl memory
    either-phases-fault fault (inl (inl (inr full))) = inr (λ a b one other. inr full)
    either-phases-fault fault (inl (inr leaves)) = inr (λ a b one other.
        let why = leaves a one in inl (
          why.kind,
          record {
            first = why.universe;
            second = universe_in store q;
            reads_first = why.reads;
            reads_second = says fit store q b other;
            related = inl why.leaves;
          },
        ))
    either-phases-fault fault (inr (inl (inl memory))) = inl memory
    either-phases-fault fault (inr (inl (inr full))) = inr (λ a b one other. inr full)
    either-phases-fault fault (inr (inr leaves)) = inr (λ a b one other.
        let why = leaves b other in inl (
          why.kind,
          record {
            first = universe_in store p;
            second = why.universe;
            reads_first = says fit store p a one;
            reads_second = why.reads;
            related = inr why.leaves;
          },
        ))

    -- why one of two has no text, whichever it is
    one-of-two : (of_second : Bool) (fault : Fault) → RefusesOneOfTwo generations store p q of_second fault
        → RefusesPhases generations store p fault ⊎ RefusesPhases generations store q fault
    one-of-two false fault h = inl h
    one-of-two true fault h = inr h.1

    -- the one that leaves the plane is the first that does
    pub first-to-leave : (of_second : Bool) (fault : Fault) → RefusesOneOfTwo generations store p q of_second fault → fault ≡ fault_of OutOfPlane
        → ForEachTwoFiles store p q (λ a b. IsFirstToLack (Phases generations) MAX_LEVEL most of_second a b)
    first-to-leave false fault h out a b one other = leaves-plane p fault h out a one
    first-to-leave true fault h out a b one other = (h.0 a one, leaves-plane q fault h.1 out b other)

    pub two-phases-fault : (of_second : Bool) (fault : Fault) → RefusesOneOfTwo generations store p q of_second fault
        → OrMemory fault (ForEachTwoFiles store p q (λ a b. RefusesFormFor (Phases generations)
        (OneFileLacksForm (Phases generations) MAX_LEVEL most a b) fault))
    two-phases-fault of_second fault h = either-phases-fault fault (one-of-two of_second fault h)
