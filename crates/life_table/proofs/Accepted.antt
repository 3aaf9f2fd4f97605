-- Lines are accepted exactly if they write a table, and no transition is dropped.
use Rattle.std.proofs.Common.{◌≡◌, ℕ, ◌+◌, List, [], ◌∷◌, map, Bool, true, false, refl, ap, sym, ◌∙◌, subst, ◌&&◌, inl, inr, length, take, Option, Some, None, if◌then◌else◌, is_some, is_none, All, filter, slice_get, option_map, ◌==◌}
use Rattle.std.specs.List.{cons_option}
use Rattle.std.proofs.lemmas.List.Elements.{All-head, All-tail, All-weaker}
use Rattle.life_base.specs.Text.{numbered_from}
use Rattle.life_base.specs.declared.kind.Kind.TheVariants.{NoRuleLine, NoTable, BadDescriptor}
use Rattle.life_table.specs.Valid.{neighbour_count}
use Rattle.life_table.specs.Reading.{NumberedLine, texts_of_lines, table_texts, Describes, parsed_by, missing_part_of, is_ahead, is_descriptor, states_of, neighborhood_of, symmetry_of, variables_in, variables_written, transitions_in, transitions_written, is_transition_line, transition_of, transition_from, entries_of}
use Rattle.life_table.specs.Reader.{IsGood}
use Rattle.life_table.specs.Laws.{AcceptedWritesTable, NothingDropped, HasAll, HasSetting}
use Rattle.life_table.specs.declared.directive.Parsed.{Parsed}
use Rattle.life_table.specs.declared.table.Neighborhood.{Neighborhood}
use Rattle.life_table.specs.declared.table.Symmetry.{Symmetry}
use Rattle.life_table.specs.declared.table.Var.{Var}
use Rattle.life_table.specs.declared.table.Entry.{Entry}
use Rattle.life_table.specs.declared.table.Transition.{Transition}
use Rattle.life_table.specs.declared.table.Table.{Table}
use Rattle.life_table.proofs.ByLines.{reach, missing_is}
use Rattle.life_table.proofs.Good.{sound_of}
use Rattle.life_table.proofs.Keeping.{Settled, AreSettled, AreVariables}
use Rattle.life_table.proofs.Saying.{TextsStand}
use Rattle.life_table.proofs.Texts.{mapped, followed, IsRead}
use Rattle.life_table.proofs.Values.{tested}

-- nothing is lacking: all parts are there
record Whole (name : Option (List ℕ)) (on : Option ℕ) (oh : Option Neighborhood) (oy : Option Symmetry) : Type 0 where
  title : List ℕ
  is_title : name ≡ Some title
  n : ℕ
  is_n : on ≡ Some n
  h : Neighborhood
  is_h : oh ≡ Some h
  y : Symmetry
  is_y : oy ≡ Some y

whole_of : (name : Option (List ℕ)) (a : Bool) (on : Option ℕ) (oh : Option Neighborhood) (oy : Option Symmetry)
    → (if is_none name then Some NoRuleLine else (if a then Some NoTable else (if is_some on && is_some oh && is_some oy then None else Some BadDescriptor)))
    ≡ None → Whole name on oh oy
whole_of None a on oh oy e = absurd (let z : ⊥ = cc in z)
whole_of (Some title) true on oh oy e = absurd (let z : ⊥ = cc in z)
whole_of (Some title) false None oh oy e = absurd (let z : ⊥ = cc in z)
whole_of (Some title) false (Some n) None oy e = absurd (let z : ⊥ = cc in z)
whole_of (Some title) false (Some n) (Some h) None e = absurd (let z : ⊥ = cc in z)
whole_of (Some title) false (Some n) (Some h) (Some y) e = record { title = title; is_title = refl; n = n; is_n = refl; h = h; is_h = refl; y = y; is_y = refl }

described_by : (parsed : Parsed) → IsGood parsed → missing_part_of parsed ≡ None → (table : Table) × Describes parsed table
described_by parsed g e =
    let w = whole_of parsed.name (is_ahead parsed.section) parsed.n_states parsed.neighborhood parsed.symmetry e in
    let sound = sound_of parsed g w.n w.h w.y w.is_n w.is_h w.is_y in (
      record { name = w.title; n_states = w.n; neighborhood = w.h; symmetry = w.y; vars = parsed.vars; lines = parsed.lines; sound = sound },
      record { name = w.is_title; n_states = w.is_n; neighborhood = w.is_h; symmetry = w.is_y; vars = refl; lines = refl },
    )

pub accepted : AcceptedWritesTable
accepted lines = (
  (λ file.
      let r = reach lines file.unbroken in
      let d = described_by (parsed_by (numbered_from 1 lines)) r.good (sym (missing_is lines) ∙ file.whole) in
      (d.0, record { file = file; says = d.1 })),
  λ table are. are.file,
)

-- a transition has the number of its line
parts_number : (k number : ℕ) (es : List Entry) (t : Transition) → transition_from k number es ≡ Some t → t.line ≡ number
parts_number k number es t h =
    let q = tested (length es == k + 2)
    (option_map (λ (output : Entry). record { line = number; inputs = take (k + 1) es; output = output }) (slice_get es (k + 1))) t h in
    let m = mapped (λ (output : Entry). record { line = number; inputs = take (k + 1) es; output = output }) (slice_get es (k + 1)) t q.1 in
    ap (λ (u : Transition). u.line) m.2

line_number : (n k : ℕ) (vars : List Var) (number : ℕ) (text : List ℕ) (t : Transition) → transition_of n k vars number text ≡ Some t → t.line ≡ number
unfolding transition_of
line_number n k vars number text t h = let f = followed (transition_from k number) (entries_of n vars text) t h in parts_number k number f.0 t f.2

abbrev numbers_of : List Transition → List ℕ
numbers_of lines = map (λ (line : Transition). line.line) lines

abbrev transition_lines : List NumberedLine → List NumberedLine
transition_lines ts = filter (λ (text : NumberedLine). is_transition_line text.1) ts

-- what is reported of each transition that is read, reported of their lines one by one
module _ {X : Type 0} (n k : ℕ) (vars : List Var) (f : Transition → X) (g : NumberedLine → X)
    (same : (x : NumberedLine) (t : Transition) → transition_of n k vars x.0 x.1 ≡ Some t → f t ≡ g x) where
  reported_step : (b : Bool) (x : NumberedLine) (ts : List NumberedLine) → is_transition_line x.1 ≡ b → IsRead n k vars x
      → map f (transitions_written n k vars ts) ≡ map g (transition_lines ts)
      → map f (transitions_written n k vars (x ∷ ts)) ≡ map g (transition_lines (x ∷ ts))
  reported_step false x ts e r ih =
      ap (λ (b : Bool). map f (cons_option (if b then transition_of n k vars x.0 x.1 else None) (transitions_written n k vars ts))) e ∙ ih
      ∙ sym (ap (λ (b : Bool). map g (if b then x ∷ transition_lines ts else transition_lines ts)) e)
  reported_step true x ts e r ih =
      let t = r e in
      ap (λ (b : Bool). map f (cons_option (if b then transition_of n k vars x.0 x.1 else None) (transitions_written n k vars ts))) e
      ∙ ap (λ (o : Option Transition). map f (cons_option o (transitions_written n k vars ts))) t.1
      ∙ ap (λ (y : X). y ∷ map f (transitions_written n k vars ts)) (same x t.0 t.1) ∙ ap (λ (ys : List X). g x ∷ ys) ih
      ∙ sym (ap (λ (b : Bool). map g (if b then x ∷ transition_lines ts else transition_lines ts)) e)

  reported : (ts : List NumberedLine) → All (IsRead n k vars) ts → map f (transitions_written n k vars ts) ≡ map g (transition_lines ts)
  reported [] h = refl
  reported (x ∷ ts) h =
      reported_step (is_transition_line x.1) x ts refl (All-head (IsRead n k vars) x ts h) (reported ts (All-tail (IsRead n k vars) x ts h))

-- where all three settings are known, each descriptor gives one of them
has_setting : (table : Table) (on : Option ℕ) (oh : Option Neighborhood) (oy : Option Symmetry) (text : List ℕ)
    → on ≡ Some table.n_states → oh ≡ Some table.neighborhood → oy ≡ Some table.symmetry → Settled on oh oy text → HasSetting table text
has_setting table on oh oy text n h y (inl s) = inl (s.0, s.2 ∙ sym s.3 ∙ n)
has_setting table on oh oy text n h y (inr (inl s)) = inr (inl (s.0, s.2 ∙ sym s.3 ∙ h))
has_setting table on oh oy text n h y (inr (inr s)) = inr (inr (s.0, s.2 ∙ sym s.3 ∙ y))

have_settings : (table : Table) (on : Option ℕ) (oh : Option Neighborhood) (oy : Option Symmetry) → on ≡ Some table.n_states → oh ≡ Some table.neighborhood
    → oy ≡ Some table.symmetry
    → (ts : List NumberedLine) → AreSettled on oh oy ts → All (λ (text : NumberedLine). is_descriptor text.1 ≡ true → HasSetting table text.1) ts
have_settings table on oh oy n h y = All-weaker (λ (text : NumberedLine). is_descriptor text.1 ≡ true → Settled on oh oy text.1)
    (λ text. is_descriptor text.1 ≡ true → HasSetting table text.1) (λ text s d. has_setting table on oh oy text.1 n h y (s d))

module _ (table : Table) (ts : List NumberedLine) (en : states_of (texts_of_lines ts) ≡ Some table.n_states)
    (eh : neighborhood_of (texts_of_lines ts) ≡ Some table.neighborhood)
    (ey : symmetry_of (texts_of_lines ts) ≡ Some table.symmetry) where
  abbrev V : List Var
  V = variables_written table.n_states (texts_of_lines ts)

  vars_are : variables_in (states_of (texts_of_lines ts)) (texts_of_lines ts) ≡ V
  vars_are = ap (λ (o : Option ℕ). variables_in o (texts_of_lines ts)) en

  lines_are : transitions_in (states_of (texts_of_lines ts)) (neighborhood_of (texts_of_lines ts))
      (variables_in (states_of (texts_of_lines ts)) (texts_of_lines ts)) ts
      ≡ transitions_written table.n_states (neighbour_count table.neighborhood) V ts
  lines_are =
      ap (λ (o : Option ℕ). transitions_in o (neighborhood_of (texts_of_lines ts)) (variables_in (states_of (texts_of_lines ts)) (texts_of_lines ts)) ts) en
      ∙ ap (λ (o : Option Neighborhood). transitions_in (Some table.n_states) o (variables_in (states_of (texts_of_lines ts)) (texts_of_lines ts)) ts) eh
      ∙ ap (λ (vs : List Var). transitions_written table.n_states (neighbour_count table.neighborhood) vs ts) vars_are

  has_all : TextsStand ts → variables_in (states_of (texts_of_lines ts)) (texts_of_lines ts) ≡ table.vars
      → transitions_in (states_of (texts_of_lines ts)) (neighborhood_of (texts_of_lines ts)) (variables_in (states_of (texts_of_lines ts)) (texts_of_lines ts))
      ts ≡ table.lines
      → HasAll ts table
  has_all stand vs ls =
      let k : ℕ = neighbour_count table.neighborhood in
      let read = stand.read table.n_states table.neighborhood en eh in
      let same : V ≡ table.vars = sym vars_are ∙ vs in
      let written : transitions_written table.n_states (neighbour_count table.neighborhood) V ts ≡ table.lines = sym lines_are ∙ ls in
      record {
        settings = have_settings table (states_of (texts_of_lines ts)) (neighborhood_of (texts_of_lines ts)) (symmetry_of (texts_of_lines ts)) en eh ey ts
            stand.settled;
        variables = subst (λ (vars : List Var). AreVariables table.n_states vars ts) same (stand.variables table.n_states en);
        transitions = ap (map Some) (sym written) ∙ reported table.n_states (neighbour_count table.neighborhood) V Some
            (λ text. transition_of table.n_states (neighbour_count table.neighborhood) V text.0 text.1) (λ x t e. sym e) ts read
            ∙ ap (λ (vars : List Var). map (λ (text : NumberedLine). transition_of table.n_states (neighbour_count table.neighborhood) vars text.0 text.1)
            (transition_lines ts)) same;
        numbers = ap numbers_of (sym written) ∙ reported table.n_states (neighbour_count table.neighborhood) V (λ line. line.line) (λ text. text.0)
            (λ x t e. line_number table.n_states (neighbour_count table.neighborhood) V x.0 x.1 t e) ts read;
      }

pub nothing_dropped : NothingDropped
nothing_dropped lines table are =
    has_all table (table_texts (numbered_from 1 lines)) are.says.n_states are.says.neighborhood are.says.symmetry (reach lines are.file.unbroken).stands.texts
    are.says.vars are.says.lines
