-- From a pattern in a store whose generation was set to 0 to its file.
use Rattle.std.proofs.Common.{◌≡◌, ◌∙◌, ℕ, ◌^◌, lit<, inl, inr, refl, sym, subst, List, Result, Ok, Err, IfOk, IfErr}
use Rattle.life_base.specs.Refusal.{OrMemory}
use Rattle.life_base.specs.Text.{lines_of}
use Rattle.life_base.specs.declared.cell.TheConstants.{MAX_LEVEL}
use Rattle.life_base.specs.declared.fault.Fault.{Fault}
use Rattle.life_quad.specs.Refused.{SomePart}
use Rattle.life_quad.specs.Store.{Nodes}
use Rattle.life_pattern.specs.Files.{Reads, as_macrocell}
use Rattle.life_pattern.specs.Laws.{FilesAreOnPlane, FilesAreUnique}
use Rattle.life_writer.specs.Laws.{TextsAreFiles}
use Rattle.life_writer.specs.Listing.{canon_text, canonical_file}
use Rattle.life_pattern.specs.Store.{IsRead}
use Rattle.life_pattern.specs.Universe.{IsOnPlane, Universe, macrocell_universe, whole}
use Rattle.life_pattern.specs.declared.pattern.Pattern.{Pattern}
use Rattle.life_forms.specs.Needed.{HasLargerForm, SomeOfMovedForm}
use Rattle.pattern_forms.specs.InForm.{LacksFormIn}
use Rattle.life_forms.specs.Turns.{image}
use Rattle.pattern_sources.specs.Forms.{at_start, LacksForm, IsTextAtStart, IsTextIn}
use Rattle.pattern_sources.specs.Sources.{RefusesInForm}
use Rattle.life_base.specs.declared.form.Form.{Form}
use Rattle.life_base.specs.declared.form.Form.TheVariants.{Placed, Moved, Turned, Phases}
use Rattle.life_pattern.proofs.Sameness.{same-is_one}
use Rattle.life_forms.proofs.SizeFacts.{needs-more}
use Rattle.pattern_forms.proofs.FileForms.{for-reason}

-- the pattern in the store, with generation 0
abbrev pub with_start : Pattern → Pattern
with_start pattern = record { rule = pattern.rule; generation = 0; root = pattern.root }

-- the same cells under the same rule have the same square, whatever the generation is
abbrev in_generation : ℕ → Universe → Universe
in_generation generation u = record { rule = u.rule; generation = generation; cell = u.cell }

whole_in : (generation : ℕ) (u : Universe) → whole MAX_LEVEL u ≡ whole MAX_LEVEL (in_generation generation u)
unfolding whole
whole_in generation u = refl

-- and forms of the same size
larger_moved : (most : ℕ) (u : Universe) → HasLargerForm most (at_start u) → HasLargerForm most u
larger_moved most u =
    needs-more (λ P. SomeOfMovedForm P (at_start u)) (λ P. SomeOfMovedForm P u) most
    (λ P some. (
      in_generation u.generation some.0,
      record {
        shift = record {
          rule = some.1.shift.rule;
          generation = refl;
          columns = some.1.shift.columns;
          rows = some.1.shift.rows;
          cells = some.1.shift.cells;
        };
        form = some.1.form;
      },
      subst (SomePart P) (whole_in u.generation some.0) some.2,
    ))

lacks_at : (form : Form) (most : ℕ) (u : Universe) → LacksFormIn form most (at_start u) → LacksFormIn form most u
lacks_at Placed most u large = large
lacks_at Moved most u large = larger_moved most u large
lacks_at Turned most u large = (large.0, larger_moved most (image large.0 u) large.1)
lacks_at (Phases generations) most u leaves = record { rule = leaves.rule; under = leaves.under; leaves = leaves.leaves }

start_on_plane : (u : Universe) → IsOnPlane MAX_LEVEL u → IsOnPlane MAX_LEVEL (at_start u)
start_on_plane u h = record { rule = h.rule; generation = lit< tt; states = h.states; outside = h.outside }

-- the canonical text of the pattern with generation 0
abbrev start_text : Universe → List ℕ
start_text u = canon_text MAX_LEVEL (at_start u)

module _ (texts : TextsAreFiles MAX_LEVEL) (plane : FilesAreOnPlane MAX_LEVEL) where
  start_says : (bytes : List ℕ) (u : Universe) → Reads MAX_LEVEL bytes u → Reads MAX_LEVEL (start_text u) (at_start u)
  start_says bytes u reads =
      let file = texts (at_start u) (start_on_plane u (plane bytes u reads)) in
      let same = same-is_one (at_start u) (macrocell_universe (canonical_file MAX_LEVEL (at_start u))) file.1 in
      subst (λ (v : Universe). Reads MAX_LEVEL (start_text u) v) (sym same) (as_macrocell (canonical_file MAX_LEVEL (at_start u)) file.0)

  module _ (store : Nodes) (pattern : Pattern) where
    start_read : (bytes : List ℕ) (read : IsRead MAX_LEVEL bytes store pattern)
        → IsRead MAX_LEVEL (start_text read.universe) store (with_start pattern)
    start_read bytes read = record {
      universe = at_start read.universe;
      reads = start_says bytes read.universe read.reads;
      is = record {
        rule = read.is.rule;
        generation = refl;
        known = read.is.known;
        root = read.is.root ∙ whole_in 0 read.universe;
      };
    }

    -- so the pattern with generation 0 is that of a file
    pub start_of_file : (bytes : List ℕ) (read : IsRead MAX_LEVEL bytes store pattern) → (start : List ℕ) × IsRead MAX_LEVEL start store (with_start pattern)
    start_of_file bytes read = (start_text read.universe, start_read bytes read)

    -- a text of it is one of the pattern's file
    pub said_at_start : {X : Type 0} (form : Form) (items : X → List ℕ) (r : Result X Fault)
        → IfOk r (λ x. (bytes : List ℕ) → IsRead MAX_LEVEL bytes store (with_start pattern) → IsTextIn form MAX_LEVEL bytes (items x))
        → IfOk r (λ x. (bytes : List ℕ) → IsRead MAX_LEVEL bytes store pattern → IsTextAtStart form MAX_LEVEL bytes (items x))
    said_at_start form items (Ok x) h = λ bytes read. record {
      universe = read.universe;
      reads = read.reads;
      start = start_text read.universe;
      says = start_says bytes read.universe read.reads;
      is = h (start_text read.universe) (start_read bytes read);
    }
    said_at_start form items (Err fault) h = tt

    module _ (unique : FilesAreUnique MAX_LEVEL) (bytes : List ℕ) (read : IsRead MAX_LEVEL bytes store pattern) where
      says_start : (u : Universe) → Reads MAX_LEVEL (start_text read.universe) u → u ≡ at_start read.universe
      says_start u reads =
          unique (lines_of (start_text read.universe)) u (at_start read.universe) reads (start_says bytes read.universe read.reads)

      -- if it has no text in a form, the pattern has none
      lacks_start : (form : Form) → LacksForm form MAX_LEVEL (start_text read.universe) → LacksForm form MAX_LEVEL bytes
      lacks_start form large = (
        read.universe,
        read.reads,
        lacks_at form (2 ^ 21) read.universe (subst (λ (u : Universe). LacksFormIn form (2 ^ 21) u) (says_start large.0 large.1) large.2),
      )

      refuses_start : (form : Form) (fault : Fault) → RefusesInForm form (start_text read.universe) fault → RefusesInForm form bytes fault
      refuses_start form fault (inl refuses) = absurd (refuses.refused (at_start read.universe, start_says bytes read.universe read.reads))
      refuses_start form fault (inr why) = inr (for-reason form fault (lacks_start form) why)

    -- and it is refused only as the pattern's file
    pub refused_at_start : {X : Type 0} (form : Form) (r : Result X Fault) → FilesAreUnique MAX_LEVEL
        → IfErr r (λ fault. OrMemory fault ((bytes : List ℕ) → IsRead MAX_LEVEL bytes store (with_start pattern) → RefusesInForm form bytes fault))
        → IfErr r (λ fault. OrMemory fault ((bytes : List ℕ) → IsRead MAX_LEVEL bytes store pattern → RefusesInForm form bytes fault))
    refused_at_start form (Ok x) unique h = tt
    refused_at_start form (Err fault) unique (inl memory) = inl memory
    refused_at_start form (Err fault) unique (inr refuses) =
        inr (λ bytes read. refuses_start unique bytes read form fault (refuses (start_text read.universe) (start_read bytes read)))
