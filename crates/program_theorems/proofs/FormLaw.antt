-- What files say in a form is what they say in the layer below.
use Rattle.std.proofs.Common.{◌≡◌, ◌↔◌, ℕ, ◌^◌, List, ◌∙◌, sym, subst, arith}
use Rattle.life_base.specs.Rules.{IsRule}
use Rattle.life_pattern.specs.Files.{Reads, as_macrocell}
use Rattle.life_pattern.specs.Laws.{FilesAreOnPlane}
use Rattle.life_writer.specs.Listing.{canon_text, canonical_file}
use Rattle.life_writer.specs.Texts.{IsCanonical}
use Rattle.life_pattern.specs.Universe.{Universe, IsOnPlane, macrocell_universe}
use Rattle.life_phase_forms.specs.OfFile.{IsPhasesTextOf}
use Rattle.pattern_forms.specs.InForm.{AreSameIn, SayRelated, SaysText}
use Rattle.pattern_sources.specs.Forms.{IsTextIn as LayerTextIn}
use Rattle.life_base.specs.declared.form.Form.{Form}
use Rattle.life_base.specs.declared.form.Form.TheVariants.{Placed, Moved, Turned, Phases}
use Rattle.claims.specs.Files.{pattern_of}
use Rattle.claims.specs.Pattern.{Pattern}
use Rattle.theorems.proofs.FileLaw.{files_agree, ok_of, same_from, same_to, texts_are_exact}
use Rattle.program_theorems.specs.Forms.{AreRelated, SameIn}
use Rattle.program_theorems.specs.Layers.{LayersAgree}
use Rattle.program_theorems.proofs.PatternLaw.{Says, said, shift_from, shift_to, turned_from, turned_to}
use Rattle.program_theorems.proofs.PhaseLaw.{course-from, course-to}

-- ---- files

-- the files of two patterns say what is related
pub say_related : {L : Universe → Universe → Type 0} {a b : List ℕ} (u v : Universe) → Reads 62 a u → Reads 62 b v → L u v → SayRelated L 62 a b
say_related u v h l related = record { first = u; second = v; reads_first = h; reads_second = l; related = related }

pub related_to : {L : Universe → Universe → Type 0} {R : Pattern → Pattern → Type 0} → FilesAreOnPlane 62
    → ((p q : Pattern) (u v : Universe) → IsRule u.rule → IsRule v.rule → Says p u → Says q v → L u v → R p q)
    → (a b : List ℕ) → SayRelated L 62 a b → AreRelated R a b
related_to on_plane to a b s =
    let p = files_agree a s.first s.reads_first in
    let q = files_agree b s.second s.reads_second in
    let one = (on_plane a s.first s.reads_first).rule in
    let two = (on_plane b s.second s.reads_second).rule in
    let related = to p.pattern q.pattern s.first s.second one two (said a s.first p) (said b s.second q) s.related in
    record { first = p.pattern; second = q.pattern; first_is = p.is; second_is = q.is; related = related }

pub related_from : {L : Universe → Universe → Type 0} {R : Pattern → Pattern → Type 0} → FilesAreOnPlane 62
    → ((p q : Pattern) (u v : Universe) → IsRule u.rule → IsRule v.rule → Says p u → Says q v → R p q → L u v)
    → (a b : List ℕ) (u v : Universe) → Reads 62 a u → Reads 62 b v → AreRelated R a b → L u v
related_from {R = R} on_plane from a b u v h l s =
    let p = files_agree a u h in
    let q = files_agree b v l in
    let e : s.first ≡ p.pattern = ok_of (pattern_of a) s.first p.pattern s.first_is p.is in
    let f : s.second ≡ q.pattern = ok_of (pattern_of b) s.second q.pattern s.second_is q.is in
    from p.pattern q.pattern u v (on_plane a u h).rule (on_plane b v l).rule (said a u p) (said b v q)
    (subst (λ (r : Pattern). R r q.pattern) e (subst (R s.first) f s.related))

pub same_in_to : FilesAreOnPlane 62 → (form : Form) (a b : List ℕ) → AreSameIn form 62 a b → SameIn form a b
same_in_to on_plane Placed a b h = same_to a b h
same_in_to on_plane Moved a b h = related_to on_plane (λ p q u v one two. shift_to p q u v) a b h
same_in_to on_plane Turned a b h = related_to on_plane (λ p q u v one two. turned_to p q u v) a b h
same_in_to on_plane (Phases most) a b h = related_to on_plane (course-to most) a b h

pub same_in_from : FilesAreOnPlane 62 → (form : Form) (a b : List ℕ) (u v : Universe) → Reads 62 a u → Reads 62 b v → SameIn form a b
    → AreSameIn form 62 a b
same_in_from on_plane Placed a b u v h l s = same_from on_plane a b u v h l s
same_in_from on_plane Moved a b u v h l s = say_related u v h l (related_from on_plane shift_from a b u v h l s)
same_in_from on_plane Turned a b u v h l s = say_related u v h l (related_from on_plane turned_from a b u v h l s)
same_in_from on_plane (Phases most) a b u v h l s = say_related u v h l (related_from on_plane (course-from most) a b u v h l s)

-- ---- texts

-- the text of a pattern of the plane is its own canonical text
pub own_text_of : LayersAgree → (u : Universe) (text : List ℕ) → IsOnPlane 62 u → text ≡ canon_text 62 u → IsCanonical 62 text text
own_text_of laws u text h is =
    let v = macrocell_universe (canonical_file 62 u) in
    let reads : Reads 62 (canon_text 62 u) v = as_macrocell (canonical_file 62 u) (laws.files u h).0 in
    record { universe = v; reads = subst (λ (t : List ℕ). Reads 62 t v) (sym is) reads; is = is ∙ sym (laws.fixed u v h reads) }

module _ (laws : LayersAgree) (file text : List ℕ) where
  pub own_moved : SaysText Moved 62 (2 ^ 21) file text → IsCanonical 62 text text
  own_moved h =
      own_text_of laws h.is.form text (laws.moved_on_plane h.universe h.is.form (laws.on_plane file h.universe h.reads) h.is.moved) h.is.is

  pub own_turned : SaysText Turned 62 (2 ^ 21) file text → IsCanonical 62 text text
  own_turned h =
      own_text_of laws h.is.form text
      (laws.turned_on_plane (omega arith) h.universe h.is.form (laws.on_plane file h.universe h.reads) h.is.turned) h.is.is

  pub moved_text_is : SaysText Moved 62 (2 ^ 21) file text → SameIn Moved file text
  moved_text_is h =
      let f = laws.moved_files file h.universe h.is.form h.reads h.is.moved in
      let reads = subst (λ (t : List ℕ). Reads 62 t f.file) (sym h.is.is) f.reads in
      same_in_to laws.on_plane Moved file text (say_related h.universe f.file h.reads reads f.shift)

  pub turned_text_is : SaysText Turned 62 (2 ^ 21) file text → SameIn Turned file text
  turned_text_is h =
      let f = laws.turned_files file h.universe h.is.form h.reads h.is.turned in
      let reads = subst (λ (t : List ℕ). Reads 62 t f.file) (sym h.is.is) f.reads in
      same_in_to laws.on_plane Turned file text (say_related h.universe f.file h.reads reads f.turned)

  -- a text for all phases, in the words of its layer
  abbrev in_phases : (most : ℕ) → SaysText (Phases most) 62 (2 ^ 21) file text → IsPhasesTextOf most file text
  in_phases most h = record { universe = h.universe; reads = h.reads; stays = h.has; is = h.is }

  pub own_phases : (most : ℕ) → SaysText (Phases most) 62 (2 ^ 21) file text → IsCanonical 62 text text
  own_phases most h =
      let f = laws.phases_files most file text (in_phases most h) in
      record { universe = f.file; reads = f.reads; is = f.canonical }

  pub phases_text_is : (most : ℕ) → SaysText (Phases most) 62 (2 ^ 21) file text → SameIn (Phases most) file text
  phases_text_is most h =
      let f = laws.phases_files most file text (in_phases most h) in
      same_in_to laws.on_plane (Phases most) file text (say_related h.universe f.file h.reads f.reads f.course)

-- two texts in a form are equal exactly if the files are the same in it
pub texts_tell_in : LayersAgree → (form : Form) (a b s t : List ℕ) → LayerTextIn form 62 a s → LayerTextIn form 62 b t → (s ≡ t) ↔ SameIn form a b
texts_tell_in laws Placed a b s t c d = texts_are_exact laws.tell laws.on_plane a b s t c d
texts_tell_in laws Moved a b s t c d =
    let law = laws.moved_tell a b c.universe d.universe c.is.form d.is.form c.reads d.reads c.is.moved d.is.moved in (
      λ e. same_in_to laws.on_plane Moved a b (say_related c.universe d.universe c.reads d.reads (law.0 (sym c.is.is ∙ e ∙ d.is.is))),
      λ h. c.is.is ∙ law.1 (related_from laws.on_plane shift_from a b c.universe d.universe c.reads d.reads h) ∙ sym d.is.is,
    )
texts_tell_in laws Turned a b s t c d =
    let law = laws.turned_tell a b c.universe d.universe c.is.form d.is.form c.reads d.reads c.is.turned d.is.turned in (
      λ e. same_in_to laws.on_plane Turned a b (say_related c.universe d.universe c.reads d.reads (law.0 (sym c.is.is ∙ e ∙ d.is.is))),
      λ h. c.is.is ∙ law.1 (related_from laws.on_plane turned_from a b c.universe d.universe c.reads d.reads h) ∙ sym d.is.is,
    )
texts_tell_in laws (Phases most) a b s t c d =
    let law = laws.phases_tell most a b s t (in_phases laws a s most c) (in_phases laws b t most d) in (
      λ e.
          let one = law.0 e in
          same_in_to laws.on_plane (Phases most) a b (say_related one.first one.second one.reads_first one.reads_second one.course),
      λ h.
          let course = related_from laws.on_plane (course-from most) a b c.universe d.universe c.reads d.reads h in
          law.1 (record { first = c.universe; second = d.universe; reads_first = c.reads; reads_second = d.reads; course = course }),
    )
