-- The laws of files: those of patterns, with the canonical text, which tells patterns of the plane apart.
use Rattle.std.proofs.Common.{◌≤◌, sym, lit≤}
use Rattle.life_base.specs.declared.cell.TheConstants.{MAX_LEVEL}
use Rattle.life_pattern.specs.Universe.{Universe, IsOnPlane, macrocell_universe}
use Rattle.life_pattern.specs.Files.{Reads, as_macrocell}
use Rattle.life_pattern.specs.Laws.{FilesAreOnPlane}
use Rattle.life_writer.specs.Laws.{TextsTellUniverses, TextsAreFiles}
use Rattle.life_writer.specs.Listing.{canon_text, canonical_file}
use Rattle.life_forms.specs.Forms.{IsTurnedShift}
use Rattle.life_forms.specs.Laws.{MovedTextsTellFiles, TurnedTextsTellFiles, MovedTextsAreFiles, TurnedTextsAreFiles, FilesHaveForms}
use Rattle.life_forms.proofs.ShiftFacts.{still, shift-sym, shift-trans, moved-forms-exist, moved-on-plane, moved-texts}
use Rattle.life_forms.proofs.LeastFacts.{turned-forms-exist, turned-on-plane, turned-texts}

some : 1 ≤ MAX_LEVEL
some = lit≤ tt

pub moved-files : TextsTellUniverses MAX_LEVEL → FilesAreOnPlane MAX_LEVEL → MovedTextsTellFiles MAX_LEVEL
moved-files tells on-plane a b u v x y r s first second = moved-texts MAX_LEVEL (canon_text MAX_LEVEL) tells u v x y (on-plane a u r)
    (on-plane b v s) first second

pub turned-files : TextsTellUniverses MAX_LEVEL → FilesAreOnPlane MAX_LEVEL → TurnedTextsTellFiles MAX_LEVEL
turned-files tells on-plane a b u v x y r s first second =
    turned-texts MAX_LEVEL (canon_text MAX_LEVEL) tells some u v x y (on-plane a u r) (on-plane b v s) first second

pub files-have-forms : TextsTellUniverses MAX_LEVEL → FilesAreOnPlane MAX_LEVEL → FilesHaveForms MAX_LEVEL
files-have-forms tells on-plane a u r =
    (moved-forms-exist MAX_LEVEL u (on-plane a u r), turned-forms-exist MAX_LEVEL (canon_text MAX_LEVEL) tells some u (on-plane a u r))

-- what the text of a pattern of the plane says as a file
says : TextsAreFiles MAX_LEVEL → (x : Universe) → IsOnPlane MAX_LEVEL x → Reads MAX_LEVEL (canon_text MAX_LEVEL x)
    (macrocell_universe (canonical_file MAX_LEVEL x))
says are-files x h = as_macrocell _ (are-files x h).0

pub moved-are-files : TextsTellUniverses MAX_LEVEL → FilesAreOnPlane MAX_LEVEL → TextsAreFiles MAX_LEVEL → MovedTextsAreFiles MAX_LEVEL
moved-are-files tells on-plane are-files a u x r moved =
    let p = on-plane a u r in
    let q = moved-on-plane MAX_LEVEL u x p moved in
    let file = macrocell_universe (canonical_file MAX_LEVEL x) in
    let same = (are-files x q).1 in
    let h : IsOnPlane MAX_LEVEL file = on-plane (canon_text MAX_LEVEL x) file (says are-files x q) in
    record {
      file = file;
      reads = says are-files x q;
      shift = shift-trans u x file moved.shift (still x file same);
      fixed = λ z again.
          (moved-texts MAX_LEVEL (canon_text MAX_LEVEL) tells file u z x h p again moved).1
          (shift-sym u file (shift-trans u x file moved.shift (still x file same)));
    }

pub turned-are-files : TextsTellUniverses MAX_LEVEL → FilesAreOnPlane MAX_LEVEL → TextsAreFiles MAX_LEVEL → TurnedTextsAreFiles MAX_LEVEL
turned-are-files tells on-plane are-files a u x r turned =
    let p = on-plane a u r in
    let q = turned-on-plane MAX_LEVEL (canon_text MAX_LEVEL) some u x p turned in
    let file = macrocell_universe (canonical_file MAX_LEVEL x) in
    let same = (are-files x q).1 in
    let h : IsOnPlane MAX_LEVEL file = on-plane (canon_text MAX_LEVEL x) file (says are-files x q) in
    let there : IsTurnedShift u file = record { turn = turned.turn; shift = shift-trans _ _ _ turned.moved.shift (still x file same) } in
    record {
      file = file;
      reads = says are-files x q;
      turned = there;
      fixed = λ z again. sym ((turned-texts MAX_LEVEL (canon_text MAX_LEVEL) tells some u file x z p h turned again).1 there);
    }
