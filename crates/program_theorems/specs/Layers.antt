-- The laws by which the words of the layers are those of the claims, together: no reader of a theorem needs them.
use Rattle.life_pattern.specs.Laws.{FilesAreOnPlane, FilesAreUnique, RefusalsHaveKinds}
use Rattle.life_writer.specs.Laws.{TextsAreFiles, TextsKeepPatterns, TextsTellPatterns, TextsAreFixed, CanonicalIsLeast, RleTextsKeepPatterns}
use Rattle.life_writer.specs.Listing.{canon_text}
use Rattle.life_forms.specs.Laws.{ImagesStayOnPlane, MovedFormsAreOnPlane, MovedTextsAreFiles, MovedTextsTellFiles}
use Rattle.life_forms.specs.Laws.{TurnedFormsAreOnPlane, TurnedTextsAreFiles, TurnedTextsTellFiles}
use Rattle.life_phase_forms.specs.Laws.{PhasesTextsAreFiles, PhasesTextsTellFiles}
use Rattle.life_table.specs.Grammar.{TableGrammarsAgree}
use Rattle.life_table.specs.Laws.{TableRefusalsHaveKinds}
use Rattle.claims.specs.TableLaws.{TablesRead, TablesRefuse, TablesDecide}

pub record LayersAgree : Type 0 where
  pub on_plane : FilesAreOnPlane 62
  pub unique : FilesAreUnique 62
  pub files : TextsAreFiles 62
  pub keep : TextsKeepPatterns 62
  pub tell : TextsTellPatterns 62
  pub fixed : TextsAreFixed 62
  pub least : CanonicalIsLeast 62
  pub rle : RleTextsKeepPatterns 62
  pub kinds : RefusalsHaveKinds 62
  pub images : ImagesStayOnPlane 62
  pub moved_on_plane : MovedFormsAreOnPlane 62
  pub moved_files : MovedTextsAreFiles 62
  pub moved_tell : MovedTextsTellFiles 62
  pub turned_on_plane : TurnedFormsAreOnPlane 62 (canon_text 62)
  pub turned_files : TurnedTextsAreFiles 62
  pub turned_tell : TurnedTextsTellFiles 62
  pub phases_files : PhasesTextsAreFiles
  pub phases_tell : PhasesTextsTellFiles
  pub grammars : TableGrammarsAgree
  pub table_kinds : TableRefusalsHaveKinds
  pub read : TablesRead
  pub refuse : TablesRefuse
  pub decide : TablesDecide
