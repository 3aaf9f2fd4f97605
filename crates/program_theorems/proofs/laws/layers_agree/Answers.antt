use Rattle.life_writer.specs.Listing.{canon_text}
use Rattle.program_theorems.proofs.laws.layers_agree.Goals as goal

pub returns : goal.returns
returns c = record {
  on_plane = c.files_are_on_plane.ensures;
  unique = c.files_are_unique.ensures;
  files = c.texts_are_files.ensures;
  keep = c.texts_keep_patterns.ensures;
  tell = c.texts_tell_patterns.ensures;
  fixed = c.texts_are_fixed.ensures;
  least = c.canonical_is_least.ensures;
  rle = c.rle_texts_keep_patterns.ensures;
  kinds = c.refusals_have_kinds.ensures;
  images = c.images_stay_on_plane.ensures 62;
  moved_on_plane = c.moved_forms_are_on_plane.ensures 62;
  moved_files = c.moved_texts_are_files.ensures;
  moved_tell = c.moved_texts_tell_files.ensures;
  turned_on_plane = c.turned_forms_are_on_plane.ensures 62 (canon_text 62);
  turned_files = c.turned_texts_are_files.ensures;
  turned_tell = c.turned_texts_tell_files.ensures;
  phases_files = c.phases_texts_are_files.ensures;
  phases_tell = c.phases_texts_tell_files.ensures;
  grammars = c.grammars_agree.ensures;
  table_kinds = c.refusals_have_kinds-2.ensures;
  read = c.tables_read.ensures;
  refuse = c.tables_refuse.ensures;
  decide = c.tables_decide.ensures;
}
