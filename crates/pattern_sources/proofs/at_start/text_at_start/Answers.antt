use Rattle.pattern_sources.proofs.FormLemmas.{refuses_within, text_within}
use Rattle.pattern_sources.proofs.StartLemmas.{refused_at_start, said_at_start, start_of_file}
use Rattle.pattern_sources.proofs.at_start.text_at_start.Goals as goal

pub text_in-requires : goal.text_in-requires
text_in-requires c =
    start_of_file c.texts_are_files.ensures c.files_are_on_plane.ensures _ c.args.pattern c.requires.read.0 c.requires.read.1

pub returns-clause-text : goal.returns-clause-text
returns-clause-text c =
    said_at_start c.texts_are_files.ensures c.files_are_on_plane.ensures _ c.args.pattern c.args.form (λ text. text.items) c.text_in.result
    (text_within c.args.form _ _ c.text_in.result c.requires.limit (λ text. text.items) c.text_in.ensures.text)

pub returns-clause-fault : goal.returns-clause-fault
returns-clause-fault c =
    refused_at_start c.texts_are_files.ensures c.files_are_on_plane.ensures _ c.args.pattern c.args.form c.text_in.result c.files_are_unique.ensures
    (refuses_within c.args.form _ _ c.text_in.result c.requires.limit c.text_in.ensures.fault)
