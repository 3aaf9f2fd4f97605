-- The words of the contracts of this crate.
pub use Rattle.golly_canon_c.specs.Naming.{status_advice, status_name, status_sentence}
pub use Rattle.file_hints.specs.Damage.{warning_of}
pub use Rattle.file_hints.specs.Refused.{advice_on}
pub use Rattle.library_calls.specs.Texts.{Fits, IsLeastCanonicalText, IsRleText, RefusesRleWithin, RefusesWithin, SomeToRead, TellsText}
pub use Rattle.library_calls.specs.Comparing.{comparison_of, ComparesWithin, SomeToReadBoth}
pub use Rattle.library_calls.specs.ComparingInForm.{ComparesInForm, ComparesInNone}
pub use Rattle.library_calls.specs.InForm.{form_numbered, IsKeyInForm, IsTextInForm, AnswersInForm}
pub use Rattle.life_base.specs.declared.form.Form.{Form as FormValue}
pub use Rattle.life_generations.specs.Later.{IsTextLater}
pub use Rattle.library_calls.specs.Stepping.{RefusesLater, RefusesStepWithin, StepsByTable}
pub use Rattle.file_hints.specs.Sentences.{sentence_of}
pub use Rattle.library_calls.specs.Streams.{Feeds, Finishes, IsSpent, OpensStream, sentence_of_stream, sentence_of_warning, session_of, TellsEnd, TellsKey, TellsNothing, TellsPiece}
pub use Rattle.library_calls.specs.Reported.{Returns, ReturnsText, reply}
pub use Rattle.library_calls.specs.declared.texts.Output.{Output as OutputValue}
pub use Rattle.life_base.specs.Kinds.{kind_name, kind_number}
pub use Rattle.life_base.specs.declared.kind.Kind.{Kind as KindValue}
pub use Rattle.life_writer.specs.Texts.{IsShownText}
pub use Rattle.life_step.specs.Stepped.{IsStepped}
