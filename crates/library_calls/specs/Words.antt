-- The words of the contracts of this crate.
pub use Rattle.library_calls.specs.Texts.{Fits, IsLeastCanonicalText, IsFreshStore, IsRleText, NeedsMore, RefusesRleWithin, RefusesWithin, squares_of_limit, SomeToRead, TellsText}
pub use Rattle.library_calls.specs.Comparing.{comparison_of, ComparesWithin, IsTooLowForBoth, SomeToReadBoth}
pub use Rattle.library_calls.specs.ComparingInForm.{ComparesInForm, ComparesInNone, RefusesEitherInForm}
pub use Rattle.library_calls.specs.Outputs.{IsOutputText, IsTextOfRead, RefusesPiece, RefusesTextOf, RefusesTextOfRead}
pub use Rattle.library_calls.specs.InForm.{form_numbered, squares_of_form, IsKeyInForm, IsTextInForm, AnswersInForm}
pub use Rattle.library_calls.specs.Stepping.{RefusesLater, RefusesStepByWithin, RefusesStepWithin, StepsByTable}
pub use Rattle.library_calls.specs.Streams.{Feeds, Finishes, IsSpent, key_digits, OpensStream, sentence_of_session, sentence_of_stream, sentence_of_warning, session_of, TellsEnd, TellsKey, TellsNothing, TellsPiece}
pub use Rattle.library_calls.specs.Reported.{Returns, ReturnsText, ReturnsFault, reply}
pub use Rattle.file_hints.specs.Damage.{warning_of}
pub use Rattle.life_base.specs.Kinds.{kind_number}
pub use Rattle.life_base.specs.Refusal.{fault_of}
pub use Rattle.life_base.specs.declared.cell.TheConstants.{MAX_LEVEL}
pub use Rattle.life_base.specs.declared.fault.Fault.{Fault as FaultValue}
pub use Rattle.life_base.specs.declared.kind.Kind.TheVariants.{Full}
pub use Rattle.life_reader.specs.Feeding.{RefusesPrefix}
pub use Rattle.life_pattern.specs.Files.{Accepted, Refuses}
pub use Rattle.life_pattern.specs.Store.{IsOfFile, IsRead, IsShortageOf}
pub use Rattle.life_writer.specs.Texts.{IsShownText}
pub use Rattle.pattern_forms.specs.InForm.{AreSameIn, OneFileLacksForm}
pub use Rattle.life_quad.specs.Keeping.{AddsOnly}
pub use Rattle.life_quad.specs.Store.{stored_squares}
pub use Rattle.life_generations.specs.Later.{IsTextLater}
pub use Rattle.life_step.specs.Stepped.{IsStepped, IsSteppedBy}
