mod PatternLaw
mod PeriodLaw
mod PhaseLaw
mod FormLaw
mod FormTexts
mod AnswerLaw
mod RefusalLaw
mod Rows
