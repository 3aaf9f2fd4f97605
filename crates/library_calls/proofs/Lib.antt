pub mod Numbered
pub mod Answering
pub mod Pointer
pub mod NeedFacts
pub mod TextFacts
pub mod StreamFacts
pub mod FormFacts
