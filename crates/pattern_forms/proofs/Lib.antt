pub mod FileForms
