pub mod CommandLine
pub mod Origins
pub mod Plans
pub mod Words
