pub mod Jobs
pub mod Origins
pub mod Plans
pub mod Usages
pub mod Words
