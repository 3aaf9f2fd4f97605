mod Rows
mod Counts
mod Watching
pub mod FirstLines
