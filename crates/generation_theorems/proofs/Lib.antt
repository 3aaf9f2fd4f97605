pub mod FurtherLaw
mod Rows
