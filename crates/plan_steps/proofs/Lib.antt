mod Examples
mod LeftExamples
pub mod Walked
pub mod Rows
