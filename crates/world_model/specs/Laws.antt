pub mod Run
pub mod Job
