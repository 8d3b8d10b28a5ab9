pub mod Keeps
pub mod End
