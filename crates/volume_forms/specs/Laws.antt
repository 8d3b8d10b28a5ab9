pub mod Super
pub mod Entry
pub mod Kept
