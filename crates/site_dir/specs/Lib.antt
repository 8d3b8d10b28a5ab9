pub mod Troubles
pub mod Kept
