pub mod Ending
pub mod Name
