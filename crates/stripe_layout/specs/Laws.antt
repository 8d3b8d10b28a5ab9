pub mod Row
pub mod Info
pub mod Striping
pub mod Blocks
pub mod Rows
