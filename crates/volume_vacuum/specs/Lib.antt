pub mod Live
pub mod Copies
pub mod Home
pub mod Vacuum
pub mod Laws
