pub mod Opening
pub mod Write
