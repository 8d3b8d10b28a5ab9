pub mod Spelled
pub mod Appended
pub mod Pieces
pub mod Fetched
pub mod Located
pub mod Coded
