pub mod Lines
pub mod Grammar
pub mod Numerals
pub mod Reading
pub mod Texts
pub mod Laws
pub mod Appending
