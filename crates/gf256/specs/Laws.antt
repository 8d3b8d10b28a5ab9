pub mod Bitwise
pub mod Field
pub mod Nibbles
