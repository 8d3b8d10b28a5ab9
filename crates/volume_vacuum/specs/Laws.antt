pub mod Apart
pub mod Lives
pub mod Needles
pub mod Moves
pub mod Held
pub mod Alone
