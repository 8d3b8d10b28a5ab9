pub mod Made
pub mod Started
pub mod Laws
