pub mod Names
pub mod Rooms
pub mod Made
pub mod Order
pub mod Laws
