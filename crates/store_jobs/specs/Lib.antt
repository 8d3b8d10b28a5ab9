pub mod Slots
pub mod Making
pub mod Store
pub mod BoardWorld
pub mod Laws
