pub mod Made
pub mod Filling
pub mod Laws
