pub mod Change
pub mod Create
pub mod End
pub mod Put
pub mod Store
pub mod World
pub mod Written
