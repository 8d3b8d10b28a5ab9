pub mod Made
pub mod Start
pub mod Once
pub mod Follow
