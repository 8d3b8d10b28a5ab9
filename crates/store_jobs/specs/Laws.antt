pub mod Rest
pub mod Tidy
pub mod Read
pub mod Change
pub mod Step
pub mod Line
pub mod Board
