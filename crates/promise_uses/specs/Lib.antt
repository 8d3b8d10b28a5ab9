pub mod Maps
pub mod Lives
pub mod Runs
pub mod Starts
