pub mod Progress
pub mod BoardSteps
pub mod Sample
pub mod Laws
