pub mod Step
pub mod Test
pub mod CodedStep
