pub mod Steps
pub mod Countdown
pub mod StepsOn
pub mod Stepping
