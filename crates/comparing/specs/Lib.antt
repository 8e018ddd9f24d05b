pub mod Moments
pub mod Outcomes
