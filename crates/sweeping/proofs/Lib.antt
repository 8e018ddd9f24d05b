pub mod Steps
pub mod Visits
