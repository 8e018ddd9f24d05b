pub mod Judging
pub mod Visits
