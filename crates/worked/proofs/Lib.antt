pub mod Sweeping
pub mod Testing
pub mod Candidates
