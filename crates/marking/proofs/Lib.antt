pub mod Steps
pub mod Pairs
pub mod Walks
pub mod Starts
pub mod Scratch
pub mod Candidates
pub mod Readings
