pub mod Ways
pub mod Lacks
