pub mod Wholes
pub mod Steps
pub mod Everything
