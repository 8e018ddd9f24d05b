pub mod Turns
pub mod Stages
pub mod Plays
