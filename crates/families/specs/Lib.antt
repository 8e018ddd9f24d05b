pub mod Bounds
pub mod Parts
pub mod Places
pub mod Models
pub mod Seeking
pub mod Drafts
pub mod Making
