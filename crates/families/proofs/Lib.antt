pub mod Models
pub mod Chains
pub mod Walks
pub mod Lists
