pub mod Reaches
pub mod Working
