pub mod Faults
pub mod Judgements
pub mod Marks
