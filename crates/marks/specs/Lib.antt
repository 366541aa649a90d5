pub mod Marks
pub mod Waiting
