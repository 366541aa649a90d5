pub mod Opened
pub mod Holds
pub mod Front
