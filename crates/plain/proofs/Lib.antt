pub mod Steps
pub mod Merging
pub mod Turns
pub mod Joining
pub mod Meant
