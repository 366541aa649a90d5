pub mod Reading
pub mod Storing
