pub mod Checks
pub mod Puts
