pub mod Unmade
pub mod Unroomed
