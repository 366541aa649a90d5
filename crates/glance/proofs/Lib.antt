pub mod Masks
pub mod Turns
