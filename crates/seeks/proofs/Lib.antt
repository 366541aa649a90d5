pub mod Turns
pub mod Hops
