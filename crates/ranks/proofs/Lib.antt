pub mod Names
pub mod Placing
pub mod Ordering
