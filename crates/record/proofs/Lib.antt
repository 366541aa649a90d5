pub mod Turns
pub mod Spans
pub mod Opening
