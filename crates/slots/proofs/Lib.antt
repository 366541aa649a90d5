pub mod Answers
pub mod Asking
pub mod Closing
pub mod Reserving
pub mod Writing
