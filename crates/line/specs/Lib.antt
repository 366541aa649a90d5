pub mod Numbers
pub mod OneNumber
