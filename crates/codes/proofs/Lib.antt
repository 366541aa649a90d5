pub mod Turns
pub mod Puts
pub mod Standing
pub mod Sound
