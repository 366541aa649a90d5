pub mod Accepting
pub mod Lanes
pub mod Adding
pub mod Steps
pub mod Places
pub mod Lanes3
pub mod Steps3
pub mod Places3
