pub mod Looking
pub mod Trials
