pub mod Asking
pub mod Naming
