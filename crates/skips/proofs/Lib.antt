pub mod Counted
pub mod Walking
