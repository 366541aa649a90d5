pub mod Tables
pub mod Pieces
pub mod Waiting
pub mod Joining
