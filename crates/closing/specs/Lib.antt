pub mod Given
pub mod Trailer
