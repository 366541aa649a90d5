pub mod Filling
pub mod InBits
pub mod InCodes
pub mod ReadCodes
pub mod InBlocks
