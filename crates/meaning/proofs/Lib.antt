-- Theorems about records and lists.
pub mod Rising
pub mod Bits
pub mod Parting
pub mod Blocks
pub mod Chains
pub mod Sound
pub mod Seeks
pub mod Greatest
pub mod Trying
pub mod Walking
pub mod Orders
pub mod Common
pub mod Charging
