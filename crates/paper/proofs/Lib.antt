-- The paper's examples held against the definitions, by computation. Every table is a list of rows under one claim: no row fails.
pub mod Faults
pub mod Hex
pub mod Open
pub mod Rows
pub mod Table
pub mod Readings
pub mod Sizes
pub mod Meets
