-- The paper as definitions, a file for each of its topics, each file after those that it uses. Every function is total: it says
-- something of any bytes and any question. A heading in square brackets names the section of the paper that a file puts into words.
pub mod Lists
pub mod Bytes
pub mod Code
pub mod Block
pub mod Tail
pub mod Record
pub mod Fault
pub mod Held
pub mod Refusal
pub mod Index
pub mod Look
pub mod Search
pub mod Walk
pub mod Question
pub mod Ask
pub mod OneList
pub mod Write
pub mod Reserve
pub mod Close
pub mod Line
pub mod Program
