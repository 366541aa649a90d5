pub mod Gaps
pub mod Judging
pub mod Laying
pub mod Marking
pub mod Tailing
