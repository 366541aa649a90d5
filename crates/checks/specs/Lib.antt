pub mod Glanced
