pub mod Ranges
pub mod Levels
