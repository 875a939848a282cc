pub mod ClientLines
pub mod Counted
