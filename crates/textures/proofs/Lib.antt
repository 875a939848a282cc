pub mod Names
pub mod Pieces
pub mod Written
pub mod Stored
mod Wraps
