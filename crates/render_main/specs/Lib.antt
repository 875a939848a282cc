pub mod Exits
pub mod Members
pub mod Processes
