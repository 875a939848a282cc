pub mod Clients
pub mod Forms
pub mod Counts
pub mod Runs
pub mod Blocks
