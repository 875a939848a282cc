pub mod Stored
pub mod Books
pub mod Progress
pub mod Cores
pub mod Tasks
pub mod Promises
pub mod Clauses
