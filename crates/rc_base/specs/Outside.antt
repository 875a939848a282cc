-- The ends of a run: why a call on one may fail, what a whole transfer is, and the ends in memory.
pub mod Causes
pub mod Ends
pub mod InMemory
pub mod Standard
pub mod Transfer
