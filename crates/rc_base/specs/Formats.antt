-- What a scene says, and how bytes and texts spell it.
pub mod Commands
pub mod Spelling
pub mod Limits
pub mod Within
pub mod Netpbm
