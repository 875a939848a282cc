pub mod Pictures
pub mod Rest
pub mod Headers
pub mod Faults
