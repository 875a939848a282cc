-- What a client's commands set, and which of them are refused.
pub mod Context
pub mod Faults
pub mod Issue
pub mod Elements
