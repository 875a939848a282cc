pub mod Spelling
pub mod Reading
pub mod Faults
pub mod Fronts
pub mod Blocks
