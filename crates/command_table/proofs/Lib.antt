pub mod NumbersInRange
pub mod ByOpcode
pub mod FieldsAndParts
pub mod PartsMakeCommands
pub mod Search
