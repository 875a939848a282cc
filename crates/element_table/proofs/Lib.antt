pub mod Rows
pub mod KindsOfValues
pub mod SameValues
pub mod Capabilities
