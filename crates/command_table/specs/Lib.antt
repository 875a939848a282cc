pub mod Ranges
pub mod Making
pub mod ByOpcode
pub mod Opcodes
pub mod Laws
