pub mod Knowledge
pub mod Streams
