pub mod Reading
pub mod Codec
pub mod NumberCodecs
