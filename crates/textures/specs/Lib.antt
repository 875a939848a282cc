pub mod Images
pub mod Views
pub mod Stores
pub mod Samplers
