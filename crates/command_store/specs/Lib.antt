pub mod Stores
pub mod Scenes
