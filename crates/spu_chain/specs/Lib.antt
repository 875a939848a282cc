pub mod Filter
pub mod Scenes
pub mod Laws
