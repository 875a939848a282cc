pub mod Acts
pub mod Scenes
pub mod Short
pub mod Items
pub mod Lazy
pub mod Givable
pub mod Boards
pub mod Laws
