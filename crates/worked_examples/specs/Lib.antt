pub mod Scenes
pub mod Frames
pub mod States
pub mod Records
pub mod Orders
