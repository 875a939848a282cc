pub mod Expansion
pub mod Giving
pub mod Standing
pub mod Progress
pub mod Laws
pub mod Scenes
pub mod Streams
pub mod Taking
