pub mod Frames
pub mod Writing
pub mod Windows
pub mod OnTheWay
pub mod Laws
