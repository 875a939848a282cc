pub mod Ranges
pub mod Extents
pub mod Boxes
pub mod Tiles
pub mod Standing
pub mod Still
pub mod Hulls
