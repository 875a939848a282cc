-- What commands draw: from a block's vertices to the pixel, and from an order of commands to the image of a frame.
pub mod Triangles
pub mod Window
pub mod Kept
pub mod Pieces
pub mod Cover
pub mod Fragment
pub mod Texel
pub mod PixelStep
pub mod Nearer
pub mod Touch
pub mod Serial
pub mod Images
