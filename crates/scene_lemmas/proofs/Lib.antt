pub mod Boundaries
pub mod Contexts
pub mod Formats
pub mod Numbered
pub mod Rectangles
pub mod Scenes
pub mod Sendings
pub mod Triangles
