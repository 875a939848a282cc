pub mod Told
pub mod Gathering
pub mod Frames
pub mod Kept
pub mod Closed
pub mod Collected
pub mod ImageText
