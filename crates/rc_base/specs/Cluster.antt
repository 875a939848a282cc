-- The tiles of a window, and what each client sends to each of them.
pub mod ObjectBox
pub mod Tiles
pub mod Parcels
pub mod Looks
pub mod Lanes
pub mod PlainLanes
pub mod Sending
