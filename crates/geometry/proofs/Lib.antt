mod Cached
pub mod PiecesKept
mod Sharing
mod Beside
mod Facing
pub mod Triples
mod Units
mod Fronts
mod Corners
mod Turned
mod Unmoved
pub mod Identity
pub mod Oriented
pub mod EachKept
pub mod Outside
mod SameNumbers
mod Rejected
