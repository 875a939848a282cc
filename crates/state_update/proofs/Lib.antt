pub mod InTurn
mod SameValues
mod Alike
pub mod Knowing
mod ByElements
pub mod Telling
mod Parcels
pub mod NotPending
mod Clearing
pub mod Updates
