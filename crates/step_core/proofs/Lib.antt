pub mod Changes
pub mod Lanes
pub mod Pushes
pub mod Said
pub mod Fits
pub mod FirstViews
pub mod ClientMoves
mod Carrying
mod ClientWorlds
mod Settling
mod Settled
pub mod ManagerMoves
pub mod TileDeeds
mod ShortDeeds
pub mod TileMoves
pub mod Runs
mod RoundsGoOn
mod RoundsReach
mod Gathered
