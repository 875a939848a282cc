mod MadeSets
mod TileRects
mod DrawnParcels
mod Switches
mod PlainBlocks
mod WaitingBlocks
mod LazyBoards
mod NewCanvases
mod LedgersGoOn
mod TileSteps
mod FoundLanes
mod TakenLanes
pub mod CoresStand
pub mod TilesMeetTheirClause
mod Asked
