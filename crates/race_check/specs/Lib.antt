pub mod Races
pub mod Laws
pub mod Finds
pub mod Touches
pub mod Uses
pub mod Outlines
