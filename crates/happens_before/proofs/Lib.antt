pub mod BeforeStands
mod PrecedesIsDecided
pub mod NamesGoFirst
pub mod PlacesOfOperations
pub mod JournalsGoOn
pub mod ClocksOfEntries
pub mod ChangesInTurn
pub mod GatesOfMembers
pub mod WalkedEntries
