pub mod IssuedCommands
pub mod AcceptedSwaps
pub mod ListsGoOn
pub mod ClientsInTurn
pub mod DeclaredOperations
pub mod BlockCommands
pub mod GatheredCommands
