mod FirstAnswers
mod FirstEntries
mod WaitingOperations
mod SoundBooks
mod BookGrants
mod ManagerSteps
mod FoundLanes
mod RightManagers
pub mod FrontsArrive
mod ManagersMeetTheirClause
