mod NextInLists
mod ClientsGoOn
mod LogsGoOn
mod ProgressGoesOn
mod EntriesComeDue
mod ParcelsAreJobs
mod ItemsKeepProgress
mod NewTilesStand
mod IdleNamesChangeNothing
mod JobsAreLeftBehindNames
mod ParcelsComeFromCommands
mod ParcelsTellValues
mod ValuesTellImages
mod LazyStateDrawsAlike
mod BoardsGoOn
mod EntriesLeaveBoards
mod StepsStand
mod DepthsAreInRange
mod ParcelsAreGivable
mod LogsCountSwaps
mod FramesStay
mod SwapsShowFrames
mod SwappedFramesStay
mod LimitsGiveSides
mod LogsReplayOverWhatWasTaken
pub mod EntriesHaveClients
pub mod ItemsComeFromLanes
pub mod ShownFrames
