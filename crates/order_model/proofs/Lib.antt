pub mod StandsInLists
mod RisingNumbers
mod CommutingNames
pub mod MemberCounts
pub mod ClientsBeyond
mod PrefixesAreLegal
pub mod GrantsAreExact
pub mod DefaultJournalIsMaximal
mod LawfulEntriesCommute
mod MaximalJournalsAgree
mod FullScenesAreUncontended
pub mod JournalsSwapAlike
pub mod MoreOperations
pub mod BooksStayLegal
pub mod RunsOfNames
pub mod PermittedAsRuns
pub mod OrdersBySteps
pub mod SpreadIsRun
pub mod AddedNames
pub mod StepsArePermitted
pub mod DefaultOrderIsPermitted
mod OneClientHasOneOrder
pub mod RecordedOrdersArePermitted
pub mod SceneListsAreWellFormed
pub mod ScenesWithinLimits
pub mod SceneJobsAreSent
pub mod LogsLeaveJobs
mod GatheringIsLawful
pub mod OneFoldOfTextures
pub mod CommandsAreLocal
mod OrderedScenesDrawAlike
mod OrderedScenesHaveOneFrame
pub mod RunsShowOneImage
pub mod UsedOperations
mod CountedNames
pub mod RecordedByCounts
pub mod SpotsOfNames
pub mod RisingPlaces
mod UnitsByWalks
pub mod UnitsInTurn
pub mod NamesInTurn
mod PartedPairs
pub mod CheckedOrders
mod SwapsAreFew
pub mod JournalsInTurn
