pub mod FrontStreams
pub mod FrontJournals
pub mod FrontLists
pub mod FrontLogs
pub mod FrontOrders
pub mod FrontNames
pub mod FrontFrames
pub mod FrontRecords
