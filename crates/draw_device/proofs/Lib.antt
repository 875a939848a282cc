mod Lists
mod Runs
mod SpansToPixels
mod BlockPixels
pub mod Places
mod Steps
mod ColumnsToPixels
mod Beside
mod NearerPixels
mod CopiedRuns
mod ChangedGrids
