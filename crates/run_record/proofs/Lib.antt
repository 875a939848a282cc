mod KeptMore
mod FramesTurned
mod FewParcels
mod TalliesSum
mod ClientsBeyond
mod ClosedRuns
mod InFrames
mod RecordedRuns
pub mod FrameParts
mod RunsWritten
