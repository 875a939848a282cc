pub mod Signed
pub mod Signs
pub mod Areas
pub mod IntervalEnds
