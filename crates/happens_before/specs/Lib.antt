pub mod Before
pub mod Clocks
pub mod Timelines
pub mod Laws
pub mod Walks
