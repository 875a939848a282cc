pub mod Unfinished
pub mod Shown
pub mod Clusters
pub mod Images
