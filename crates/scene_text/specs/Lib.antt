pub mod Text
pub mod Reading
pub mod Drafts
pub mod Laws
pub mod Tally
