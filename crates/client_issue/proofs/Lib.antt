mod Giving
mod Marking
mod Issuing
mod ParcelGiven
mod Packable
mod Requesting
mod BlockCommands
mod Ends
mod Prepared
mod Steps
mod Firsts
mod Given
mod Keeping
mod Split
mod Rising
pub mod Tallies
mod ClientsMeetTheirClause
