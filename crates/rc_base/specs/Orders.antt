-- Synchronisation, journals, and the orders of the commands of all clients.
pub mod Sync
pub mod Journal
pub mod Grant
pub mod Book
pub mod Order
pub mod Footprints
