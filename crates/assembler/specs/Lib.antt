pub mod Parts
pub mod Drawn
pub mod Places
pub mod Assembled
pub mod Assemblers
pub mod Lent
pub mod Laws
pub mod Underway
