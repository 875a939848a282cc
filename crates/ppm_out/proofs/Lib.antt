pub mod SideDigits
pub mod Steps
pub mod Turns
pub mod Ending
pub mod Spelled
pub mod Walk
pub mod Framed
