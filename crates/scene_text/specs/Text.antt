-- How a text spells a scene: its lines say one thing each, and what they say, in order, is the scene.
pub mod Statements
pub mod Printed
pub mod Read
pub mod Faults
