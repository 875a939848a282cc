pub mod Texels
pub mod Accepted
pub mod OneMoreCommand
pub mod PushAndPop
pub mod ImagesGoOn
pub mod OneElement
pub mod ValidContexts
pub mod CountedBlocks
mod BlocksOfCommands
