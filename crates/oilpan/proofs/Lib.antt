mod Lives
mod Resting
mod Frames
mod Pieces
mod Regions
mod Commands
mod Exports
mod ThreadClears
mod Cleared
mod Fielding
mod Keeping
mod Making
mod Slots
mod Cycling
mod Stepping
mod FieldReads
pub mod Limits
pub mod Naming
