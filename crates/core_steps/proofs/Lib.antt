pub mod NextOffsets
pub mod Fitting
pub mod MapLoop
pub mod Flags
pub mod Readable
pub mod Runs
pub mod ViewSets
