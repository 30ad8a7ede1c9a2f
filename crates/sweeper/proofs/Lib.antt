pub mod Filters
pub mod Places
pub mod Serials
pub mod Counts
pub mod Sweeping
pub mod Ends
