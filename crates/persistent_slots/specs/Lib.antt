pub mod Clearing
pub mod Steady
