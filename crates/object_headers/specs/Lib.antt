pub mod Layout
pub mod Offsets
