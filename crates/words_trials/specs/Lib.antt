pub mod Objects
pub mod Ends
