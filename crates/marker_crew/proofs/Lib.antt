pub mod Shares
pub mod Working
pub mod Reading
pub mod Claiming
pub mod Dealing
pub mod TracedWords
pub mod Starting
pub mod Joining
