mod MoreTurns
mod Powers
mod Ranges
