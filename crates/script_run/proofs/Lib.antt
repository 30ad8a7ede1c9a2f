pub mod Writing
pub mod HeldBack
pub mod OneMore
pub mod LawfulRuns
pub mod Printing
pub mod Reports
pub mod Summaries
pub mod Inputs
pub mod Runnable
pub mod Outcomes
pub mod Complete
pub mod WithoutOptions
mod Statuses
