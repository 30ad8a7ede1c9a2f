mod Members
mod Apart
mod Edges
pub mod Reached
mod Counts
mod Headers
mod Offsets
mod Frames
mod Tricolour
mod Turns
pub mod Settled
mod Loads
mod Traces
mod Fills
mod Rewords
mod Remarks
mod Marked
mod Claims
mod Claimed
mod Quiet
mod Unmarks
mod Stops
mod Maps
mod Written
mod Stores
mod StartBits
mod Published
mod Publishes
mod Retracts
mod Retold
mod Lends
mod Polls
mod Looks
mod MarkerClaims
mod MarkerMarks
pub mod Kept
pub mod Cycles
pub mod Leads
pub mod FirstState
pub mod SeatSteps
pub mod SeatEnds
pub mod SeatPublishes
pub mod SeatFacts
pub mod MarkerLaws
pub mod MarkerFacts
