pub mod RegisteredNodes
pub mod Pieces
pub mod StartSteps
pub mod EnteredRegion
pub mod BeginSteps
pub mod MayTaken
pub mod PauseStates
pub mod PauseSteps
pub mod CollectSteps
pub mod SweptObjects
pub mod PlacementSteps
pub mod SweepSteps
pub mod WayToPlace
pub mod PauseKeeps
mod CrewSteps
pub mod OutcomeLines
