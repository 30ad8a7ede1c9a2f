pub mod NoFields
pub mod AgedHeaps
pub mod EndSteps
pub mod TwoObjects
