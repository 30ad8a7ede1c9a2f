pub mod SmallHeap
pub mod Seats
pub mod ThreeObjects
