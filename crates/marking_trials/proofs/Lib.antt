pub mod SmallHeap
pub mod NewSeats
pub mod Young
pub mod UnderWay
