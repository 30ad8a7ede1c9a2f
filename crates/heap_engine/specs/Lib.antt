pub mod View
pub mod FieldSteps
pub mod Going
pub mod Ended
pub mod CarriedOut
pub mod Sound
pub mod Acted
-- Words of the crates below that the crates above name too.
pub use Rattle.heap_cycle.specs.Objects
pub use Rattle.heap_cycle.specs.Printed
