pub mod GetErrors
pub mod Handles
pub mod Frame
pub mod Rest
pub mod Region
pub mod Asked
pub mod Clearing
pub mod Cycles
pub mod Fields
pub mod Made
pub mod DeclaredTypes
pub mod FaultErrors
pub mod Named
pub mod TypesErrors
-- Words of the crate below that programs name too.
pub use Rattle.heap_engine.specs.Objects
pub use Rattle.heap_engine.specs.View
