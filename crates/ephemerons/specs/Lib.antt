pub mod Traces
pub mod Fixpoint
pub mod LookedAt
pub mod UnderWay
-- What the private functions of the fixpoint say.
pub mod Tracers
-- Lemmas that the crates above cite too, since a crate's proofs/ can't be cited from another.
pub mod ListedMarks
pub mod Accounted
pub mod UnderWayStays
pub mod ReadyStays
pub mod LookedPlaces
-- Words of the crates below that the crates above name too.
pub use Rattle.pair_notes.specs.BodyGraph
pub use Rattle.pair_notes.specs.Marking
pub use Rattle.pair_notes.specs.Notes
