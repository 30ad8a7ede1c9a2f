pub mod Bodies
pub mod Roles
pub mod Seat
pub mod Heaps
pub mod Rule
pub mod Markers
pub mod MarkerRule
-- Lemmas that the crates above cite too, since a crate's proofs/ can't be cited from another.
pub mod BodyPlaces
pub mod PlaceTests
pub mod WrittenBodies
pub mod Looking
pub mod StartBits
-- Words of the crates below that the crates above name too.
pub use Rattle.marker_core.specs.Bodies as MachineBodies
pub use Rattle.marker_core.specs.Closed
pub use Rattle.marker_core.specs.Hands
pub use Rattle.marker_core.specs.Layout
pub use Rattle.marker_core.specs.Matching
pub use Rattle.marker_core.specs.SeatFacts
pub use Rattle.marker_core.specs.SeatLaws
pub use Rattle.marker_core.specs.declared.states.Body
pub use Rattle.marker_core.specs.declared.states.Hand
pub use Rattle.marker_core.specs.declared.states.Part
pub use Rattle.type_table.specs.KindLaws
pub use Rattle.type_table.specs.TracedWords
pub use Rattle.type_table.specs.Types
pub use Rattle.type_table.specs.declared.traced.TracedWord
