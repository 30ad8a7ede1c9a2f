pub mod Bounds
pub mod BoundsFields
pub mod Gaps
pub mod GapFields
pub mod Changes
-- Lemmas that the crates above cite too, since a crate's proofs/ can't be cited from another.
pub mod Spans
-- Words of the crates below that the crates above name too.
pub use Rattle.page_words.specs.Body
pub use Rattle.page_words.specs.BodyPlaces
pub use Rattle.page_words.specs.Layout
pub use Rattle.page_words.specs.MachineBodies as Bodies
pub use Rattle.page_words.specs.Matching
pub use Rattle.page_words.specs.Roles
pub use Rattle.page_words.specs.Seat
pub use Rattle.page_words.specs.SeatFacts
pub use Rattle.page_words.specs.SeatLaws
pub use Rattle.page_words.specs.StartBits
