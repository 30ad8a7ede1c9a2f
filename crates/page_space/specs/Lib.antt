pub mod Walks
pub mod Pages
pub mod TableFields
pub mod Space
pub mod SpaceFields
pub mod Occupying
pub mod Opening
pub mod Found
-- Words of the crates below that the crates above name too.
pub use Rattle.gap_bounds.specs.BodyPlaces
pub use Rattle.gap_bounds.specs.Seat
