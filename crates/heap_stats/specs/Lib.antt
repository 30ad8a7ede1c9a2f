pub mod Boards
-- A lemma for the crates above.
pub mod LaterTotals
-- What the crate's own code cites.
pub mod Rule
-- A word of the crate below that the crates above name too.
pub use Rattle.atomic_table.specs.Seated
