pub mod Passes
-- Lemmas for the crates above.
pub mod Own
-- What the crate's own code cites. Of these its public contracts cite `Continues`, `BeginsOther`,
-- `longer` and `without` alone.
pub mod Rule
pub mod Plays
pub mod Counts
-- A word of the crate below that the crates above name too.
pub use Rattle.atomic_table.specs.Seated
