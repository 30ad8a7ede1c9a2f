pub mod Queues
pub mod Going
-- What the crate's own code cites.
pub mod Orders
pub mod Endings
pub mod Runs
-- Lemmas for the crates above.
pub mod Falling
-- Words of the crate below that the crates above name too.
pub use Rattle.heap_stats.specs.Boards
pub use Rattle.heap_stats.specs.declared.totals.Totals
