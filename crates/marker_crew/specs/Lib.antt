pub mod Stages
pub mod Hands
pub mod Drains
pub mod Crews
pub mod Steps
pub mod Lending
pub mod Joined
pub mod Runners
-- Words of the crates below that the crates above name too.
pub use Rattle.pair_notes.specs.BodyGraph
pub use Rattle.pair_notes.specs.BodyLeads
pub use Rattle.pair_notes.specs.Fields
pub use Rattle.pair_notes.specs.Marking
pub use Rattle.pair_notes.specs.Notes
pub use Rattle.pair_notes.specs.declared.notes.Note
