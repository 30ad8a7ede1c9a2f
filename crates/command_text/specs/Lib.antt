-- What the crate's own code cites.
pub mod Ranks
pub mod Rows
pub mod Said
pub mod RowLines
pub mod CommandLines
pub mod QuickLines
-- Lemmas that the crates above need too.
pub mod PlainForms
