-- What code cites.
pub mod Cursor
pub mod QuickWords
-- Lemmas for the crates above.
pub mod LineParts
