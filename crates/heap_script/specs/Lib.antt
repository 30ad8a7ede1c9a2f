-- What contracts cite.
pub mod Scripts
-- What the crate's own code cites.
pub mod Headers
pub mod Past
pub mod TypeLines
pub mod Reading
