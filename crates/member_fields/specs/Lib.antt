pub mod Words
pub mod Looked
pub mod Barrier
-- What is asked of a private call.
pub mod Keys
