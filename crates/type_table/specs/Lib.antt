pub mod Types
pub mod TracedWords
pub mod Layouts
pub mod Faults
pub mod FieldLaw
-- Lemmas that the crates above cite too, since a crate's proofs/ can't be cited from another.
pub mod KindLaws
pub mod TracedLaws
