pub mod Keys
pub mod BodyGraph
pub mod Marking
pub mod Notes
pub mod InHand
-- Lemmas that the crates above cite too, since a crate's proofs/ can't be cited from another.
pub mod Fields
pub mod PairFields
pub mod BodyLeads
pub mod FieldWords
pub mod HandPath
