pub mod Lists
pub mod Left
pub mod Lending
pub mod Refusals
pub mod Hands
pub mod Ends
pub mod Shares
pub mod Families
pub mod Linking
pub mod Joining
pub mod SharedLending
-- Lemmas that the crates above cite too, since a crate's proofs/ can't be cited from another.
pub mod Kept
pub mod OneMore
pub mod AsMany
pub mod Told
