pub mod Looks
pub mod Masking
pub mod InTurn
pub mod Asked
pub mod FirstToLast
pub mod LastToFirst
pub mod Answering
