-- What contracts cite.
pub mod Pieces
