pub mod DecimalLengths
pub mod PieceByPiece
