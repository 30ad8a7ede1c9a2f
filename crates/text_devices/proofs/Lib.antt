pub mod PieceByPiece
