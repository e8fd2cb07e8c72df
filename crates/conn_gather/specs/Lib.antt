pub mod Pieces
pub mod Statement
