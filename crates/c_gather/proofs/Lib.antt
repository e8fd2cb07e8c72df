-- `Pieces`: cut from the placings, the pieces are the rules'. `Laws`: what the proofs cite.
pub mod Pieces
pub mod Laws
