pub mod Laws
pub mod Positions
