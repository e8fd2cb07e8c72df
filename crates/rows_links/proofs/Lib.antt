pub mod Vectors
pub mod All
