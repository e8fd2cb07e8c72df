pub mod Flat
pub mod Statement
pub mod View
