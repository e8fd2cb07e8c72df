pub mod FlatLink
pub mod Statement
