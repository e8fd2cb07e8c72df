pub mod Statement
pub mod Links
