pub mod Pool
pub mod Steps
pub mod Statement
