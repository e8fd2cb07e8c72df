pub mod Setup
pub mod Statements
