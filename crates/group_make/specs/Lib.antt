pub mod Group
pub mod Rows
