pub mod Llc
pub mod Layouts
pub mod Names
