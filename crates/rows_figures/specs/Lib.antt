pub mod Classes
pub mod Figures
