pub mod Ours
pub mod Theorems
