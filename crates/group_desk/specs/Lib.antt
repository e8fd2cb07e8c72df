pub mod Linkstate
pub mod Management
