pub mod Receiving
pub mod Calls
