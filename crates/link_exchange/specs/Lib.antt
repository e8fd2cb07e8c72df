pub mod Exchange
pub mod Fates
