pub mod Transmitting
pub mod Transmitted
