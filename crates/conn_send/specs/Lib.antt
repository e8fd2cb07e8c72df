pub mod Produced
pub mod Transmit
