pub mod Bits
pub mod Laws
pub mod Places
pub mod At
