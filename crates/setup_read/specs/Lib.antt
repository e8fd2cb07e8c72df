pub mod Clc
pub mod Codes
pub mod Places
