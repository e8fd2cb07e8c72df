pub mod Known
pub mod Writing
pub mod Fits
pub mod Written
pub mod RoundTrip
