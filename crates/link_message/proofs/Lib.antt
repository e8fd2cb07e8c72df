pub mod LlcTable
pub mod Named
pub mod Rows
pub mod RoundTrip
pub mod Table
pub mod Adding
