pub mod Changes
pub mod Numbers
pub mod Gauges
