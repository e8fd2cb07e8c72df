pub mod Vectors
pub mod Urgent
pub mod Failover
