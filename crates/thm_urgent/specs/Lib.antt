pub mod Urgent
pub mod Gather
