pub mod GatherLeft
pub mod DirectGather
