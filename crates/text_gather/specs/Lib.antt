pub mod GatherText
