-- `Urgent`, `UrgentEnds`: the claims of specs/Urgent, about groups and about the two ends. `Gather`: those of specs/Gather.
pub mod Urgent
pub mod UrgentEnds
pub mod Gather
