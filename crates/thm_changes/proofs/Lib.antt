-- `Acted`, `Memory`, `Course`: the slot, the bytes and the record that a call changes; `Changes`, `Memory`: the claims of specs/Changes.
-- `Numbers`: the claim of specs/Numbers. `Gauges`: those of specs/Gauges.
pub mod Acted
pub mod Memory
pub mod Course
pub mod Changes
pub mod Numbers
pub mod Gauges
