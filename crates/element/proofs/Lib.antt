-- `Laws`: lists, for copying loops and parts of a slice. `Calls`: each call where it acts and where it leaves all as it is. `Free`: runs
-- of free bytes in closed form. For callers, `Others`: a splice, a fresh element and a reader's bytes, and `Elements`: those of one memory.
pub mod Laws
pub mod Calls
pub mod Free
pub mod Others
pub mod Elements
