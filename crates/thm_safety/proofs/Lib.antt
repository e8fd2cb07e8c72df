-- Of any group: `Effects`, what each call does; `Links`, the claims of specs/Links.
-- Of groups that calls leave: the `Invariant`; `Changed`, `Turns`, `Calls`, what one call keeps of it; `Sound`, that all have it.
-- `OnSlot`, `Held`, `Bytes`, `Reader`, `Own`: a call on a slot, what an element holds, where each byte came from, what a read hands out, whose
-- bytes a call touches and sees. `Theorem`, `Progress`, `Dropped`: the claims of specs/Statement.
pub mod Lists
pub mod Effects
pub mod Links
pub mod Invariant
pub mod Changed
pub mod Turns
pub mod Calls
pub mod Sound
pub mod OnSlot
pub mod Held
pub mod Bytes
pub mod Reader
pub mod Own
pub mod Theorem
pub mod Progress
pub mod Dropped
pub mod Failing
