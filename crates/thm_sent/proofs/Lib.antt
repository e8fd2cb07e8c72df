-- `Way`: what is under way from one position to another. `Direction`: one direction between two ends, one step for each act of either.
-- `Follows`: what a call keeps of a connection's record. `Sends`, `Receives`, `Hears`: what each call makes of it, in the plain engine's
-- positions. `Named`: the bytes that a send names. `Slots`: what a call does to the connection's slot.
-- `Pair`: what holds of both ends and both directions, and telling. `OnlySentTheoremSends`, `OnlySentTheoremReceives`: one event at an end where the connection is open,
-- by what it is to the connection; `Step`: any call. `Run`: that open, and all events. `Theorem`, `Buffer`, `Reuse`, `Refused`: the claims
-- of only_sent.
-- `Rules`: the rules, unfolded. `Lists`: lists of events, and the premises tested. `Witness`: two connections in the same slots, one after
-- the other. `Limits`: lists that break one premise each; a slot closed by A heard, and by free. `OnlySentWitnessRefused`: strangers' calls.
pub mod Way
pub mod Direction
pub mod Follows
pub mod Sends
pub mod Receives
pub mod Hears
pub mod Named
pub mod Slots
pub mod Pair
pub mod OnlySentTheoremSends
pub mod OnlySentTheoremReceives
pub mod Step
pub mod Run
pub mod Theorem
pub mod Buffer
pub mod Reuse
pub mod Refused
pub mod Rules
pub mod Lists
pub mod Witness
pub mod Limits
pub mod OnlySentWitnessRefused
