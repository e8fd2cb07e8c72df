-- `Memory`: the element of a slot in the memory. `Settled`: what a call on one record promises, from what its refusals and its step gave.
-- `Says`: the answer that refuses, and the one that accepts.
pub mod Memory
pub mod Settled
pub mod Joined
pub mod Says
