-- `Theorem` proves the claims of specs/Statement; `Witness` shows that their premises can be met. Below them, from the rules upwards:
-- `Records`: what one call leaves of its slot. `Slots`: the slots of a group. `Acts`: a connection call refuses, or puts back one turn of
-- one slot; who sees what. `Near`: the groups of one span. `Management`: desk calls keep own tokens apart. `Spans`: one span in two orders.
-- `Orders`: a whole list. `Lists` and `Scripts`: lists of numbers.
pub mod Lists
pub mod Scripts
pub mod Records
pub mod Slots
pub mod Acts
pub mod Near
pub mod Management
pub mod Spans
pub mod Orders
pub mod Theorem
pub mod Witness
