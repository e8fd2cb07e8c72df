-- `Laws`: why each exported call's contract follows from those of the functions that it calls.
pub mod Laws
