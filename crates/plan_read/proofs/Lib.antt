-- `Steps`: the parts of a read.
pub mod Steps
