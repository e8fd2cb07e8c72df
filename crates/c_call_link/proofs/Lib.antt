-- `Laws`: why the answer that is told is the rules'. `Theorem`: every call has a number. `Lines`: the page's table of replies as
-- nested tests.
pub mod Laws
pub mod Lines
pub mod Theorem
