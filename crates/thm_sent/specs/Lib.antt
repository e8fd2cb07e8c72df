pub mod Books
pub mod OnlySent
pub mod Plain
pub mod Reuse
