pub mod RunsOver
pub mod Statements
pub mod Course
pub mod TestLink
