pub mod RunsOver
pub mod Theorems
pub mod Course
pub mod TwoEnds
pub mod TestLink
pub mod Down
