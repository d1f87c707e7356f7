pub mod Listed
pub mod Shaped
pub mod LaterCounts
pub mod Sizes
pub mod TwoTables
