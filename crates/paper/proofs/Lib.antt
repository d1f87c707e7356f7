pub mod Computed
pub mod Play
pub mod Marked
pub mod Acts
pub mod InOrder
