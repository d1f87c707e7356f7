pub mod Knowledge
pub mod World
pub mod Run
