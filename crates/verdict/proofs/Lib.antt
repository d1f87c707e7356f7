pub mod Zipped
pub mod SheetAt
