pub mod Beneath
