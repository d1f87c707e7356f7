pub mod FirstRefused
pub mod Named
pub mod NewTable
pub mod EventFits
