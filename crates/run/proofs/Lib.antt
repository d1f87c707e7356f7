pub mod MarkedHistory
