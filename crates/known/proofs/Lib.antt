pub mod GoingDown
