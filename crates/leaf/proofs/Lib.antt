pub mod LeafWords
pub mod TreeSteps
pub mod SilentAnswers
pub mod RowsWritten
