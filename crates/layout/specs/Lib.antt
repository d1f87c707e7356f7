pub mod FolderSums
