pub mod Terms
pub mod RowWrites
pub mod RowSums
pub mod Columns
pub mod Blocks
pub mod Units
