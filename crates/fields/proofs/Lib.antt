pub mod Runs
pub mod Additions
