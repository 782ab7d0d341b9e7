pub mod Orders
pub mod Bytes
