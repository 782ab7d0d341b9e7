pub mod Shapes
pub mod Refusals
pub mod Heads
pub mod Sets
pub mod Seen
pub mod Listed
