pub mod Layers
pub mod Starts
pub mod Signatures
pub mod Worked
