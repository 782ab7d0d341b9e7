pub mod Columns
pub mod LayerSums
pub mod PlaceParts
pub mod FinishParts
pub mod SignatureLaws
pub mod VerifiedBytes
pub mod SignedCases
