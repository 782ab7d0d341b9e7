pub mod SecretKeys
pub mod PublicKeys
pub mod Verdicts
pub mod Worked
