pub mod Mod3FieldLemmas
