pub mod Fips197
pub mod Vectors
pub mod Lawful
pub mod Undo
