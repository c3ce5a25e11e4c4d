pub mod Filling
pub mod Turns
