pub mod Parts
pub mod Reads
pub mod Laws
pub mod Copies
