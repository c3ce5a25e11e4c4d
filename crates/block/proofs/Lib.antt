pub mod Laws
pub mod Halves
pub mod Bytes
pub mod Filling
