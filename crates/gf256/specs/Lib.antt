pub mod Field
pub mod Sbox
pub mod Columns
