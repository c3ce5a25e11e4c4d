pub mod Speck
pub mod Held
pub mod Rounds
pub mod Rotate
