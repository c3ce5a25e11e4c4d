pub mod Gathering
pub mod Halving
pub mod Turning
pub mod Keying
