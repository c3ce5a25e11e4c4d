pub mod Computed
pub mod Linear
pub mod Boxes
pub mod Mixing
