pub mod Steps
pub mod Ends
pub mod Whole
pub mod Writes
pub mod Fronts
pub mod Parts
pub mod Pieces
