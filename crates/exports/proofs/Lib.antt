pub mod Loaded
pub mod Choices
