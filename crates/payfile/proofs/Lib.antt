pub mod Marks
pub mod Numerals
pub mod Puts
pub mod Files
pub mod Parsed
pub mod Opened
