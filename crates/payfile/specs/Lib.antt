pub mod Refusals
pub mod Layout
pub mod Write
pub mod Open
