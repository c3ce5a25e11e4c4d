pub mod Last
pub mod Reading
pub mod Judging
pub mod Open
pub mod Standing
pub mod Segment
pub mod Opener
