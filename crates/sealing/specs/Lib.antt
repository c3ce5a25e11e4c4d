pub mod Running
pub mod Seal
pub mod Handing
pub mod Sealer
