pub mod Laying
pub mod Spots
pub mod Pieces
pub mod Walks
pub mod Joining
pub mod Holding
