mod Hexes
mod Splits
mod Exits
mod Asked
mod Seals
mod Texts
mod Opens
mod Sizes
