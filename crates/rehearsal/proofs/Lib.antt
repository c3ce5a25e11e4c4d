pub mod Sides
pub mod Standings
pub mod OpenTurns
pub mod Joining
pub mod Spoiling
pub mod Runs
pub mod SealRuns
pub mod OpenRuns
