pub mod Calls
pub mod SealLaw
pub mod OpenLaw
pub mod Joined
pub mod Law
