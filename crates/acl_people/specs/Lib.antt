pub mod Person
pub mod Host
pub mod HostFailures
pub mod People
pub mod Asked
pub mod Elsewhere
