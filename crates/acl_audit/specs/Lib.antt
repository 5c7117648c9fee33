pub mod Checks
pub mod Quiet
pub mod Dump
