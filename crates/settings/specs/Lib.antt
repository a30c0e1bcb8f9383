pub mod Scans
pub mod Transfers
pub mod Intakes
