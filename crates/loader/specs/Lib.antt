pub mod Keys
pub mod Faults
pub mod Lines
pub mod Passes
