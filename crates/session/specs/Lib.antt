pub mod Puts
pub mod Sessions
pub mod Runs
