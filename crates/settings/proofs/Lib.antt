pub mod WordLaws
pub mod ScanLaws
pub mod Chunks
pub mod Examples
pub mod IntakeLaws
pub mod TransferLaws
