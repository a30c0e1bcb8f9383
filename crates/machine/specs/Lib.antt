pub mod Checks
pub mod Cores
pub mod CallContracts
pub mod Chains
pub mod Refusal10
