pub mod Held
pub mod Narrow
pub mod CallLaws
pub mod Exact
pub mod Demand
pub mod Deepest
pub mod Refusal10
