pub mod RecordLaws
pub mod RefusalLaws
pub mod CallLaws
pub mod Cores
pub mod Demand
pub mod Deepest
pub mod Refusal10
